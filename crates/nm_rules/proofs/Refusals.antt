-- What a refusal's value can be, and what locks leave alone.
use Rattle.std.proofs.Common.{◌≡◌, ℕ, Bool, true, false, cond, List, Option, Some, None, refl}
use Rattle.std.specs.Prelude.{option_map}
use Rattle.nm_types.specs.Parties.{Party}
use Rattle.nm_rules.specs.Contents.TreeWord.{Untouched}
use Rattle.nm_rules.specs.LockOps.{lock_value, lock_denied, test_denied}
use Rattle.nm_rules.specs.Shares.OpenWord.{Keep}
use Rattle.nm_rules.specs.LockAsks.{lock_owner}
use Rattle.nm_rules.specs.Seqids.{OwnerWord}
use Rattle.nm_rules.specs.Seqids.OwnerWord.{Stays, Noted, Gone}
use Rattle.nm_rules.specs.Past.{Now, Words, noted_row, started, started_by, lock_starts, ended, lock_words, locked_words, unlock_words, release_words}
use Rattle.nm_rules.specs.Seen.{Seen, look}
use Rattle.nm_rules.specs.Answer.{ok_value, refused_value, denied_value, refusal_value, is_denial}
use Rattle.nm_types.specs.declared.args.LockArgs.{LockArgs}
use Rattle.nm_types.specs.declared.args.LockTestArgs.{LockTestArgs}
use Rattle.nm_types.specs.declared.args.Locker.{Locker}
use Rattle.nm_types.specs.declared.args.Locker.TheVariants.{New, Known}
use Rattle.nm_types.specs.declared.args.UnlockArgs.{UnlockArgs}
use Rattle.nm_types.specs.declared.calls.Call.{Call}
use Rattle.nm_types.specs.declared.calls.Deed.{Deed}
use Rattle.nm_types.specs.declared.calls.Deed.TheVariants as deed
use Rattle.nm_types.specs.declared.calls.Reply.{Reply}
use Rattle.nm_types.specs.declared.calls.ReplyValue.{ReplyValue}
use Rattle.nm_types.specs.declared.calls.ReplyValue.TheVariants as told
use Rattle.nm_types.specs.declared.calls.StateId.{StateId}
use Rattle.nm_types.specs.declared.results.Denied.{Denied}
use Rattle.nm_types.specs.declared.results.LockOutcome.{LockOutcome}
use Rattle.nm_types.specs.declared.results.LockOutcome.TheVariants.{Locked, Denied as IsDenied}
use Rattle.nm_types.specs.declared.status.OpStatus.{OpStatus}

-- A refusal carries what every refusal of its operation does, or what is in the way of a lock.
pub by_refusal : (P : Deed → ReplyValue → Type 0) → ((d : Deed) → P d (refused_value d))
    → ((args : LockArgs) (o : Option Denied) → P (deed.Lock args) (told.Lock (option_map IsDenied o)))
    → ((args : LockTestArgs) (o : Option Denied) → P (deed.LockTest args) (told.LockTest o))
    → (s : Seen) (caller : Option Party) (file : ℕ) (d : Deed) (status : OpStatus) → P d (refusal_value s caller file d status)
by_refusal P refused lock test s caller file d status = by_denial (is_denial status)
  where
    denied : (d : Deed) → P d (denied_value s caller file d)
    denied (deed.Lock args) = lock args (lock_denied s file args)
    denied (deed.LockTest args) = test args (test_denied s caller file args)
    denied (deed.Access args) = refused (deed.Access args)
    denied (deed.Close args) = refused (deed.Close args)
    denied (deed.Commit args) = refused (deed.Commit args)
    denied (deed.Create args) = refused (deed.Create args)
    denied (deed.GetAttr args) = refused (deed.GetAttr args)
    denied (deed.Lookup args) = refused (deed.Lookup args)
    denied deed.LookupP = refused deed.LookupP
    denied (deed.Open args) = refused (deed.Open args)
    denied (deed.OpenConfirm args) = refused (deed.OpenConfirm args)
    denied (deed.OpenDowngrade args) = refused (deed.OpenDowngrade args)
    denied (deed.Read args) = refused (deed.Read args)
    denied (deed.ReadDir args) = refused (deed.ReadDir args)
    denied (deed.ReleaseLockOwner args) = refused (deed.ReleaseLockOwner args)
    denied (deed.Remove args) = refused (deed.Remove args)
    denied (deed.SetAttr args) = refused (deed.SetAttr args)
    denied (deed.Unlock args) = refused (deed.Unlock args)
    denied (deed.Write args) = refused (deed.Write args)

    by_denial : (b : Bool) → P d (cond b (denied_value s caller file d) (refused_value d))
    by_denial true = denied d
    by_denial false = refused d

-- ---- locks leave files and opens as they are

pub record KeepsRest (w : Words) : Type 0 where
  pub tree : w.tree ≡ Untouched
  pub opens : w.opens ≡ Keep

pub locked_keeps : (n : Now) (caller : Option Party) (file : ℕ) (args : LockArgs) (counter : ℕ) (locker : Locker) → KeepsRest (locked_words n caller file args counter locker)
locked_keeps n None file args counter (New open_seqid stateid lock_seqid text) = record { tree = refl; opens = refl }
locked_keeps n (Some party) file args counter (New open_seqid stateid lock_seqid text) = record { tree = refl; opens = refl }
locked_keeps n caller file args counter (Known stateid lock_seqid) = record { tree = refl; opens = refl }

pub lock_keeps : (n : Now) (caller : Option Party) (file : ℕ) (args : LockArgs) (o : Option LockOutcome) → KeepsRest (lock_words n caller file args (told.Lock o))
lock_keeps n caller file args None = record { tree = refl; opens = refl }
lock_keeps n caller file args (Some (Locked id)) = locked_keeps n caller file args id.counter args.locker
lock_keeps n caller file args (Some (IsDenied denied)) = record { tree = refl; opens = refl }

pub unlock_keeps : (n : Now) (args : UnlockArgs) (o : Option StateId) → KeepsRest (unlock_words n args (told.Unlock o))
unlock_keeps n args None = record { tree = refl; opens = refl }
unlock_keeps n args (Some id) = record { tree = refl; opens = refl }

pub release_keeps : (caller : Option Party) (text : List ℕ) (released : Bool) → KeepsRest (release_words caller text (told.ReleaseLockOwner released))
release_keeps caller text false = record { tree = refl; opens = refl }
release_keeps None text true = record { tree = refl; opens = refl }
release_keeps (Some party) text true = record { tree = refl; opens = refl }

-- ---- what starts or releases a lock owner

-- By an operation that nothing stops no owner starts, or one that a LOCK names as new, or one goes that a RELEASE_LOCKOWNER names.
pub by_start : (P : OwnerWord → Type 0) (s : Seen) (call : Call) (r : Reply) → P Stays
    → ((party : Party) (text : List ℕ) (seqid : ℕ) (args : LockArgs) → call.deed ≡ deed.Lock args
    → P (Noted (noted_row ((look s).owner_by (lock_owner party text)) (lock_owner party text) seqid call r) None))
    → ((party : Party) (text : List ℕ) → P (Gone (lock_owner party text)))
    → (caller : Option Party) (file : ℕ) (d : Deed) → call.deed ≡ d → P (started_by (look s) call r d (ok_value s caller file d))
unfolding started_by
by_start P s call r stays starts goes caller file (deed.Access _) it = stays
by_start P s call r stays starts goes caller file (deed.Close _) it = stays
by_start P s call r stays starts goes caller file (deed.Commit _) it = stays
by_start P s call r stays starts goes caller file (deed.Create _) it = stays
by_start P s call r stays starts goes caller file (deed.GetAttr _) it = stays
by_start P s call r stays starts goes caller file (deed.Lock args) it = by_outcome (lock_value s args)
  where
    by_locker : (its_caller : Option Party) (locker : Locker) → P (started (look s) call r its_caller locker)
    by_locker None (New open_seqid stateid lock_seqid text) = stays
    by_locker (Some party) (New open_seqid stateid lock_seqid text) = starts party text lock_seqid args it
    by_locker None (Known stateid lock_seqid) = stays
    by_locker (Some party) (Known stateid lock_seqid) = stays

    by_outcome : (o : Option LockOutcome) → P (lock_starts (look s) call r args.locker (told.Lock o))
    by_outcome None = stays
    by_outcome (Some (Locked id)) = by_locker call.caller args.locker
    by_outcome (Some (IsDenied denied)) = stays
by_start P s call r stays starts goes caller file (deed.LockTest _) it = stays
by_start P s call r stays starts goes caller file (deed.Lookup _) it = stays
by_start P s call r stays starts goes caller file deed.LookupP it = stays
by_start P s call r stays starts goes caller file (deed.Open _) it = stays
by_start P s call r stays starts goes caller file (deed.OpenConfirm _) it = stays
by_start P s call r stays starts goes caller file (deed.OpenDowngrade _) it = stays
by_start P s call r stays starts goes caller file (deed.Read _) it = stays
by_start P s call r stays starts goes caller file (deed.ReadDir _) it = stays
by_start P s call r stays starts goes caller file (deed.ReleaseLockOwner args) it = by_caller call.caller
  where
    by_caller : (its_caller : Option Party) → P (ended its_caller args.owner)
    by_caller None = stays
    by_caller (Some party) = goes party args.owner
by_start P s call r stays starts goes caller file (deed.Remove _) it = stays
by_start P s call r stays starts goes caller file (deed.SetAttr _) it = stays
by_start P s call r stays starts goes caller file (deed.Unlock _) it = stays
by_start P s call r stays starts goes caller file (deed.Write _) it = stays
