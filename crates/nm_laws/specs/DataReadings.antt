-- For whose open a stateid stands, and who may read and write a file, in the standard's words, read off the entries alone (RFC 7530, 9.1.4,
-- 9.1.4.3, 9.9, 16.10 and 16.16).
use Rattle.std.specs.Prelude.{◌≡◌, ◌≢◌, ◌==◌, ℕ, true, false, [], ◌∷◌, Option, Some, None, if◌then◌else◌}
use Rattle.nm_types.specs.Parties.{Party}
use Rattle.nm_rules.specs.LockAsks.{counter_of}
use Rattle.nm_rules.specs.Past.{Past, Now, now, acts, opener}
use Rattle.nm_rules.specs.Readings.{Share, share_of}
use Rattle.nm_rules.specs.Shares.{meets}
use Rattle.nm_types.specs.declared.args.Locker.{Locker}
use Rattle.nm_types.specs.declared.args.Locker.TheVariants.{New, Known}
use Rattle.nm_types.specs.declared.calls.Deed.{Deed}
use Rattle.nm_types.specs.declared.calls.Deed.TheVariants as deed
use Rattle.nm_types.specs.declared.calls.Event.{Event}
use Rattle.nm_types.specs.declared.calls.Event.TheVariants.{Asked, Ended}
use Rattle.nm_types.specs.declared.calls.Owner.{Owner}
use Rattle.nm_types.specs.declared.calls.Reply.{Reply}
use Rattle.nm_types.specs.declared.calls.ReplyValue.{ReplyValue}
use Rattle.nm_types.specs.declared.calls.ReplyValue.TheVariants as told
use Rattle.nm_types.specs.declared.calls.StateRef.{StateRef}
use Rattle.nm_types.specs.declared.calls.StateRef.TheVariants.{Zeros, Ones, Named}
use Rattle.nm_types.specs.declared.results.LockOutcome.TheVariants.{Locked}

-- what an entry says of the stateid that it tells
pub data StateIdSaid : Type 0 where
  NothingSaid : StateIdSaid
  -- the one with that counter is for an open of that owner
  ForOpen : ℕ → Owner → StateIdSaid
  -- the one with that counter is for locks by the open that has the other counter
  ForLocks : ℕ → ℕ → StateIdSaid

-- A new lock owner's LOCK names the stateid of an open.
abbrev pub locker_said : Locker → ℕ → StateIdSaid
locker_said (New open_seqid stateid lock_seqid text) counter = ForLocks counter (counter_of stateid)
locker_said (Known stateid lock_seqid) counter = NothingSaid

abbrev pub deed_said : Deed → Option Party → ReplyValue → StateIdSaid
deed_said (deed.Open args) (Some party) (told.Open (Some opened)) = ForOpen opened.ok.stateid.counter (opener party args)
deed_said (deed.Lock args) _ (told.Lock (Some (Locked id))) = locker_said args.locker id.counter
deed_said _ _ _ = NothingSaid

abbrev pub entry_said : Now → Event → Reply → StateIdSaid
entry_said n (Asked call verdict) r = if acts n call r then deed_said call.deed call.caller r.value else NothingSaid
entry_said n (Ended party) r = NothingSaid

abbrev pub owner_after : StateIdSaid → (ℕ → Option Owner) → ℕ → Option Owner
owner_after NothingSaid before k = before k
owner_after (ForOpen counter owner) before k = if counter == k then Some owner else before k
owner_after (ForLocks counter opened) before k = if counter == k then before opened else before k

-- The owner whose open a stateid with that counter stands for: that of the latest OPEN that acted and told it; or of the open that the
-- LOCK named which acted and told it as a new lock owner's.
unfoldable pub opener_of : Past → ℕ → Option Owner
opener_of [] k = None
opener_of (x ∷ earlier) k = owner_after (entry_said (now earlier) x.event x.reply) (opener_of earlier) k

-- ---- who may

-- An open, where there is one, has that access: 1 reads, 2 writes.
abbrev pub HasAccess : Option Share → ℕ → Type 0
HasAccess None access = ⊥
HasAccess (Some share) access = meets access share.access ≡ true

-- An open, where there is one, doesn't deny it.
abbrev pub Permits : Option Share → ℕ → Type 0
Permits None access = Unit {0}
Permits (Some share) access = meets access share.deny ≡ false

-- The stateid stands for the open of an owner of the caller's own instance, who has the file open with that access, and no other owner
-- denies it.
pub record IsLetIn (es : Past) (caller : Option Party) (counter file access : ℕ) : Type 0 where
  pub owner : Owner
  pub own : caller ≡ Some owner.instance
  pub its : opener_of es counter ≡ Some owner
  pub can : HasAccess (share_of es owner file) access
  pub others : (other : Owner) → owner ≢ other → Permits (share_of es other file) access

-- no owner at all denies it
abbrev pub IsFreeFor : Past → ℕ → ℕ → Type 0
IsFreeFor es file access = (owner : Owner) → Permits (share_of es owner file) access

-- The stateid of all zeros is let in where nobody denies it, and that of all ones reads past denies.
abbrev pub MayRead : Past → Option Party → ℕ → StateRef → Type 0
MayRead es caller file Zeros = IsFreeFor es file 1
MayRead es caller file Ones = Unit {0}
MayRead es caller file (Named id) = IsLetIn es caller id.counter file 1

-- Neither of them writes past denies.
abbrev pub MayWrite : Past → Option Party → ℕ → StateRef → Type 0
MayWrite es caller file Zeros = IsFreeFor es file 2
MayWrite es caller file Ones = IsFreeFor es file 2
MayWrite es caller file (Named id) = IsLetIn es caller id.counter file 2
