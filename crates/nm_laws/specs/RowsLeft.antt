-- How many rows a call leaves where it is carried out, and by what else than rows it is limited.
use Rattle.std.specs.Prelude.{◌^◌, nat_le, ℕ, Bool, true, false, Option, Some, None}
use Rattle.std.specs.Option.{option_or}
use Rattle.nm_types.specs.Parties.{Party}
use Rattle.nm_rules.specs.Answer.{checks, ok_value, reply_with}
use Rattle.nm_rules.specs.Checks.{Checks, refuse_if}
use Rattle.nm_rules.specs.Opens.{draws_past_end, rows_taken, target, tree_limit}
use Rattle.nm_rules.specs.Seen.{Seen, after}
use Rattle.nm_types.specs.declared.args.Locker.{Locker}
use Rattle.nm_types.specs.declared.args.Locker.TheVariants.{New, Known}
use Rattle.nm_types.specs.declared.args.OpenArgs.{OpenArgs}
use Rattle.nm_types.specs.declared.calls.Call.{Call}
use Rattle.nm_types.specs.declared.calls.Deed.{Deed}
use Rattle.nm_types.specs.declared.calls.Deed.TheVariants as deed
use Rattle.nm_types.specs.declared.calls.Event.TheVariants.{Asked}
use Rattle.nm_types.specs.declared.calls.Verdict.{Verdict}
use Rattle.nm_types.specs.declared.status.OpStatus.{OpStatus}
use Rattle.nm_types.specs.declared.status.OpStatus.TheVariants.{Nfs4Ok, Resource}

-- the rows that are there once the call was answered OK
abbrev pub rows_if_done : Seen → Call → Verdict → ℕ
rows_if_done s call verdict = rows_taken (after s (Asked call verdict) (reply_with Nfs4Ok (ok_value s call.caller call.file call.deed)))

-- the limits of files, bytes and counters
abbrev pub open_other : Seen → Option Party → ℕ → OpenArgs → Option OpStatus
open_other s None file args = None
open_other s (Some party) file args =
    option_or (tree_limit s (target s file args) args.opentype) (refuse_if (draws_past_end s party file args) Resource)

abbrev pub locker_other : Seen → Locker → Option OpStatus
locker_other s (New open_seqid stateid lock_seqid text) = refuse_if (nat_le (2 ^ 63) s.last) Resource
locker_other s (Known stateid lock_seqid) = None

-- Only OPEN, LOCK and LOCKU are limited by rows.
abbrev pub is_limited : Deed → Bool
is_limited (deed.Lock args) = true
is_limited (deed.Open args) = true
is_limited (deed.Unlock args) = true
is_limited d = false

-- all limits of a call but that of rows
abbrev pub other_limit : Seen → Option Party → ℕ → Verdict → Deed → Option OpStatus
other_limit s caller file verdict (deed.Lock args) = locker_other s args.locker
other_limit s caller file verdict (deed.Open args) = open_other s caller file args
other_limit s caller file verdict (deed.Unlock args) = None
other_limit s caller file verdict d = (checks s caller file verdict d).limit

-- what refuses a call, were there room for any number of rows
abbrev pub but_rows : Seen → Option Party → ℕ → Verdict → Deed → Checks
but_rows s caller file verdict d = record (checks s caller file verdict d) { limit = other_limit s caller file verdict d }
