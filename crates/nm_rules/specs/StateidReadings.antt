-- Which stateids were made, in the standard's words, read off the entries alone (RFC 7530, 9.1.4, 16.10 and 16.16).
use Rattle.std.specs.Prelude.{◌≡◌, ℕ, ◌+◌, Bool, false, [], ◌∷◌, Option, Some, None, is_none, if◌then◌else◌}
use Rattle.nm_types.specs.Parties.{Party}
use Rattle.nm_rules.specs.Past.{Past, now, acts, is_locked, opener}
use Rattle.nm_rules.specs.Readings.{share_of}
use Rattle.nm_types.specs.declared.args.Locker.{Locker}
use Rattle.nm_types.specs.declared.args.Locker.TheVariants.{New, Known}
use Rattle.nm_types.specs.declared.args.OpenArgs.{OpenArgs}
use Rattle.nm_types.specs.declared.calls.Deed.{Deed}
use Rattle.nm_types.specs.declared.calls.Deed.TheVariants as deed
use Rattle.nm_types.specs.declared.calls.Event.{Event}
use Rattle.nm_types.specs.declared.calls.Event.TheVariants.{Asked, Ended}
use Rattle.nm_types.specs.declared.calls.Reply.{Reply}
use Rattle.nm_types.specs.declared.calls.ReplyValue.{ReplyValue}
use Rattle.nm_types.specs.declared.calls.ReplyValue.TheVariants as told
use Rattle.nm_types.specs.declared.results.LockOutcome.TheVariants.{Locked}

-- Its owner has no share of the file that the OPEN opened.
abbrev pub is_first : Past → Option Party → OpenArgs → ReplyValue → Bool
is_first earlier (Some party) args (told.Open (Some opened)) = is_none (share_of earlier (opener party args) opened.file)
is_first earlier _ args _ = false

-- It is one of a lock owner that has no stateid on the file.
abbrev pub is_newcomer : Locker → Option Party → ReplyValue → Bool
is_newcomer (Known stateid lock_seqid) caller value = false
is_newcomer (New open_seqid stateid lock_seqid text) None value = false
is_newcomer (New open_seqid stateid lock_seqid text) (Some party) value = is_locked value

-- It is an OPEN whose owner has no share of the file yet, or the LOCK of a new lock owner.
unfoldable pub makes_one : Past → Option Party → Deed → ReplyValue → Bool
makes_one earlier caller (deed.Lock args) value = is_newcomer args.locker caller value
makes_one earlier caller (deed.Open args) value = is_first earlier caller args value
makes_one earlier caller _ value = false

-- The entry made a stateid: it is such an operation, and acted.
abbrev pub makes : Past → Event → Reply → Bool
makes earlier (Asked call verdict) r = if acts (now earlier) call r then makes_one earlier call.caller call.deed r.value else false
makes earlier (Ended party) r = false

-- how many stateids were made
unfoldable pub stateids_made : Past → ℕ
stateids_made [] = 0
stateids_made (x ∷ earlier) = if makes earlier x.event x.reply then stateids_made earlier + 1 else stateids_made earlier

-- the counter that a reply to an OPEN or a LOCK tells
abbrev pub TellsCounter : ReplyValue → ℕ → Type 0
TellsCounter (told.Open (Some opened)) k = opened.ok.stateid.counter ≡ k
TellsCounter (told.Lock (Some (Locked id))) k = id.counter ≡ k
TellsCounter _ k = ⊥
