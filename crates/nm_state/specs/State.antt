-- What `FsState` is, and what an event makes of it.
use Rattle.std.specs.Prelude.{◌≡◌, ℕ, Bool, true, false, Option, Some, None, Result, Ok, Err}
use Rattle.nm_types.specs.Parties.{Party}
use Rattle.nm_rules.specs.Seen.{Seen, empty, after}
use Rattle.nm_rules.specs.Stateids.{lock_named, resolved}
use Rattle.nm_rules.specs.Answer.{answer_to}
use Rattle.nm_types.specs.declared.calls.Event.{Event}
use Rattle.nm_types.specs.declared.calls.Event.TheVariants.{Ended}
use Rattle.nm_types.specs.declared.calls.Reply.{Reply}
use Rattle.nm_types.specs.declared.calls.StateId.{StateId}
use Rattle.nm_types.specs.declared.calls.StateRef.TheVariants.{Named}
use Rattle.nm_memory.specs.declared.Memory.{Memory}
use Rattle.nm_types.specs.declared.rows.LockRow.{LockRow}
use Rattle.nm_types.specs.declared.rows.OpenRow.{OpenRow}
use Rattle.nm_types.specs.declared.status.OpStatus.{OpStatus}
use Rattle.nm_types.specs.declared.status.OpStatus.TheVariants.{BadStateId}

-- The tables, and whether memory was wanting in the middle of a change: then nothing is known of them.
pub record StateNow : Type 0 where
  pub seen : Seen
  pub spent : Bool

abbrev pub fresh : ℕ → Bool → StateNow
fresh fs grants = record { seen = empty fs grants; spent = false }

-- What an event is answered, and what it leaves. A state that is spent answers want of memory alone, and one that does
-- is spent.
abbrev pub Applies : StateNow → Event → Result Reply Memory → StateNow → Type 0
Applies old event (Ok reply) new =
    (old.spent ≡ false) × (reply ≡ answer_to old.seen event) × (new ≡ record { seen = after old.seen event reply; spent = false })
Applies old event (Err _) new = new.spent ≡ true

-- What an event would be answered.
abbrev pub Answers : StateNow → Event → Result Reply Memory → Type 0
Answers now event (Ok reply) = (now.spent ≡ false) × (reply ≡ answer_to now.seen event)
Answers now event (Err _) = Unit {0}

-- What the end of an instance leaves, which also a state that is spent takes.
abbrev pub ended : StateNow → Party → StateNow
ended now party = record { seen = after now.seen (Ended party) (answer_to now.seen (Ended party)); spent = now.spent }

-- the instance of the owner whose open or locks a stateid stands for
abbrev pub holder_in : Option OpenRow → Option LockRow → Result Party OpStatus
holder_in None None = Err BadStateId
holder_in None (Some lock) = Ok lock.owner.instance
holder_in (Some row) lock = Ok row.owner.instance

unfoldable pub holder_of : Seen → StateId → Result Party OpStatus
holder_of s id = holder_in (resolved s (Named id)) (lock_named s (Named id))
