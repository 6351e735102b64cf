-- What each server has of a file system, as the code keeps it.
use Rattle.std.specs.Prelude.{◌≡◌, ℕ, false, All, List, slice_get, slice_set, unwrap_or}
use Rattle.nm_slot.specs.Changes.{slot_after}
use Rattle.nm_slot.specs.SlotNow.{SlotNow, SlotView, SlotStep}
use Rattle.nm_short.specs.Tables.{no_part}

-- the file system's number, and what each server has of it
pub record SlotsNow : Type 0 where
  pub fs : ℕ
  pub views : List SlotView

abbrev pub view_of : SlotNow → SlotView
view_of slot = slot.view

unfoldable pub slot_at : SlotsNow → ℕ → SlotView
slot_at t s = unwrap_or (slice_get t.views s) (no_part t.fs)

unfoldable pub slots_after : SlotsNow → ℕ → SlotStep → SlotsNow
slots_after t s step = record t { views = slice_set t.views s (slot_after (slot_at t s) step) }

-- Each is a slot of this file system, as far as it isn't spent.
pub record AreOf (fs : ℕ) (slots : List SlotNow) : Type 0 where
  pub each : All (λ slot. slot.spent ≡ false → slot.view.fs ≡ fs) slots
