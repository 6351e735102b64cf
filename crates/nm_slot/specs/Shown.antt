-- What is held in a file system at a server, as it is shown.
use Rattle.std.specs.Prelude.{List, Option, Some, None}
use Rattle.nm_rules.specs.Held.{held_table}
use Rattle.nm_types.specs.declared.table.HeldRow.{HeldRow}
use Rattle.nm_slot.specs.SlotNow.{Stage, Offer, Own, SlotView}
use Rattle.nm_slot.specs.SlotNow.Stage.{Away, Here}

abbrev pub offered_table : Option Offer → Option (List HeldRow)
offered_table None = None
offered_table (Some offer) = Some (held_table offer.state)

abbrev pub table_at : Stage → Own → Option (List HeldRow)
table_at (Here doing state) own = Some (held_table state)
table_at Away own = offered_table own.held

-- of the state that is here, else of the one on offer
unfoldable pub table_answer : SlotView → Option (List HeldRow)
table_answer v = table_at v.stage v.own
