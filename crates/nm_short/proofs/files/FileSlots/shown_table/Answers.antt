use Rattle.nm_short.proofs.FileLemmas.{shown_some, shown_none}
use Rattle.nm_short.proofs.files.FileSlots.shown_table.Goals as goal

pub returns-in-Some : goal.returns-in-Some
returns-in-Some c =
    shown_some c.args.self.now _ _ _ _ _ c.source.ensures c.phase_at.ensures c.shower-server.ensures c.in_ok-table.ensures c.in-Some.is

pub returns-in-None : goal.returns-in-None
returns-in-None c =
    shown_none c.args.self.now _ _ _ _ _ c.source.ensures c.phase_at.ensures c.shower-server.ensures c.in_ok-table.ensures c.in-None.is c.new.ensures
