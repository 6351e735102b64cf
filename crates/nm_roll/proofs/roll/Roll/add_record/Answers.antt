use Rattle.std.proofs.Common.{sym}
use Rattle.nm_roll.proofs.CaseLemmas.{made_clientids}
use Rattle.nm_roll.proofs.roll.Roll.add_record.Goals as goal

pub make_record-requires : goal.make_record-requires
make_record-requires c = made_clientids c.args.self.now c.args.instance.now _ (sym c.in-Made.ensures)
