use Rattle.std.proofs.Common.{ap, ◌∙◌}
use Rattle.std.specs.Prelude.{option_copied}
use Rattle.nm_roll.specs.Moves.{case_of, record_case}
use Rattle.nm_roll.proofs.roll.Roll.case_of.Goals as goal

pub returns-in-Some : goal.returns-in-Some
unfolding record_case
returns-in-Some c =
    c.case_of.ensures c.args.self.now (option_copied c.args.row)
    ∙ ap (case_of c.args.self.now c.args.instance.now (option_copied c.args.row)) c.in-Some.ensures
