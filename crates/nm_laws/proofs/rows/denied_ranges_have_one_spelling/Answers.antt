use Rattle.nm_laws.proofs.ToldLaws.{one_spelling, never_told, told_as_held}
use Rattle.nm_laws.proofs.rows.denied_ranges_have_one_spelling.Goals as goal

pub returns : goal.returns
returns c = record { one = one_spelling; never = never_told; held = told_as_held }
