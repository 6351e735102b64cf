use Rattle.std.proofs.Common.{◌≡◌, drop}
use Rattle.nm_script.specs.Words.{digits_at}
use Rattle.nm_script.proofs.words.digits.Given as goal

-- the number so far and the digits that are left give what all digits give
abbrev pub invariant-loop-b : goal.invariant-loop-b
invariant-loop-b l = digits_at l.number (drop l.b-index l.word) ≡ digits_at 0 l.word
