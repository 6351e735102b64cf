use Rattle.std.proofs.Common.{arith, ◌^◌, ◌-◌}
use Rattle.nm_xdr.proofs.FieldLaws.{one_spelling_of}
use Rattle.nm_xdr.proofs.ItemLaws.{word_item, hyper_item, flag_item, fixed_item, opaque_item}
use Rattle.nm_xdr.proofs.laws.one_spelling.Goals as goal

pub returns-clause-words : goal.returns-clause-words
returns-clause-words c = one_spelling_of word_item

pub returns-clause-hypers : goal.returns-clause-hypers
returns-clause-hypers c = one_spelling_of hyper_item

pub returns-clause-flags : goal.returns-clause-flags
returns-clause-flags c = one_spelling_of flag_item

pub returns-clause-fixed : goal.returns-clause-fixed
returns-clause-fixed c = λ n. one_spelling_of (fixed_item n)

pub returns-clause-opaque : goal.returns-clause-opaque
returns-clause-opaque c = λ x y a b fits_x fits_y. one_spelling_of (opaque_item (2 ^ 32 - 1) (omega arith)) x y a b (omega arith) (omega arith)
