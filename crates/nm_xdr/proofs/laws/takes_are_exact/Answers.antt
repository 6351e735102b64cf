use Rattle.nm_xdr.proofs.ExactLaws.{exact_of}
use Rattle.nm_xdr.proofs.ItemLaws.{word_item, hyper_item, flag_item, fixed_item, opaque_item}
use Rattle.nm_xdr.proofs.laws.takes_are_exact.Goals as goal

pub returns-clause-words : goal.returns-clause-words
returns-clause-words c = exact_of word_item

pub returns-clause-hypers : goal.returns-clause-hypers
returns-clause-hypers c = exact_of hyper_item

pub returns-clause-flags : goal.returns-clause-flags
returns-clause-flags c = exact_of flag_item

pub returns-clause-fixed : goal.returns-clause-fixed
returns-clause-fixed c = λ n. exact_of (fixed_item n)

pub returns-clause-opaque : goal.returns-clause-opaque
returns-clause-opaque c = λ max small. exact_of (opaque_item max small)
