use Rattle.nm_xdr.proofs.CutLaws.{word_cut, hyper_cut, flag_cut, fixed_cut, opaque_cut}
use Rattle.nm_xdr.proofs.laws.cut_items_are_short.Goals as goal

pub returns-clause-words : goal.returns-clause-words
returns-clause-words c = word_cut

pub returns-clause-hypers : goal.returns-clause-hypers
returns-clause-hypers c = hyper_cut

pub returns-clause-flags : goal.returns-clause-flags
returns-clause-flags c = flag_cut

pub returns-clause-fixed : goal.returns-clause-fixed
returns-clause-fixed c = fixed_cut

pub returns-clause-opaque : goal.returns-clause-opaque
returns-clause-opaque c = opaque_cut
