use Rattle.nm_attrs.proofs.TableLaws.{two_words}
use Rattle.nm_attrs.proofs.laws.the_supported_have_two_words.Goals as goal

pub returns : goal.returns
returns c = two_words
