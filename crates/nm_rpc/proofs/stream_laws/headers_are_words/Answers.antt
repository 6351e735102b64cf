use Rattle.nm_rpc.proofs.SpellingLaws.{fragment_spelled, word-number_of}
use Rattle.nm_rpc.proofs.stream_laws.headers_are_words.Goals as goal

pub returns-clause-fragment : goal.returns-clause-fragment
returns-clause-fragment c = fragment_spelled

pub returns-clause-number : goal.returns-clause-number
returns-clause-number c = word-number_of
