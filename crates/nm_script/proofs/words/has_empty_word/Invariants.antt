use Rattle.std.proofs.Common.{◌≡◌, drop, map}
use Rattle.nm_script.specs.Words.{has_empty_word}
use Rattle.nm_script.proofs.words.has_empty_word.Given as goal

-- none of the words so far is empty
abbrev pub invariant-loop-word : goal.invariant-loop-word
invariant-loop-word l = has_empty_word (map (λ word. word.now) (drop l.word-index l.words)) ≡ has_empty_word (map (λ word. word.now) l.words)
