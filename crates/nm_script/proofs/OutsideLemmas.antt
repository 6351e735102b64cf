-- Reads and writes, one after the other.
use Rattle.std.proofs.Common.{◌≡◌, ℕ, ◌+◌, ◌≤◌, List, [], ◌++◌, length, take, drop, Option, None, Some, IfSome, refl, sym, ap, ◌∙◌, append_assoc, append-nil, arith, subst, take_all}
use Rattle.std.proofs.Math.Seq.{take-add}
use Rattle.std.proofs.lemmas.List.{take_at}
use Rattle.std.proofs.lemmas.Simd.{chunk-drop}
use Rattle.nm_script.specs.Outside.{behind, with_more, NoneLeft, TookPart}

-- nothing read yet
pub behind-nothing : (told : Option (List ℕ)) → told ≡ behind [] told
behind-nothing None = refl
behind-nothing (Some left) = refl

-- two reads take what one read of both would
behind-both : (first second : List ℕ) (told : Option (List ℕ)) → behind first (behind second told) ≡ behind (first ++ second) told
behind-both first second None = refl
behind-both first second (Some left) = ap Some (sym (append_assoc first second left))

-- a read after those that gave `text`
pub next_read : (before so_far now : Option (List ℕ)) (text piece : List ℕ) → before ≡ behind text so_far → so_far ≡ behind piece now → before ≡ behind (text ++ piece) now
next_read before so_far now text piece earlier latest = earlier ∙ ap (behind text) latest ∙ behind-both text piece now

-- after both, a part is taken
pub took_both : (before so_far now : Option (List ℕ)) (text piece : List ℕ) → before ≡ behind text so_far → so_far ≡ behind piece now → TookPart before now
took_both before so_far now text piece earlier latest = record { taken = text ++ piece; front = next_read before so_far now text piece earlier latest }

-- what a read of memory gave, and what is behind it
pub read_splits : (bytes left piece : List ℕ) (at n : ℕ) → left ≡ drop at bytes → piece ≡ take n left → drop at bytes ≡ piece ++ drop (at + n) bytes
read_splits bytes left piece at n rest copied =
    chunk-drop at n bytes ∙ ap (λ xs. xs ++ drop (at + n) bytes) (sym (copied ∙ ap (take n) rest))

-- nothing written yet
pub with_more-nothing : (told : Option (List ℕ)) → told ≡ with_more told []
with_more-nothing None = refl
with_more-nothing (Some held) = ap Some (sym (append-nil held))

-- two writes add what one write of both would
with_more-both : (told : Option (List ℕ)) (first second : List ℕ) → with_more (with_more told first) second ≡ with_more told (first ++ second)
with_more-both None first second = refl
with_more-both (Some held) first second = ap Some (append_assoc held first second)

-- a write after those that took `done` bytes
pub next_write : (before so_far now : Option (List ℕ)) (done n : ℕ) (bytes rest : List ℕ) → so_far ≡ with_more before (take done bytes) → rest ≡ drop done bytes → now ≡ with_more so_far (take n rest) → now ≡ with_more before (take (done + n) bytes)
next_write before so_far now done n bytes rest earlier behind_it latest =
    latest ∙ ap (λ xs. with_more so_far (take n xs)) behind_it
    ∙ ap (λ told. with_more told (take n (drop done bytes))) earlier
    ∙ with_more-both before (take done bytes) (take n (drop done bytes))
    ∙ ap (with_more before) (sym (take-add done n bytes))

nothing_behind : (text : List ℕ) (now : Option (List ℕ)) (most : ℕ) → NoneLeft now → length text ≤ most → IfSome (behind text now) (λ left. text ≡ take (most + 1) left)
nothing_behind text None most none few = tt
nothing_behind text (Some left) most none few =
    sym (ap (take (most + 1)) (ap (λ xs. text ++ xs) none ∙ append-nil text) ∙ take_all (most + 1) text (omega arith))

-- where nothing is left, what was read is the front of what there was
pub whole_is_front : (before now : Option (List ℕ)) (text : List ℕ) (most : ℕ) → before ≡ behind text now → NoneLeft now → length text ≤ most → IfSome before (λ left. text ≡ take (most + 1) left)
whole_is_front before now text most gives none few =
    subst (λ told. IfSome told (λ left. text ≡ take (most + 1) left)) (sym gives) (nothing_behind text now most none few)

some_behind : (text : List ℕ) (now : Option (List ℕ)) (most : ℕ) → length text ≡ most + 1 → IfSome (behind text now) (λ left. text ≡ take (most + 1) left)
some_behind text None most full = tt
some_behind text (Some left) most full = sym (take_at text left (most + 1) full)

-- and so it is where as much was read as was asked for
pub full_is_front : (before now : Option (List ℕ)) (text : List ℕ) (most : ℕ) → before ≡ behind text now → length text ≡ most + 1 → IfSome before (λ left. text ≡ take (most + 1) left)
full_is_front before now text most gives full =
    subst (λ told. IfSome told (λ left. text ≡ take (most + 1) left)) (sym gives) (some_behind text now most full)
