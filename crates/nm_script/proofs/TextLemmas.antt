-- What stands after several texts were written.
use Rattle.std.proofs.Common.{◌≡◌, ℕ, List, [], ◌++◌, sym, ap, ◌∙◌, append_assoc, append-nil}
use Rattle.nm_script.specs.Writing.{Stands}

-- where nothing was written
pub stands_still : (before now : List ℕ) → now ≡ before → Stands before now
stands_still before now same = record { more = []; front = same ∙ sym (append-nil before) }

-- what stands after a text was written stands before it
pub stands_more : (before so_far now text : List ℕ) → so_far ≡ before ++ text → Stands so_far now → Stands before now
stands_more before so_far now text wrote stands = record {
  more = text ++ stands.more;
  front = stands.front ∙ ap (λ xs. xs ++ stands.more) wrote ∙ append_assoc before text stands.more;
}
