-- Laws of the ranges of one file, as the laws of a file system's locks cite them.
use Rattle.std.proofs.Common.{◌≡◌, ◌≤◌, ℕ, true, false, cond, List, Some, None, ap, sym, ◌∙◌}
use Rattle.std.proofs.lemmas.Bool.{and_parts, eqb-false, leb-true}
use Rattle.std.specs.Prelude.{◌==◌, ◌&&◌, nat_le}
use Rattle.nm_rules.specs.Locks.{are_joined, barrier, cleared, conflicts_with, is_inside, kind_at, kinds_conflict, set_to}
use Rattle.nm_types.specs.declared.results.LockKind.{LockKind}
use Rattle.nm_types.specs.declared.rows.Held.{Held}
use Rattle.nm_rules.proofs.RangeRows.{cleared_rises, joined_of, rise_of}
use Rattle.nm_rules.proofs.RangeBytes as bytes
use Rattle.nm_rules.proofs.RangeApart.{free_range}

pub kind_at-set : (owner : ℕ) (kind : LockKind) (first last : ℕ) (rows : List Held) → are_joined rows ≡ true → first ≤ last → (counter byte : ℕ)
    → kind_at counter byte (set_to owner kind first last rows) ≡ cond ((counter == owner) && is_inside first last byte) (Some kind) (kind_at counter byte rows)
kind_at-set owner kind first last rows joined le counter byte = bytes.kind_at-set owner kind first last rows counter byte le (rise_of rows joined)

pub kind_at-cleared : (owner first last : ℕ) (rows : List Held) → are_joined rows ≡ true → first ≤ last → (counter byte : ℕ)
    → kind_at counter byte (cleared owner first last rows) ≡ cond ((counter == owner) && is_inside first last byte) None (kind_at counter byte rows)
kind_at-cleared owner first last rows joined le counter byte = bytes.kind_at-cleared owner first last rows counter byte

pub joined-set : (owner : ℕ) (kind : LockKind) (first last : ℕ) (rows : List Held) → are_joined rows ≡ true → first ≤ last → are_joined (set_to owner kind first last rows) ≡ true
joined-set owner kind first last rows joined le = joined_of (set_to owner kind first last rows) (bytes.set_rises owner kind first last rows le (rise_of rows joined))

pub joined-cleared : (owner first last : ℕ) (rows : List Held) → are_joined rows ≡ true → first ≤ last → are_joined (cleared owner first last rows) ≡ true
joined-cleared owner first last rows joined le = joined_of (cleared owner first last rows) (cleared_rises owner first last rows le (rise_of rows joined))

-- where nothing is in the way, no byte of the range is held by another stateid in conflict
pub barrier-none : (owner : ℕ) (kind : LockKind) (first last : ℕ) (rows : List Held) → are_joined rows ≡ true → barrier owner kind first last rows ≡ None
    → (counter byte : ℕ) (its : LockKind) → (counter == owner) ≡ false → is_inside first last byte ≡ true → kind_at counter byte rows ≡ Some its
    → kinds_conflict kind its ≡ false
barrier-none owner kind first last rows joined none counter byte its other inside at =
    let sides = and_parts (nat_le first byte) (nat_le byte last) inside in
    sym (ap (λ k. conflicts_with kind k) at)
    ∙ free_range owner kind first last rows none byte (leb-true first byte sides.0) (leb-true byte last sides.1) counter (eqb-false counter owner other)
