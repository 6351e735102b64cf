-- A release in several file systems, one after the other.
use Rattle.std.proofs.Common.{◌≡◌, ◌<◌, ◌≤◌, ◌+◌, ℕ, Bool, true, false, cond, List, [], ◌∷◌, ◌++◌, take, drop, length, get_or, set, add-one, refl, ap, sym, ◌∙◌, arith, append_assoc}
use Rattle.std.proofs.lemmas.List.{append-nil, drop-set-lt, drop_all, set_split, take_all, take_more_set}
use Rattle.std.proofs.Math.Seq.{drop-cons}
use Rattle.nm_types.specs.declared.calls.Call.{Call}
use Rattle.nm_short.specs.declared.locking.Freed.{Freed}
use Rattle.nm_short.specs.declared.locking.Freed.TheVariants.{On}
use Rattle.nm_short.specs.Files.{freed_in, all_freed_in}
use Rattle.nm_short.specs.Requests.{frees_more}
use Rattle.nm_short.specs.Tables.{FileTables, FreedTo, FreedAllTo, frees_to, freed_then_to, frees_all_to}

-- what came of the file systems behind others
abbrev pub behind : List FileTables → FreedAllTo → FreedAllTo
behind front all = record { files = front ++ all.files; freed = all.freed }

pick : Bool → FreedTo → List FileTables → FreedAllTo → FreedAllTo
pick b one rest further =
    cond b (record { files = one.file ∷ further.files; freed = further.freed }) (record { files = one.file ∷ rest; freed = one.freed })

then_on : (one : FreedTo) (rest : List FileTables) (further : FreedAllTo) → frees_more one.freed ≡ true
    → freed_then_to one rest further ≡ record { files = one.file ∷ further.files; freed = further.freed }
unfolding pick
then_on one rest further more = ap (λ b. pick b one rest further) more

then_ends : (one : FreedTo) (rest : List FileTables) (further : FreedAllTo) → frees_more one.freed ≡ false
    → freed_then_to one rest further ≡ record { files = one.file ∷ rest; freed = one.freed }
unfolding pick
then_ends one rest further ends = ap (λ b. pick b one rest further) ends

-- the file systems from one on
from_one : (files : List FileTables) (i : ℕ) (f new : FileTables) (s : ℕ) (call : Call) (its : Freed) → i < length files → f ≡ get_or files i f
    → freed_in its new ≡ frees_to f s call
    → frees_all_to (drop i files) s call ≡ freed_then_to (freed_in its new) (drop (i + 1) files) (frees_all_to (drop (i + 1) files) s call)
unfolding frees_all_to
from_one files i f new s call its below is one =
    let split : drop i files ≡ f ∷ drop (i + 1) files = drop-cons files i f below ∙ rw (← is, add-one) refl in
    ap (λ fs. frees_all_to fs s call) split
    ∙ ap (λ it. freed_then_to it (drop (i + 1) files) (frees_all_to (drop (i + 1) files) s call)) (sym one)

-- The next one comes.
pub freed_on : (files : List FileTables) (i : ℕ) (f new : FileTables) (s : ℕ) (call : Call) (its : Freed) (whole : FreedAllTo) → i < length files → f ≡ get_or files i f
    → freed_in its new ≡ frees_to f s call → frees_more its ≡ true
    → behind (take i files) (frees_all_to (drop i files) s call) ≡ whole
    → behind (take (i + 1) (set files i new)) (frees_all_to (drop (i + 1) (set files i new)) s call) ≡ whole
freed_on files i f new s call its whole below is one more so_far =
    let further : FreedAllTo = frees_all_to (drop (i + 1) files) s call in
    let rest : drop (i + 1) (set files i new) ≡ drop (i + 1) files = drop-set-lt (i + 1) files i new (omega arith) in
    ap (λ front. behind front (frees_all_to (drop (i + 1) (set files i new)) s call)) (take_more_set files i new below)
    ∙ ap (λ fs. behind (take i files ++ new ∷ []) (frees_all_to fs s call)) rest
    ∙ ap (λ fs. record { files = fs; freed = further.freed }) (append_assoc (take i files) (new ∷ []) further.files)
    ∙ ap (behind (take i files)) (sym (from_one files i f new s call its below is one ∙ then_on (freed_in its new) (drop (i + 1) files) further more))
    ∙ so_far

-- It ends there.
pub freed_end : (files : List FileTables) (i : ℕ) (f new : FileTables) (s : ℕ) (call : Call) (its : Freed) (whole : FreedAllTo) → i < length files → f ≡ get_or files i f
    → freed_in its new ≡ frees_to f s call → frees_more its ≡ false
    → behind (take i files) (frees_all_to (drop i files) s call) ≡ whole
    → all_freed_in its (set files i new) ≡ whole
freed_end files i f new s call its whole below is one ends so_far =
    let split : set files i new ≡ take i files ++ new ∷ drop (i + 1) files = set_split files i new below ∙ rw add-one refl in
    ap (all_freed_in its) split
    ∙ ap (behind (take i files))
    (sym (from_one files i f new s call its below is one ∙ then_ends (freed_in its new) (drop (i + 1) files) (frees_all_to (drop (i + 1) files) s call) ends))
    ∙ so_far

-- There are no more.
pub freed_done : (files : List FileTables) (i : ℕ) (s : ℕ) (call : Call) (whole : FreedAllTo) → length files ≤ i
    → behind (take i files) (frees_all_to (drop i files) s call) ≡ whole → all_freed_in On files ≡ whole
unfolding frees_all_to
freed_done files i s call whole past so_far =
    ap (all_freed_in On) (sym (append-nil files) ∙ ap (λ front. front ++ []) (sym (take_all i files past)))
    ∙ ap (λ fs. behind (take i files) (frees_all_to fs s call)) (sym (drop_all i files past)) ∙ so_far
