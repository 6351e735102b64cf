-- The entries of a directory, as they are gone through row by row.
use Rattle.std.proofs.Common.{◌≡◌, ℕ, ◌+◌, ◌-◌, ◌<◌, ◌≤◌, Bool, true, false, cond, List, [], ◌∷◌, ◌++◌, length, get_or, drop, Some, None, refl, ap, sym, subst, ◌∙◌, arith, append_assoc, append-nil, length-append}
use Rattle.std.specs.Prelude.{not, nat_le, filter, find, map}
use Rattle.std.proofs.lemmas.Bool.Decides.{nat_tests}
use Rattle.std.proofs.lemmas.List.{drop_more, length-map}
use Rattle.nm_rules.specs.Files.{entry_of, entry_size, fitting, is_listed, is_too_small, listed}
use Rattle.nm_rules.specs.Lists.{is_empty}
use Rattle.nm_types.specs.declared.results.DirEntry.{DirEntry}
use Rattle.nm_types.specs.declared.rows.FileRow.{FileRow}
use Rattle.nm_state.specs.Pages.{IsFront, IsPage, first_listed, has_no_room}

-- ---- a row is listed or not, and has room or not

listed_skip : (dir cookie : ℕ) (row : FileRow) (rows : List FileRow) → is_listed dir cookie row ≡ false → listed dir cookie (row ∷ rows) ≡ listed dir cookie rows
unfolding listed
listed_skip dir cookie row rows h =
    ap (λ (b : Bool). cond b (row ∷ filter (is_listed dir cookie) rows) (filter (is_listed dir cookie) rows)) h

listed_take : (dir cookie : ℕ) (row : FileRow) (rows : List FileRow) → is_listed dir cookie row ≡ true → listed dir cookie (row ∷ rows) ≡ row ∷ listed dir cookie rows
unfolding listed
listed_take dir cookie row rows h =
    ap (λ (b : Bool). cond b (row ∷ filter (is_listed dir cookie) rows) (filter (is_listed dir cookie) rows)) h

fitting_take : (asks : Bool) (left : ℕ) (row : FileRow) (rows : List FileRow) → nat_le (entry_size asks row) left ≡ true
    → fitting asks left (row ∷ rows) ≡ row ∷ fitting asks (left - entry_size asks row) rows
unfolding fitting
fitting_take asks left row rows h = ap (λ (b : Bool). cond b (row ∷ fitting asks (left - entry_size asks row) rows) []) h

fitting_full : (asks : Bool) (left : ℕ) (row : FileRow) (rows : List FileRow) → nat_le (entry_size asks row) left ≡ false
    → fitting asks left (row ∷ rows) ≡ []
unfolding fitting
fitting_full asks left row rows h = ap (λ (b : Bool). cond b (row ∷ fitting asks (left - entry_size asks row) rows) []) h

-- ---- the first entry

too_small_none : (asks : Bool) (room : ℕ) → is_too_small [] (fitting asks room []) ≡ has_no_room asks room None
unfolding is_empty fitting has_no_room
too_small_none asks room = refl

too_small_some : (asks : Bool) (room : ℕ) (row : FileRow) (rows : List FileRow) → is_too_small (row ∷ rows) (fitting asks room (row ∷ rows)) ≡ has_no_room asks room (Some row)
unfolding is_empty fitting has_no_room
too_small_some asks room row rows = by_room (nat_le (entry_size asks row) room)
  where
    by_room : (b : Bool) → is_empty (cond b (row ∷ fitting asks (room - entry_size asks row) rows) []) ≡ not b
    by_room true = refl
    by_room false = refl

-- A reply is too small just where its first entry has no room.
pub first_has_no_room : (dir cookie : ℕ) (asks : Bool) (room : ℕ) (rows : List FileRow)
    → is_too_small (listed dir cookie rows) (fitting asks room (listed dir cookie rows)) ≡ has_no_room asks room (first_listed dir cookie rows)
unfolding listed first_listed
first_has_no_room dir cookie asks room [] = too_small_none asks room
first_has_no_room dir cookie asks room (row ∷ rows) = by_row (is_listed dir cookie row) (first_has_no_room dir cookie asks room rows)
  where
    by_row : (b : Bool)
        → is_too_small (filter (is_listed dir cookie) rows) (fitting asks room (filter (is_listed dir cookie) rows)) ≡ has_no_room asks room (find (is_listed dir cookie) rows)
        → is_too_small (cond b (row ∷ filter (is_listed dir cookie) rows) (filter (is_listed dir cookie) rows))
        (fitting asks room (cond b (row ∷ filter (is_listed dir cookie) rows) (filter (is_listed dir cookie) rows)))
        ≡ has_no_room asks room (cond b (Some row) (find (is_listed dir cookie) rows))
    by_row true before = too_small_some asks room row (filter (is_listed dir cookie) rows)
    by_row false before = before

-- ---- row by row

rest_at : (rows : List FileRow) (i : ℕ) (row : FileRow) → i < length rows → row ≡ get_or rows i row → drop i rows ≡ row ∷ drop (i + 1) rows
rest_at rows i row inside it = drop_more rows i row inside ∙ ap (λ x. x ∷ drop (i + 1) rows) (sym it)

module _ (dir cookie : ℕ) (asks : Bool) (room : ℕ) (rows : List FileRow) where
  pub front_start : IsFront dir cookie asks room rows [] room rows
  front_start = record { told = refl; count = omega arith }

  front_at : (entries : List DirEntry) (left i : ℕ) (row : FileRow) → i < length rows → row ≡ get_or rows i row
      → IsFront dir cookie asks room rows entries left (drop i rows) → IsFront dir cookie asks room rows entries left (row ∷ drop (i + 1) rows)
  front_at entries left i row inside it front = subst (λ rest. IsFront dir cookie asks room rows entries left rest) (rest_at rows i row inside it) front

  -- a row that isn't listed
  pub front_skip : (entries : List DirEntry) (left i : ℕ) (row : FileRow) → i < length rows → row ≡ get_or rows i row → is_listed dir cookie row ≡ false
      → IsFront dir cookie asks room rows entries left (drop i rows) → IsFront dir cookie asks room rows entries left (drop (i + 1) rows)
  front_skip entries left i row inside it h before =
      let front = front_at entries left i row inside it before in
      record {
        told = front.told ∙ ap (λ l. entries ++ map (entry_of asks) (fitting asks left l)) (listed_skip dir cookie row (drop (i + 1) rows) h);
        count = front.count ∙ ap (λ l. length entries + length l) (listed_skip dir cookie row (drop (i + 1) rows) h);
      }

  -- one that is, and has room
  pub front_take : (entries : List DirEntry) (left i : ℕ) (row : FileRow) → i < length rows → row ≡ get_or rows i row → is_listed dir cookie row ≡ true
      → entry_size asks row ≤ left
      → IsFront dir cookie asks room rows entries left (drop i rows)
      → IsFront dir cookie asks room rows (entries ++ entry_of asks row ∷ []) (left - entry_size asks row) (drop (i + 1) rows)
  front_take entries left i row inside it h within before =
      let front = front_at entries left i row inside it before in
      let fits : nat_le (entry_size asks row) left ≡ true = grind (arith, nat_tests) in
      let rest : List FileRow = listed dir cookie (drop (i + 1) rows) in
      let takes : listed dir cookie (row ∷ drop (i + 1) rows) ≡ row ∷ rest = listed_take dir cookie row (drop (i + 1) rows) h in
      let lengths : length (listed dir cookie (row ∷ drop (i + 1) rows)) ≡ length (row ∷ rest) = ap (λ l. length l) takes in
      let counts : length (listed dir cookie rows) ≡ length entries + length (listed dir cookie (row ∷ drop (i + 1) rows)) = front.count in
      let longer : length (entries ++ entry_of asks row ∷ []) ≡ length entries + 1 = length-append entries (entry_of asks row ∷ []) in
      record {
        told = front.told
            ∙ ap (λ l. entries ++ map (entry_of asks) (fitting asks left l)) takes
            ∙ ap (λ l. entries ++ map (entry_of asks) l) (fitting_take asks left row rest fits)
            ∙ sym (append_assoc entries (entry_of asks row ∷ []) (map (entry_of asks) (fitting asks (left - entry_size asks row) rest)));
        count = omega (arith, lengths, counts, longer);
      }

  told_length : (entries : List DirEntry) → entries ≡ map (entry_of asks) (fitting asks room (listed dir cookie rows))
      → length (fitting asks room (listed dir cookie rows)) ≡ length entries
  told_length entries told = sym (ap (λ l. length l) told ∙ length-map (fitting asks room (listed dir cookie rows)) (entry_of asks))

  page_whole : (entries : List DirEntry) → entries ≡ map (entry_of asks) (fitting asks room (listed dir cookie rows))
      → length (listed dir cookie rows) ≡ length entries → IsPage dir cookie asks room rows entries true
  page_whole entries told all =
      let same = told_length entries told in
      record { told = told; whole = grind (arith, nat_tests) }

  page_cut : (entries : List DirEntry) → entries ≡ map (entry_of asks) (fitting asks room (listed dir cookie rows))
      → length entries < length (listed dir cookie rows) → IsPage dir cookie asks room rows entries false
  page_cut entries told more =
      let same = told_length entries told in
      record { told = told; whole = grind (arith, nat_tests) }

  -- all rows are gone through
  pub front_end : (entries : List DirEntry) (left : ℕ) → IsFront dir cookie asks room rows entries left [] → IsPage dir cookie asks room rows entries true
  unfolding listed fitting
  front_end entries left front = page_whole entries (sym (front.told ∙ append-nil entries)) (omega (arith, front.count))

  -- one that is listed and has no room
  pub front_full : (entries : List DirEntry) (left i : ℕ) (row : FileRow) → i < length rows → row ≡ get_or rows i row → is_listed dir cookie row ≡ true
      → left < entry_size asks row
      → IsFront dir cookie asks room rows entries left (drop i rows) → IsPage dir cookie asks room rows entries false
  front_full entries left i row inside it h past before =
      let front = front_at entries left i row inside it before in
      let full : nat_le (entry_size asks row) left ≡ false = grind (arith, nat_tests) in
      let rest : List FileRow = listed dir cookie (drop (i + 1) rows) in
      let takes : listed dir cookie (row ∷ drop (i + 1) rows) ≡ row ∷ rest = listed_take dir cookie row (drop (i + 1) rows) h in
      let lengths : length (listed dir cookie (row ∷ drop (i + 1) rows)) ≡ length (row ∷ rest) = ap (λ l. length l) takes in
      let counts : length (listed dir cookie rows) ≡ length entries + length (listed dir cookie (row ∷ drop (i + 1) rows)) = front.count in
      page_cut entries
      (sym (front.told ∙ ap (λ l. entries ++ map (entry_of asks) (fitting asks left l)) takes ∙ ap (λ l. entries ++ map (entry_of asks) l) (fitting_full asks left row rest full) ∙ append-nil entries))
      (omega (arith, lengths, counts))
