-- The reading and the spellings of the values of CREATE and READDIR belong together.
use Rattle.std.proofs.Common.{◌≡◌, ℕ, zero, suc, ◌<◌, Bool, true, false, List, [], ◌∷◌, ◌++◌, length, Option, Some, None, Result, Ok, All, refl, sym, ap, subst, ◌∙◌, append_assoc, arith}
use Rattle.std.proofs.lemmas.List.{append-nil, length-append}
use Rattle.std.proofs.lemmas.List.Elements.{All-from_recursion, recursion_from_All}
use Rattle.std.specs.List.{AllByRecursion, flat_map}
use Rattle.std.specs.Prelude.{IfSome}
use Rattle.nm_xdr.specs.Fields.{Fault, ◌>>=◌, IsBytes, IsItem}
use Rattle.nm_xdr.specs.Items.{flag, optional, optional_at}
use Rattle.nm_xdr.proofs.FieldLaws.{IsBytes-behind, field_part, made_part, record_item, fits_as, bind_ok, same_value}
use Rattle.nm_xdr.proofs.ByteLaws.{bytes_item}
use Rattle.nm_xdr.proofs.ItemLaws.{hyper_item, flag_item, optional_item}
use Rattle.nm_items.proofs.PartItems.{bitmap_item, fattr_item}
use Rattle.nm_results.specs.declared.values.DirEntry.{DirEntry}
use Rattle.nm_results.specs.declared.values.ReadDirOk.{ReadDirOk}
use Rattle.nm_results.specs.Directories.{AnyCreate, create, create_at, create_of, IsAnyCreate, entry, entry_at, IsEntry, entries, behind_mark, entries_at, all_entries_at, dir_bytes, dir_at, IsDir}
use Rattle.nm_results.proofs.KeepLaws.{KeepsItem, keeps_made, keeps_field, keeps_item, keeps_record, keeps_as}
use Rattle.nm_results.proofs.PartLaws.{word_length, change_item}

pub create_item : KeepsItem create_of create_at create IsAnyCreate
unfolding create_at create
create_item =
    keeps_as (λ c. create c) IsAnyCreate (λ _. refl) (λ c f. (f.cinfo, (f.attrset, tt))) (λ c f. record { cinfo = f.0; attrset = f.1.0 }) (
    keeps_record (
    keeps_field (λ (c : AnyCreate). c.cinfo) (λ c. c.info) _ change_item (
    keeps_item (λ (c : AnyCreate). c.attrset) _ bitmap_item (
    keeps_made (λ s. record { cinfo = s.0.1; attrset = s.1 }) _ (λ _. refl) (λ _. refl) (λ _. refl)))))

entry_item : IsItem entry_at entry IsEntry
unfolding entry_at entry
entry_item =
    fits_as IsEntry (λ e f. (f.cookie, (f.name, (f.attrs, tt)))) (λ e f. record { cookie = f.0; name = f.1.0; attrs = f.1.1.0 }) (
    record_item (
    field_part (λ (e : DirEntry). e.cookie) _ (λ _. hyper_item) (
    field_part (λ (e : DirEntry). e.name) _ (λ _. bytes_item 1048576 (omega arith)) (
    field_part (λ (e : DirEntry). e.attrs) _ (λ _. fattr_item) (
    made_part _ (λ _. refl) (λ _. refl))))))

-- ---- Entries

-- Entries that are read are behind the earlier ones, each fits, and they are spelled one after the other, up to the mark.
abbrev Found : List DirEntry → List ℕ → List DirEntry → List ℕ → Type 0
Found earlier bytes es rest = (more : List DirEntry) × (es ≡ earlier ++ more) × (bytes ≡ entries more ++ rest) × AllByRecursion IsEntry more

-- a further entry before others
with_first : (e : DirEntry) (more : List DirEntry) (rest : List ℕ) → optional entry (Some e) ++ (entries more ++ rest) ≡ entries (e ∷ more) ++ rest
unfolding entries
with_first e more rest =
    let others : List ℕ = flat_map (λ x. flag true ++ entry x) more in
    sym (append_assoc (flag true ++ entry e) (others ++ flag false) rest)
    ∙ ap (λ (b : List ℕ). b ++ rest) (sym (append_assoc (flag true ++ entry e) others (flag false)))

-- by what the mark says
by_mark : (further : DirEntry → Result (List DirEntry × List ℕ) Fault) (earlier : List DirEntry) (o : Option DirEntry) (bytes after : List ℕ) (es : List DirEntry) (rest : List ℕ)
    → bytes ≡ optional entry o ++ after → IfSome o IsEntry
    → ((e : DirEntry) → further e ≡ Ok (es, rest) → Found (earlier ++ e ∷ []) after es rest)
    → behind_mark further earlier o after ≡ Ok (es, rest) → Found earlier bytes es rest
unfolding entries
by_mark further earlier None bytes after es rest is fits next e =
    let same = same_value earlier es after rest e in
    ([], sym same.0 ∙ sym (append-nil earlier), is ∙ ap (λ (r : List ℕ). flag false ++ r) same.1, tt)
by_mark further earlier (Some x) bytes after es rest is fits next e =
    let p = next x e in
    (x ∷ p.0, p.1 ∙ append_assoc earlier (x ∷ []) p.0, is ∙ ap (λ (r : List ℕ). optional entry (Some x) ++ r) p.2 ∙ with_first x p.0 rest, (fits, p.3))

entries_found : (n : ℕ) (earlier : List DirEntry) (bytes : List ℕ) (es : List DirEntry) (rest : List ℕ) → IsBytes bytes → entries_at n earlier bytes ≡ Ok (es, rest)
    → Found earlier bytes es rest
unfolding entries_at
entries_found zero earlier bytes es rest fits e = absurd cc
entries_found (suc n) earlier bytes es rest fits e =
    let b =
    bind_ok (optional_at entry_at bytes) (λ (o : Option DirEntry × List ℕ). behind_mark (λ x. entries_at n (earlier ++ x ∷ []) o.1) earlier o.0 o.1) (es, rest) e in
    let first = (optional_item entry_item).found bytes b.0.0 b.0.1 fits b.1 in
    let behind : IsBytes b.0.1 = IsBytes-behind (optional entry b.0.0) b.0.1 (subst IsBytes first.0 fits) in
    by_mark (λ x. entries_at n (earlier ++ x ∷ []) b.0.1) earlier b.0.0 bytes b.0.1 es rest first.0 first.1
    (λ x h. entries_found n (earlier ++ x ∷ []) b.0.1 es rest behind h) b.2

-- what is read behind a mark
mark_then : (n : ℕ) (earlier : List DirEntry) (o : Option DirEntry) (rest : List ℕ) → IfSome o IsEntry
    → entries_at (suc n) earlier (optional entry o ++ rest) ≡ behind_mark (λ e. entries_at n (earlier ++ e ∷ []) rest) earlier o rest
unfolding entries_at
mark_then n earlier o rest fits =
    ap (λ (r : Result (Option DirEntry × List ℕ) Fault). r >>= λ x. behind_mark (λ e. entries_at n (earlier ++ e ∷ []) x.1) earlier x.0 x.1) ((optional_item entry_item).again o rest fits)

entries_again : (more : List DirEntry) (n : ℕ) (earlier : List DirEntry) (rest : List ℕ) → length more < n → AllByRecursion IsEntry more
    → entries_at n earlier (entries more ++ rest) ≡ Ok (earlier ++ more, rest)
unfolding entries
entries_again more zero earlier rest lt fits = absurd (omega (arith, lt))
entries_again [] (suc n) earlier rest lt fits = mark_then n earlier None rest tt ∙ ap (λ (es : List DirEntry). Ok (es, rest)) (sym (append-nil earlier))
entries_again (e ∷ more) (suc n) earlier rest lt fits =
    ap (entries_at (suc n) earlier) (sym (with_first e more rest)) ∙ mark_then n earlier (Some e) (entries more ++ rest) fits.0
    ∙ entries_again more n (earlier ++ e ∷ []) rest (omega (arith, lt)) fits.1
    ∙ ap (λ (es : List DirEntry). Ok (es, rest)) (append_assoc earlier (e ∷ []) more)

flag_long : (b : Bool) → length (flag b) ≡ 4
unfolding flag
flag_long b = word_length _

-- there are fewer entries than bytes
entries_long : (es : List DirEntry) → length es < length (entries es)
unfolding entries
entries_long [] = omega (arith, flag_long false)
entries_long (e ∷ es) =
    let first : List ℕ = flag true ++ entry e in
    let others : List ℕ = flat_map (λ x. flag true ++ entry x) es in
    omega (arith, entries_long es, length-append (first ++ others) (flag false), length-append first others, length-append (flag true) (entry e), flag_long true, length-append others (flag false))

entries_item : IsItem all_entries_at entries (λ es. All IsEntry es)
unfolding all_entries_at
entries_item = record {
  found = λ bytes es rest fits e.
      let p = entries_found (length bytes) [] bytes es rest fits e in
      (p.2 ∙ ap (λ (xs : List DirEntry). entries xs ++ rest) (sym p.1), All-from_recursion IsEntry es (subst (AllByRecursion IsEntry) (sym p.1) p.3));
  again = λ es rest fits.
      entries_again es (length (entries es ++ rest)) [] rest (omega (arith, entries_long es, length-append (entries es) rest)) (recursion_from_All IsEntry es fits);
}

pub dir_item : IsItem dir_at dir_bytes IsDir
unfolding dir_at dir_bytes
dir_item =
    fits_as IsDir (λ d f. (f.cookieverf, (f.entries, (tt, tt)))) (λ d f. record { cookieverf = f.0; entries = f.1.0 }) (
    record_item (
    field_part (λ (d : ReadDirOk). d.cookieverf) _ (λ _. hyper_item) (
    field_part (λ (d : ReadDirOk). d.entries) _ (λ _. entries_item) (
    field_part (λ (d : ReadDirOk). d.eof) _ (λ _. flag_item) (
    made_part _ (λ _. refl) (λ _. refl))))))
