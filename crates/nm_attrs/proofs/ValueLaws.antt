-- The reading and the spelling of bitmaps, paths and values belong together.
use Rattle.std.proofs.Common.{◌≡◌, ℕ, ◌-◌, ◌^◌, ◌≤◌, ◌<◌, List, [], ◌∷◌, ◌++◌, length, Result, Ok, All, refl, sym, ap, subst, ◌∙◌, append_assoc, arith}
use Rattle.std.proofs.lemmas.List.{append-nil}
use Rattle.std.proofs.lemmas.List.Elements.{All-from_recursion, recursion_from_All}
use Rattle.std.specs.List.{AllByRecursion}
use Rattle.nm_xdr.specs.Fields.{Fault, Reading, ◌>>=◌, IsBytes, IsItem}
use Rattle.nm_xdr.specs.Items.{hyper, counted, counted_at}
use Rattle.nm_xdr.proofs.FieldLaws.{field_part, made_part, record_item, spelled_as, fits_as, each_fits, each_fits_after, bind_ok, same_value, IsBytes-behind}
use Rattle.nm_xdr.proofs.ItemLaws.{word_item, hyper_item, flag_item, opaque_item, counted_item}
use Rattle.nm_attrs.specs.declared.values.Location.{Location}
use Rattle.nm_attrs.specs.declared.values.FsLocations.{FsLocations}
use Rattle.nm_attrs.specs.declared.values.AttrValue.{AttrValue}
use Rattle.nm_attrs.specs.declared.values.AttrValue.TheVariants as value
use Rattle.nm_attrs.specs.declared.values.AttrKind.{AttrKind}
use Rattle.nm_attrs.specs.declared.values.AttrKind.TheVariants as kind
use Rattle.nm_attrs.specs.declared.values.Attr.{Attr}
use Rattle.nm_attrs.specs.declared.values.AttrLayout.{AttrLayout}
use Rattle.nm_attrs.specs.Attributes.{path, path_at, location, location_at, locations_at, fs_locations, fs_locations_at, IsPath, IsLocation, AreLocations, IsValue, kind_of, value_bytes, two_at, value_at, attr_at, attrs_at, values_of, layouts_of}
use Rattle.nm_items.proofs.PartItems.{bitmap_item}
use Rattle.nm_xdr.proofs.MadeLaws.{made_found, made_again}

-- ---- Lists whose rows don't need those before them

-- at most max rows, each of which fits
pub list_item : {X : Type 0} {row : Reading X} {spell : X → List ℕ} {Fits : X → Type 0} (max : ℕ) → max < 2 ^ 32 → IsItem row spell Fits
    → IsItem (counted_at max (λ _. row)) (counted spell) (λ xs. (length xs ≤ max) × All Fits xs)
list_item {X} {row} {spell} {Fits} max small item =
    fits_as (λ xs. (length xs ≤ max) × All Fits xs)
    (λ xs f. (f.0, each_fits_after Fits [] xs (recursion_from_All Fits xs f.1)))
    (λ xs f. (f.0, All-from_recursion Fits xs (each_fits Fits [] xs f.1)))
    (counted_item max small (λ _. item))

pub path_item : IsItem path_at path IsPath
unfolding path_at
path_item =
    fits_as IsPath (λ names f. (omega (arith, f.0), f.1)) (λ names f. (omega (arith, f.0), f.1)) (list_item (2 ^ 32 - 1) (omega arith) (opaque_item 1048576 (omega arith)))

pub location_item : IsItem location_at location IsLocation
unfolding location_at location
location_item =
    fits_as IsLocation (λ l f. (f.servers, (f.root, tt))) (λ l f. record { servers = f.0; root = f.1.0 }) (
    record_item (
    field_part (λ (l : Location). l.servers) _ (λ _. path_item) (
    field_part (λ (l : Location). l.root) _ (λ _. path_item) (
    made_part _ (λ _. refl) (λ _. refl)))))

pub fs_locations_item : IsItem fs_locations_at fs_locations AreLocations
unfolding fs_locations_at fs_locations locations_at
fs_locations_item =
    fits_as AreLocations (λ l f. (f.root, ((omega (arith, f.count), f.each), tt))) (λ l f. record { root = f.0; count = omega (arith, f.1.0.0); each = f.1.0.1 }) (
    record_item (
    field_part (λ (l : FsLocations). l.root) _ (λ _. path_item) (
    field_part (λ (l : FsLocations). l.locations) _ (λ _. list_item (2 ^ 32 - 1) (omega arith) location_item) (
    made_part _ (λ _. refl) (λ _. refl)))))

two_item : IsItem two_at (λ p. hyper p.0 ++ hyper p.1) (λ p. (p.0 < 2 ^ 64) × (p.1 < 2 ^ 64))
unfolding two_at
two_item =
    fits_as (λ p. (p.0 < 2 ^ 64) × (p.1 < 2 ^ 64)) (λ p f. (f.0, (f.1, tt))) (λ p f. (f.0, f.1.0)) (
    spelled_as (λ p. hyper p.0 ++ hyper p.1) (λ p _. ap (λ (b : List ℕ). hyper p.0 ++ b) (sym (append-nil (hyper p.1)))) (
    record_item (
    field_part (λ (p : ℕ × ℕ). p.0) _ (λ _. hyper_item) (
    field_part (λ (p : ℕ × ℕ). p.1) _ (λ _. hyper_item) (
    made_part _ (λ _. refl) (λ _. refl))))))

-- ---- Values

-- What is read of a kind is a value of it, spelled so.
value_found : (k : AttrKind) (bytes : List ℕ) (v : AttrValue) (rest : List ℕ) → IsBytes bytes → value_at k bytes ≡ Ok (v, rest)
    → (bytes ≡ value_bytes v ++ rest) × (IsValue v × (kind_of v ≡ k))
unfolding value_at value_bytes
value_found kind.Words bytes v rest fits e =
    made_found (λ ws. value.Words ws) value_bytes (λ x. IsValue x × (kind_of x ≡ kind.Words)) (λ ws f. ((f, refl), refl)) bitmap_item bytes v rest fits e
value_found kind.U32 bytes v rest fits e =
    made_found (λ n. value.U32 n) value_bytes (λ x. IsValue x × (kind_of x ≡ kind.U32)) (λ n f. ((f, refl), refl)) word_item bytes v rest fits e
value_found kind.U64 bytes v rest fits e =
    made_found (λ n. value.U64 n) value_bytes (λ x. IsValue x × (kind_of x ≡ kind.U64)) (λ n f. ((f, refl), refl)) hyper_item bytes v rest fits e
value_found kind.Bool bytes v rest fits e =
    made_found (λ b. value.Bool b) value_bytes (λ x. IsValue x × (kind_of x ≡ kind.Bool)) (λ b f. ((f, refl), refl)) flag_item bytes v rest fits e
value_found kind.Fsid bytes v rest fits e =
    made_found (λ p. value.Fsid p.0 p.1) value_bytes (λ x. IsValue x × (kind_of x ≡ kind.Fsid)) (λ p f. ((f, refl), refl)) two_item bytes v rest fits e
value_found kind.FileHandle bytes v rest fits e =
    made_found (λ h. value.FileHandle h) value_bytes (λ x. IsValue x × (kind_of x ≡ kind.FileHandle)) (λ h f. ((f, refl), refl)) (opaque_item 128 (omega arith)) bytes v rest fits e
value_found kind.Locations bytes v rest fits e =
    made_found (λ l. value.Locations l) value_bytes (λ x. IsValue x × (kind_of x ≡ kind.Locations)) (λ l f. ((f, refl), refl)) fs_locations_item bytes v rest fits e

-- A value is read of its spelling, by its kind.
value_again : (v : AttrValue) (rest : List ℕ) → IsValue v → value_at (kind_of v) (value_bytes v ++ rest) ≡ Ok (v, rest)
unfolding value_at value_bytes
value_again (value.Words words) rest f = made_again (λ ws. value.Words ws) bitmap_item words rest f
value_again (value.U32 n) rest f = made_again (λ x. value.U32 x) word_item n rest f
value_again (value.U64 n) rest f = made_again (λ x. value.U64 x) hyper_item n rest f
value_again (value.Bool b) rest f = made_again (λ x. value.Bool x) flag_item b rest f
value_again (value.Fsid major minor) rest f = made_again (λ p. value.Fsid p.0 p.1) two_item (major, minor) rest f
value_again (value.FileHandle handle) rest f = made_again (λ h. value.FileHandle h) (opaque_item 128 (omega arith)) handle rest f
value_again (value.Locations locations) rest f = made_again (λ l. value.Locations l) fs_locations_item locations rest f

-- A value of a kind.
pub value_item : (k : AttrKind) → IsItem (value_at k) value_bytes (λ v. IsValue v × (kind_of v ≡ k))
value_item k = record {
  found = value_found k;
  again = λ v rest f. subst (λ (x : AttrKind). value_at x (value_bytes v ++ rest) ≡ Ok (v, rest)) f.1 (value_again v rest f.0);
}

-- ---- Attributes

-- an attribute's number, and what its value is
abbrev pub layout_of : Attr → AttrLayout
layout_of a = record { bit = a.bit; kind = kind_of a.value }

abbrev pub HasValue : Attr → Type 0
HasValue a = IsValue a.value

attr_found : (l : AttrLayout) (bytes : List ℕ) (a : Attr) (rest : List ℕ) → IsBytes bytes → attr_at l bytes ≡ Ok (a, rest)
    → (bytes ≡ value_bytes a.value ++ rest) × (HasValue a × (layout_of a ≡ l))
attr_found l bytes a rest fits e =
    made_found (λ v. record { bit = l.bit; value = v }) (λ x. value_bytes x.value) (λ x. HasValue x × (layout_of x ≡ l))
    (λ v f. ((f.0, ap (λ (k : AttrKind). record { bit = l.bit; kind = k }) f.1), refl)) (value_item l.kind) bytes a rest fits e

attr_again : (a : Attr) (rest : List ℕ) → HasValue a → attr_at (layout_of a) (value_bytes a.value ++ rest) ≡ Ok (a, rest)
attr_again a rest f = made_again (λ v. record { bit = a.bit; value = v }) (value_item (kind_of a.value)) a.value rest (f, refl)

attrs_found : (ls : List AttrLayout) (earlier : List Attr) (bytes : List ℕ) (attrs : List Attr) (rest : List ℕ) → IsBytes bytes → attrs_at ls earlier bytes ≡ Ok (attrs, rest)
    → (more : List Attr) × (attrs ≡ earlier ++ more) × (layouts_of more ≡ ls) × (bytes ≡ values_of more ++ rest) × AllByRecursion HasValue more
unfolding attrs_at
attrs_found [] earlier bytes attrs rest fits e =
    let same = same_value earlier attrs bytes rest e in
    ([], sym same.0 ∙ sym (append-nil earlier), refl, same.1, tt)
attrs_found (l ∷ ls) earlier bytes attrs rest fits e =
    let b = bind_ok (attr_at l bytes) (λ (a : Attr × List ℕ). attrs_at ls (earlier ++ a.0 ∷ []) a.1) (attrs, rest) e in
    let first = attr_found l bytes b.0.0 b.0.1 fits b.1 in
    let behind : IsBytes b.0.1 = IsBytes-behind (value_bytes b.0.0.value) b.0.1 (subst IsBytes first.0 fits) in
    let others = attrs_found ls (earlier ++ b.0.0 ∷ []) b.0.1 attrs rest behind b.2 in
    let whole_is : bytes ≡ (value_bytes b.0.0.value ++ values_of others.0) ++ rest =
    first.0 ∙ ap (λ (r : List ℕ). value_bytes b.0.0.value ++ r) others.3 ∙ sym (append_assoc (value_bytes b.0.0.value) (values_of others.0) rest) in
    let layouts : layouts_of (b.0.0 ∷ others.0) ≡ l ∷ ls =
    ap (λ (x : AttrLayout). x ∷ layouts_of others.0) first.1.1 ∙ ap (λ (xs : List AttrLayout). l ∷ xs) others.2 in
    (b.0.0 ∷ others.0, others.1 ∙ append_assoc earlier (b.0.0 ∷ []) others.0, layouts, whole_is, (first.1.0, others.4))

attrs_again : (more earlier : List Attr) (rest : List ℕ) → AllByRecursion HasValue more → attrs_at (layouts_of more) earlier (values_of more ++ rest) ≡ Ok (earlier ++ more, rest)
unfolding attrs_at
attrs_again [] earlier rest f = ap (λ (attrs : List Attr). Ok (attrs, rest)) (sym (append-nil earlier))
attrs_again (a ∷ more) earlier rest f =
    let first : attr_at (layout_of a) ((value_bytes a.value ++ values_of more) ++ rest) ≡ Ok (a, values_of more ++ rest) =
    ap (attr_at (layout_of a)) (append_assoc (value_bytes a.value) (values_of more) rest) ∙ attr_again a (values_of more ++ rest) f.0 in
    ap (λ (r : Result (Attr × List ℕ) Fault). r >>= λ v. attrs_at (layouts_of more) (earlier ++ v.0 ∷ []) v.1) first
    ∙ attrs_again more (earlier ++ a ∷ []) rest f.1
    ∙ ap (λ (attrs : List Attr). Ok (attrs, rest)) (append_assoc earlier (a ∷ []) more)

-- The values of these attributes, one after the other.
pub attrs_item : (ls : List AttrLayout) → IsItem (attrs_at ls []) values_of (λ attrs. All HasValue attrs × (layouts_of attrs ≡ ls))
attrs_item ls = record {
  found = λ bytes attrs rest fits e.
      let p = attrs_found ls [] bytes attrs rest fits e in
      (p.3 ∙ ap (λ (xs : List Attr). values_of xs ++ rest) (sym p.1), (All-from_recursion HasValue attrs (subst (AllByRecursion HasValue) (sym p.1) p.4), ap layouts_of p.1 ∙ p.2));
  again = λ attrs rest f.
      ap (λ (xs : List AttrLayout). attrs_at xs [] (values_of attrs ++ rest)) (sym f.1) ∙ attrs_again attrs [] rest (recursion_from_All HasValue attrs f.0);
}
