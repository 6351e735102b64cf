-- How long the parts of attributes are.
use Rattle.std.proofs.Common.{◌≡◌, ℕ, ◌+◌, ◌-◌, ◌*◌, ◌/◌, ◌%◌, ◌≤◌, ◌<◌, Bool, List, [], ◌∷◌, ◌++◌, length, take, get_or, replicate, refl, ap, arith}
use Rattle.std.proofs.lemmas.List.{append-nil, length-append, length-replicate}
use Rattle.std.proofs.lemmas.List.Folds.{length-flat_map-take}
use Rattle.std.specs.List.{flat_map}
use Rattle.nm_xdr.specs.Items.{word, hyper, flag, fixed, opaque, counted, padding_of}
use Rattle.nm_items.specs.Parts.{bitmap}
use Rattle.nm_attrs.specs.declared.values.Location.{Location}
use Rattle.nm_attrs.specs.declared.values.FsLocations.{FsLocations}
use Rattle.nm_attrs.specs.Attributes.{path, location, fs_locations}

pub four : (n : ℕ) → length (word n) ≡ 4
unfolding word
four n = refl

pub eight : (n : ℕ) → length (hyper n) ≡ 8
unfolding hyper
eight n = refl

pub flag_long : (b : Bool) → length (flag b) ≡ 4
unfolding flag
flag_long b = four _

pub two_long : (a b : ℕ) → length (hyper a ++ hyper b) ≡ 16
two_long a b = omega (arith, length-append (hyper a) (hyper b), eight a, eight b)

pub opaque_long : (bytes : List ℕ) → length (opaque bytes) ≡ 4 + (length bytes + 3) / 4 * 4
unfolding opaque fixed padding_of
opaque_long bytes =
    omega (arith, length-append (word (length bytes)) (fixed bytes), four (length bytes), length-append bytes (replicate ((4 - length bytes % 4) % 4) 0), length-replicate {A = ℕ} ((4 - length bytes % 4) % 4) 0)

words_long : (words : List ℕ) → length (flat_map word words) ≡ 4 * length words
words_long [] = refl
words_long (w ∷ words) = omega (arith, length-append (word w) (flat_map word words), four w, words_long words)

pub bitmap_long : (words : List ℕ) → length (bitmap words) ≡ 4 + 4 * length words
bitmap_long words = omega (arith, length-append (word (length words)) (flat_map word words), four (length words), words_long words)

pub path_long : (names : List (List ℕ)) → length (path names) ≡ 4 + length (flat_map opaque names)
path_long names = omega (arith, length-append (word (length names)) (flat_map opaque names), four (length names))

pub location_long : (l : Location) → length (location l) ≡ length (path l.servers) + length (path l.root)
unfolding location
location_long l =
    omega (arith, length-append (path l.servers) (path l.root ++ []), ap length (append-nil (path l.root)))

pub locations_long : (l : FsLocations) → length (fs_locations l) ≡ length (path l.root) + 4 + length (flat_map location l.locations)
unfolding fs_locations
locations_long l =
    omega (
      arith,
      length-append (path l.root) (counted location l.locations ++ []),
      ap length (append-nil (counted location l.locations)),
      length-append (word (length l.locations)) (flat_map location l.locations),
      four (length l.locations),
    )

-- ---- Rows

-- One more row is within what all of them are.
pub row_within : {X : Type 0} (spell : X → List ℕ) (xs : List X) (i sum most : ℕ) (x : X) → i < length xs → x ≡ get_or xs i x → sum ≡ length (flat_map spell (take i xs))
    → length (flat_map spell xs) ≤ most → sum + length (spell x) ≤ most
row_within {X} spell xs i sum most x lt is so le = omega (arith, so, le, length-flat_map-take spell xs i x lt, ap (λ (y : X). length (spell y)) is)
