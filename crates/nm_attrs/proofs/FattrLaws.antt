-- Attributes are read exactly where they are spelled, and what is written is read again.
use Rattle.std.proofs.Common.{◌≡◌, ℕ, ◌%◌, ◌^◌, ◌<◌, ◌/◌, Bool, true, false, eqb, List, [], ◌∷◌, ◌++◌, Option, Some, None, Result, Ok, Err, All, refl, sym, ap, ◌∙◌, arith}
use Rattle.std.proofs.lemmas.List.{append-nil}
use Rattle.std.proofs.lemmas.List.Elements.{All-from_recursion}
use Rattle.nm_xdr.specs.Fields.{Fault, all_of, IsBytes}
use Rattle.nm_xdr.specs.Items.{opaque}
use Rattle.nm_xdr.proofs.FieldLaws.{all_found, all_again}
use Rattle.nm_attrs.specs.declared.values.Attr.{Attr}
use Rattle.nm_items.specs.Parts.{bitmap, IsBitmap, fattr, fattr_at as item_at}
use Rattle.nm_attrs.specs.Bitmaps.{trimmed, words_of_mask}
use Rattle.nm_attrs.specs.Attributes.{of_supported, attrs_at, asked, unsupported, fattr_at, words_of, values_of, as_fattr, fattr_bytes, layouts_of, mask_of, AreAttrs, IsFattr}
use Rattle.nm_items.proofs.PartItems.{fattr_item}
use Rattle.nm_attrs.proofs.ValueLaws.{HasValue, attrs_item}
use Rattle.nm_attrs.proofs.LeastLaws.{all_supported, none_unsupported}
use Rattle.nm_attrs.proofs.MaskLaws.{by_tests, mask_fits, asked_again, supported_again}

-- what was read, where it was
told_found : (o : Option ℕ) (r : Result (List Attr) Fault) (attrs : List Attr) → of_supported o r ≡ Ok attrs → (o ≡ None) × (r ≡ Ok attrs)
told_found None (Ok x) attrs e = (refl, cc)
told_found None (Err f) attrs e = absurd cc
told_found (Some n) r attrs e = absurd cc

-- Attributes that were read are those of the bitmap, and their values are all of the bytes.
pub fattr_found : (words vals : List ℕ) (attrs : List Attr) → IsBytes vals → fattr_at words vals ≡ Ok attrs → IsFattr words attrs vals
unfolding fattr_at
fattr_found words vals attrs fits e =
    let t = told_found (unsupported words) (all_of (attrs_at (asked words) []) vals) attrs e in
    let p = all_found (attrs_item (asked words)) vals attrs fits t.1 in
    record { supported = all_supported words t.0; layouts = p.1.1; each = p.1.0; spelled = p.0 }

by_layouts : (words : List ℕ) (attrs : List Attr) → unsupported words ≡ None → layouts_of attrs ≡ asked words → All HasValue attrs
    → fattr_at words (values_of attrs) ≡ Ok attrs
unfolding fattr_at
by_layouts words attrs none layouts fits = rw (none, all_again (attrs_item (asked words)) attrs (fits, layouts)) refl

-- And such attributes are read.
pub fattr_again : (words vals : List ℕ) (attrs : List Attr) → IsFattr words attrs vals → fattr_at words vals ≡ Ok attrs
fattr_again words vals attrs f =
    ap (fattr_at words) f.spelled ∙ by_layouts words attrs (none_unsupported words f.supported) f.layouts f.each

-- What is written is read again.
pub fattr_written : (attrs : List Attr) → AreAttrs attrs → fattr_at (words_of attrs) (values_of attrs) ≡ Ok attrs
fattr_written attrs are = by_layouts (words_of attrs) attrs (supported_again attrs are) (sym (asked_again attrs are)) are.each

-- ---- In a message

-- the words of a mask are a bitmap
two_words : (low high : ℕ) → low < 2 ^ 32 → high < 2 ^ 32 → IsBitmap (trimmed low high)
two_words low high l h = cases (eqb low 0) (eqb high 0)
  where
    cases : (a b : Bool) → IsBitmap (by_tests a b low high)
    cases true true = (omega arith, All-from_recursion (λ w. w < 2 ^ 32) [] tt)
    cases true false = (omega arith, All-from_recursion (λ w. w < 2 ^ 32) (low ∷ high ∷ []) (l, (h, tt)))
    cases false true = (omega arith, All-from_recursion (λ w. w < 2 ^ 32) (low ∷ []) (l, tt))
    cases false false = (omega arith, All-from_recursion (λ w. w < 2 ^ 32) (low ∷ high ∷ []) (l, (h, tt)))

words_fit : (attrs : List Attr) → AreAttrs attrs → IsBitmap (words_of attrs)
unfolding words_of_mask
words_fit attrs are =
    let small : mask_of attrs < 2 ^ 64 = mask_fits attrs are in
    two_words (mask_of attrs % 2 ^ 32) (mask_of attrs / 2 ^ 32) (omega arith) (omega arith)

-- They are written as they stand in a message.
pub fattr_spelled : (attrs : List Attr) → fattr (as_fattr attrs) ≡ fattr_bytes attrs
unfolding fattr fattr_bytes
fattr_spelled attrs = ap (λ (b : List ℕ). bitmap (words_of attrs) ++ b) (append-nil (opaque (values_of attrs)))

-- Attributes that are written are taken again, whatever follows.
pub fattr_taken : (attrs : List Attr) (rest : List ℕ) → AreAttrs attrs → item_at (fattr_bytes attrs ++ rest) ≡ Ok (as_fattr attrs, rest)
fattr_taken attrs rest are =
    ap (λ (b : List ℕ). item_at (b ++ rest)) (sym (fattr_spelled attrs)) ∙ fattr_item.again (as_fattr attrs) rest (record { words = words_fit attrs are; values = are.short })
