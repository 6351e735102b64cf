-- The attributes that a request sets: of the supported ones (RFC 7530, 5.8) size and mode alone can be set.
use Rattle.std.specs.Prelude.{◌==◌, ◌&&◌, not, ℕ, Bool, true, false, List, [], ◌∷◌, Option, Some, None, drop, length, bit_and, bit_or, if◌then◌else◌}
use Rattle.nm_types.specs.Wire.{word_in, hyper_in}
use Rattle.nm_types.specs.declared.args.Fattr.{Fattr}

-- What attributes ask for, as they came.
pub data Asks : Type 0 where
  -- one of them isn't supported
  Unsupported : Asks
  -- one can't be set, or the values can't be read
  Invalid : Asks
  -- a size, a mode, both or none
  Sets : Option ℕ → Option ℕ → Asks

-- The words of a bitmap with the supported attributes, 0 to 11, 19, 20, 24 and 33, and of one with those that can be set,
-- size 4 and mode 33.
abbrev pub supported_words : List ℕ
supported_words = 18354175 ∷ 2 ∷ []

abbrev pub settable_words : List ℕ
settable_words = 16 ∷ 2 ∷ []

-- Each bit of a bitmap is one of these. Words that aren't there have none.
unfoldable pub are_within : List ℕ → List ℕ → Bool
are_within these [] = true
are_within [] (word ∷ words) = (word == 0) && are_within [] words
are_within (these ∷ more) (word ∷ words) = (bit_or word these == these) && are_within more words

-- size is among the attributes
unfoldable pub has_size : List ℕ → Bool
has_size [] = false
has_size (word ∷ words) = not (bit_and word 16 == 0)

-- mode is
unfoldable pub has_mode : List ℕ → Bool
has_mode [] = false
has_mode (_ ∷ []) = false
has_mode (_ ∷ word ∷ words) = not (bit_and word 2 == 0)

-- The values stand in the order of their bits, eight bytes of size and four of mode, and nothing after them.
unfoldable pub values_ask : Bool → Bool → List ℕ → Asks
values_ask false false values = if length values == 0 then Sets None None else Invalid
values_ask true false values = if length values == 8 then Sets (Some (hyper_in values)) None else Invalid
values_ask false true values = if length values == 4 then Sets None (Some (word_in values)) else Invalid
values_ask true true values = if length values == 12 then Sets (Some (hyper_in values)) (Some (word_in (drop 8 values))) else Invalid

unfoldable pub asks_of : Fattr → Asks
asks_of fattr =
    if not (are_within supported_words fattr.words) then Unsupported
    else (if not (are_within settable_words fattr.words) then Invalid
    else values_ask (has_size fattr.words) (has_mode fattr.words) fattr.values)

-- the bitmap of what was set
unfoldable pub set_words : Option ℕ → Option ℕ → List ℕ
set_words None None = []
set_words (Some _) None = 16 ∷ []
set_words None (Some _) = 0 ∷ 2 ∷ []
set_words (Some _) (Some _) = 16 ∷ 2 ∷ []

abbrev pub asked_size : Asks → Option ℕ
asked_size Unsupported = None
asked_size Invalid = None
asked_size (Sets size mode) = size

abbrev pub asked_mode : Asks → Option ℕ
asked_mode Unsupported = None
asked_mode Invalid = None
asked_mode (Sets size mode) = mode

abbrev pub is_invalid : Asks → Bool
is_invalid Unsupported = false
is_invalid Invalid = true
is_invalid (Sets _ _) = false

abbrev pub is_unsupported : Asks → Bool
is_unsupported Unsupported = true
is_unsupported Invalid = false
is_unsupported (Sets _ _) = false

-- something is set
abbrev pub sets_any : Asks → Bool
sets_any Unsupported = false
sets_any Invalid = false
sets_any (Sets None None) = false
sets_any (Sets (Some _) _) = true
sets_any (Sets None (Some _)) = true
