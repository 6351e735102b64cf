-- Attributes that the tests write.
use Rattle.std.proofs.Common.{◌≡◌, ℕ, ◌≤◌, ◌<◌, List, [], ◌∷◌, ◌++◌, length, refl, arith}
use Rattle.std.proofs.lemmas.List.Elements.{All-from_recursion}
use Rattle.nm_xdr.specs.Items.{word, hyper}
use Rattle.nm_attrs.specs.declared.values.Attr.{Attr}
use Rattle.nm_attrs.specs.declared.values.AttrValue.TheVariants.{U32, U64}
use Rattle.nm_attrs.specs.Attributes.{table, value_bytes, AreAttrs, IsValue}

-- a size and a mode
pub size_and_mode_are : AreAttrs (([] ++ record { bit = 4; value = U64 5 } ∷ []) ++ record { bit = 33; value = U32 420 } ∷ [])
unfolding table value_bytes word hyper
size_and_mode_are = record {
  known = refl;
  each = All-from_recursion (λ a. IsValue a.value) (record { bit = 4; value = U64 5 } ∷ record { bit = 33; value = U32 420 } ∷ []) (omega arith, (omega arith, tt));
  short = omega arith;
}
