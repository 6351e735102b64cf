-- The change of a directory, which values of several results have (RFC 7531, change_info4).
use Rattle.std.specs.Prelude.{ℕ, ◌^◌, ◌<◌, Bool, true, List, [], ◌∷◌}
use Rattle.nm_xdr.specs.Fields.{Reading, field, made}
use Rattle.nm_xdr.specs.Items.{hyper, flag, structure, hyper_at, flag_at}
use Rattle.nm_types.specs.declared.results.ChangeInfo.{ChangeInfo}

-- all that stands there
pub record AnyChange : Type 0 where
  pub atomic : Bool
  pub info : ChangeInfo

unfoldable pub change : AnyChange → List ℕ
change c = structure (flag c.atomic ∷ hyper c.info.before ∷ hyper c.info.after ∷ [])

-- whether it is atomic is passed over
unfoldable pub change_at : Reading ChangeInfo
change_at =
    field flag_at (λ atomic. field hyper_at (λ before. field hyper_at (λ after. made (record { before = before; after = after }))))

pub record IsChange (c : ChangeInfo) : Type 0 where
  pub before : c.before < 2 ^ 64
  pub after : c.after < 2 ^ 64

-- what is written is atomic
abbrev pub written_change : ChangeInfo → AnyChange
written_change c = record { atomic = true; info = c }
