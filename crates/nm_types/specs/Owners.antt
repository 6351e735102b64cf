-- Owners: what a client has in its own name (RFC 7530, 9.1.4).
use Rattle.std.specs.Prelude.{Bool, true, false, ◌&&◌}
use Rattle.std.specs.Str.{bytes_eq}
use Rattle.nm_types.specs.Parties.{same_party}
use Rattle.nm_types.specs.declared.calls.Owner.{Owner}
use Rattle.nm_types.specs.declared.calls.OwnerKind.{OwnerKind}
use Rattle.nm_types.specs.declared.calls.OwnerKind.TheVariants.{Opens, Locks}

abbrev pub same_kind : OwnerKind → OwnerKind → Bool
same_kind Opens Opens = true
same_kind Locks Locks = true
same_kind Opens Locks = false
same_kind Locks Opens = false

-- the same owner: instance, kind and text are equal
abbrev pub same_owner : Owner → Owner → Bool
same_owner a b = same_party a.instance b.instance && same_kind a.kind b.kind && bytes_eq a.text b.text
