-- The tests on parties and owners decide equality.
use Rattle.std.proofs.Common.{◌≡◌, refl, ap, sym}
use Rattle.std.specs.Bool.{Decides}
use Rattle.std.proofs.lemmas.Bool.Decides.{Decides-eqb, Decides-and, Decides-like, same_from_decides}
use Rattle.std.proofs.lemmas.Slice.Eq.{bytes_eq-Decides}
use Rattle.nm_types.specs.Parties.{Party, same_party}
use Rattle.nm_types.specs.Owners.{same_kind, same_owner}
use Rattle.nm_types.specs.declared.calls.Owner.{Owner}
use Rattle.nm_types.specs.declared.calls.OwnerKind.{OwnerKind}
use Rattle.nm_types.specs.declared.calls.OwnerKind.TheVariants.{Opens, Locks}

pub same_kind-Decides : (a b : OwnerKind) → Decides (same_kind a b) (a ≡ b)
same_kind-Decides Opens Opens = (λ _. refl, λ _. refl)
same_kind-Decides Locks Locks = (λ _. refl, λ _. refl)
same_kind-Decides Opens Locks = (λ h. cc, λ h. cc)
same_kind-Decides Locks Opens = (λ h. cc, λ h. cc)

pub same_party-Decides : (a b : Party) → Decides (same_party a b) (a ≡ b)
same_party-Decides a b = Decides-like (same_party a b)
    (λ h. λ i. record { id = h.1 i; verifier = h.0.0.0 i; principal = record { flavor = h.0.0.1 i; uid = h.0.1 i } })
    (λ e. (((ap (λ (p : Party). p.verifier) e, ap (λ (p : Party). p.principal.flavor) e), ap (λ (p : Party). p.principal.uid) e), ap (λ (p : Party). p.id) e))
    (Decides-and _ _ (Decides-and _ _ (Decides-and _ _ (Decides-eqb a.verifier b.verifier) (Decides-eqb a.principal.flavor b.principal.flavor)) (Decides-eqb a.principal.uid b.principal.uid)) (bytes_eq-Decides a.id b.id))

pub same_owner-Decides : (a b : Owner) → Decides (same_owner a b) (a ≡ b)
same_owner-Decides a b = Decides-like (same_owner a b)
    (λ h. λ i. record { instance = h.0.0 i; kind = h.0.1 i; text = h.1 i })
    (λ e. ((ap (λ (o : Owner). o.instance) e, ap (λ (o : Owner). o.kind) e), ap (λ (o : Owner). o.text) e))
    (Decides-and _ _ (Decides-and _ _ (same_party-Decides a.instance b.instance) (same_kind-Decides a.kind b.kind)) (bytes_eq-Decides a.text b.text))

-- so it doesn't matter which of two owners is named first
pub same_owner-sym : (a b : Owner) → same_owner a b ≡ same_owner b a
same_owner-sym a b = same_from_decides (same_owner a b) (same_owner b a)
    (same_owner-Decides a b) (Decides-like (same_owner b a) sym sym (same_owner-Decides b a))
