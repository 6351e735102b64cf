-- The arguments of operations on opens (RFC 7531).
use Rattle.std.specs.Prelude.{ℕ, ◌==◌, List, [], ◌∷◌, ◌++◌, find, Option}
use Rattle.nm_xdr.specs.Fields.{Reading, field, made}
use Rattle.nm_xdr.specs.Items.{word, hyper, opaque, structure, union, word_at, hyper_at, enum_at}
use Rattle.nm_types.specs.declared.calls.StateRef.{StateRef}
use Rattle.nm_types.specs.declared.args.CloseArgs.{CloseArgs}
use Rattle.nm_types.specs.declared.args.OpenType.{OpenType}
use Rattle.nm_types.specs.declared.args.OpenType.TheVariants.{NoCreate, Unchecked, Guarded, Exclusive}
use Rattle.nm_types.specs.declared.args.Claim.{Claim}
use Rattle.nm_types.specs.declared.args.Claim.TheVariants.{Null, Previous, DelegateCur, DelegatePrev}
use Rattle.nm_types.specs.declared.args.OpenArgs.{OpenArgs}
use Rattle.nm_types.specs.declared.args.OpenConfirmArgs.{OpenConfirmArgs}
use Rattle.nm_types.specs.declared.args.OpenDowngradeArgs.{OpenDowngradeArgs}
use Rattle.nm_types.specs.Wire.{stateid_bytes}
use Rattle.nm_items.specs.Parts.{ref_at, IsStateRef, fattr, fattr_at, AreAttributes}
use Rattle.nm_args.specs.declared.op.OwnedOpen.{OwnedOpen}
use Rattle.nm_args.specs.declared.parts.Clientids.{Clientids}
use Rattle.nm_args.specs.Parts.{IsWord, IsHyper, name_at, IsName, IsText, IsClientid, owner_bytes, owner_at}

-- ---- CLOSE (CLOSE4args)

unfoldable pub close : CloseArgs → List ℕ
close a = structure (word a.seqid ∷ stateid_bytes a.stateid ∷ [])

unfoldable pub close_at : Reading CloseArgs
close_at = field word_at (λ seqid. field ref_at (λ stateid. made (record { seqid = seqid; stateid = stateid })))

abbrev pub IsClose : CloseArgs → Type 0
IsClose a = IsWord a.seqid × IsStateRef a.stateid

-- ---- OPEN (OPEN4args)

-- createmode4
pub data Mode : Type 0 where
  unchecked : Mode
  guarded : Mode
  exclusive : Mode

unfoldable pub mode_number : Mode → ℕ
mode_number unchecked = 0
mode_number guarded = 1
mode_number exclusive = 2

unfoldable pub mode_of : ℕ → Option Mode
mode_of n = find (λ m. mode_number m == n) (unchecked ∷ guarded ∷ exclusive ∷ [])

-- opentype4: whether the file is made
pub data Making : Type 0 where
  not_made : Making
  is_made : Making

unfoldable pub making_number : Making → ℕ
making_number not_made = 0
making_number is_made = 1

unfoldable pub making_of : ℕ → Option Making
making_of n = find (λ m. making_number m == n) (not_made ∷ is_made ∷ [])

abbrev pub making : OpenType → Making
making NoCreate = not_made
making (Unchecked f) = is_made
making (Guarded f) = is_made
making (Exclusive v) = is_made

-- where nothing is made, there is no mode: this one stands for none
abbrev pub mode : OpenType → Mode
mode NoCreate = unchecked
mode (Unchecked f) = unchecked
mode (Guarded f) = guarded
mode (Exclusive v) = exclusive

-- createhow4: what follows a mode
abbrev pub how : OpenType → List ℕ
how NoCreate = []
how (Unchecked f) = fattr f
how (Guarded f) = fattr f
how (Exclusive v) = hyper v

-- openflag4: what follows the type
abbrev pub made_how : OpenType → List ℕ
made_how NoCreate = []
made_how (Unchecked f) = union (word 0) (fattr f)
made_how (Guarded f) = union (word 1) (fattr f)
made_how (Exclusive v) = union (word 2) (hyper v)

unfoldable pub open_type : OpenType → List ℕ
open_type t = union (word (making_number (making t))) (made_how t)

unfoldable pub how_at : Mode → Reading OpenType
how_at unchecked = field fattr_at (λ f. made (Unchecked f))
how_at guarded = field fattr_at (λ f. made (Guarded f))
how_at exclusive = field hyper_at (λ v. made (Exclusive v))

unfoldable pub made_how_at : Making → Reading OpenType
made_how_at not_made = made NoCreate
made_how_at is_made = field (enum_at mode_of) how_at

unfoldable pub open_type_at : Reading OpenType
open_type_at = field (enum_at making_of) made_how_at

abbrev pub IsOpenType : OpenType → Type 0
IsOpenType NoCreate = Unit {0}
IsOpenType (Unchecked f) = AreAttributes f
IsOpenType (Guarded f) = AreAttributes f
IsOpenType (Exclusive v) = IsHyper v

-- open_claim_type4
pub data Claiming : Type 0 where
  by_name : Claiming
  by_previous : Claiming
  by_delegation : Claiming
  by_earlier_delegation : Claiming

unfoldable pub claiming_number : Claiming → ℕ
claiming_number by_name = 0
claiming_number by_previous = 1
claiming_number by_delegation = 2
claiming_number by_earlier_delegation = 3

unfoldable pub claiming_of : ℕ → Option Claiming
claiming_of n = find (λ c. claiming_number c == n) (by_name ∷ by_previous ∷ by_delegation ∷ by_earlier_delegation ∷ [])

abbrev pub claiming : Claim → Claiming
claiming (Null name) = by_name
claiming (Previous kind) = by_previous
claiming (DelegateCur stateid name) = by_delegation
claiming (DelegatePrev name) = by_earlier_delegation

-- open_claim4: what follows the type
abbrev pub claimed : Claim → List ℕ
claimed (Null name) = opaque name
claimed (Previous kind) = word kind
claimed (DelegateCur stateid name) = stateid_bytes stateid ++ opaque name
claimed (DelegatePrev name) = opaque name

unfoldable pub claim : Claim → List ℕ
claim c = union (word (claiming_number (claiming c))) (claimed c)

-- a stateid and a name
unfoldable pub delegated_at : Reading (StateRef × List ℕ)
delegated_at = field ref_at (λ stateid. field name_at (λ name. made (stateid, name)))

unfoldable pub claimed_at : Claiming → Reading Claim
claimed_at by_name = field name_at (λ name. made (Null name))
claimed_at by_previous = field word_at (λ kind. made (Previous kind))
claimed_at by_delegation = field delegated_at (λ d. made (DelegateCur d.0 d.1))
claimed_at by_earlier_delegation = field name_at (λ name. made (DelegatePrev name))

unfoldable pub claim_at : Reading Claim
claim_at = field (enum_at claiming_of) claimed_at

abbrev pub IsClaim : Claim → Type 0
IsClaim (Null name) = IsName name
IsClaim (Previous kind) = IsWord kind
IsClaim (DelegateCur stateid name) = IsStateRef stateid × IsName name
IsClaim (DelegatePrev name) = IsName name

-- how the file is opened, and by what it is named
unfoldable pub how_and_what : OpenType × Claim → List ℕ
how_and_what h = structure (open_type h.0 ∷ claim h.1 ∷ [])

unfoldable pub how_and_what_at : Reading (OpenType × Claim)
how_and_what_at = field open_type_at (λ opentype. field claim_at (λ claim. made (opentype, claim)))

unfoldable pub opening : OwnedOpen → List ℕ
opening o =
    structure (
    word o.args.seqid ∷ word o.args.access ∷ word o.args.deny ∷ owner_bytes (o.clientid, o.args.owner) ∷ how_and_what (o.args.opentype, o.args.claim) ∷ [])

unfoldable pub opening_at : Clientids → Reading OwnedOpen
opening_at which =
    field word_at (λ seqid. field word_at (λ access. field word_at (λ deny. field (owner_at which) (λ o.
    field how_and_what_at (λ h.
    made (record { clientid = o.0; args = record { seqid = seqid; access = access; deny = deny; owner = o.1; opentype = h.0; claim = h.1 } }))))))

pub record IsOpenArgs (a : OpenArgs) : Type 0 where
  pub seqid : IsWord a.seqid
  pub access : IsWord a.access
  pub deny : IsWord a.deny
  pub owner : IsText a.owner
  pub opentype : IsOpenType a.opentype
  pub claim : IsClaim a.claim

abbrev pub IsOpening : Clientids → OwnedOpen → Type 0
IsOpening which o = IsClientid which o.clientid × IsOpenArgs o.args

-- ---- OPEN_CONFIRM (OPEN_CONFIRM4args)

unfoldable pub confirm : OpenConfirmArgs → List ℕ
confirm a = structure (stateid_bytes a.stateid ∷ word a.seqid ∷ [])

unfoldable pub confirm_at : Reading OpenConfirmArgs
confirm_at = field ref_at (λ stateid. field word_at (λ seqid. made (record { stateid = stateid; seqid = seqid })))

abbrev pub IsConfirm : OpenConfirmArgs → Type 0
IsConfirm a = IsStateRef a.stateid × IsWord a.seqid

-- ---- OPEN_DOWNGRADE (OPEN_DOWNGRADE4args)

unfoldable pub downgrade : OpenDowngradeArgs → List ℕ
downgrade a = structure (stateid_bytes a.stateid ∷ word a.seqid ∷ word a.access ∷ word a.deny ∷ [])

unfoldable pub downgrade_at : Reading OpenDowngradeArgs
downgrade_at =
    field ref_at (λ stateid. field word_at (λ seqid. field word_at (λ access. field word_at (λ deny.
    made (record { stateid = stateid; seqid = seqid; access = access; deny = deny })))))

abbrev pub IsDowngrade : OpenDowngradeArgs → Type 0
IsDowngrade a = IsStateRef a.stateid × IsWord a.seqid × IsWord a.access × IsWord a.deny
