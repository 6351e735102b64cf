-- What is written of results is these results.
use Rattle.std.proofs.Common.{◌≡◌, ℕ, ◌≤◌, List, [], ◌∷◌, ◌++◌, length, Ok, refl, ap, subst, arith}
use Rattle.std.proofs.lemmas.List.{append-nil}
use Rattle.std.proofs.lemmas.List.Elements.{All-from_recursion, recursion_from_All}
use Rattle.std.specs.List.{AllByRecursion, flat_map}
use Rattle.nm_xdr.specs.Fields.{IsBytes}
use Rattle.nm_xdr.specs.Items.{word, opaque}
use Rattle.nm_types.specs.Statuses.{number_of}
use Rattle.nm_types.specs.declared.results.OpenDelegation.{OpenDelegation}
use Rattle.nm_types.specs.declared.results.OpenDelegation.TheVariants as delegation
use Rattle.nm_types.specs.declared.results.LockKind.{LockKind}
use Rattle.nm_types.specs.declared.results.LockKind.TheVariants as kind
use Rattle.nm_results.specs.declared.values.ResultValue.{ResultValue}
use Rattle.nm_results.specs.declared.values.ResultValue.TheVariants as value
use Rattle.nm_results.specs.declared.values.OpResult.{OpResult}
use Rattle.nm_results.specs.declared.values.Results.{Results}
use Rattle.nm_results.specs.Opens.{AnyDelegation, none, reads, writes, IsAnyDelegation, delegation_of, IsDelegation, written_delegation, written_open}
use Rattle.nm_results.specs.Locks.{number_of_kind, kind_of_number, written_denied}
use Rattle.nm_results.specs.Values.{value_bytes, IsValue, IsSpelling}
use Rattle.nm_results.specs.Results.{results_of, result_bytes, results_bytes, IsOpResult, AreResults, IsResult, AreRows, IsResults}
use Rattle.nm_results.proofs.ResultLaws.{results_found}

-- ---- Values

told_again : (d : OpenDelegation) → delegation_of (written_delegation d) ≡ d
told_again delegation.None = refl
told_again (delegation.Read s) = refl
told_again (delegation.Write s) = refl

told_fits : (d : OpenDelegation) → IsDelegation d → IsAnyDelegation (written_delegation d)
told_fits delegation.None f = tt
told_fits (delegation.Read s) f = (f, record { kind = omega arith; flags = omega arith; mask = omega arith; who = omega arith })
told_fits (delegation.Write s) f = (f, omega arith, record { kind = omega arith; flags = omega arith; mask = omega arith; who = omega arith })

fits_told : (d : AnyDelegation) → IsAnyDelegation d → IsDelegation (delegation_of d)
fits_told none f = tt
fits_told (reads s recall a) f = f.0
fits_told (writes s recall size a) f = f.0

kind_again : (k : LockKind) → kind_of_number (number_of_kind k) ≡ k
kind_again kind.Read = refl
kind_again kind.Write = refl

kind_from : (k : LockKind) → 1 ≤ number_of_kind k
kind_from kind.Read = omega arith
kind_from kind.Write = omega arith

kind_to : (k : LockKind) → number_of_kind k ≤ 4
kind_to kind.Read = omega arith
kind_to kind.Write = omega arith

-- What is written is a spelling of the value.
value_written : (v : ResultValue) → IsValue v → IsSpelling v (value_bytes v)
unfolding value_bytes
value_written value.Nothing f = refl
value_written (value.Access a) f = (f, refl)
value_written (value.Close s) f = (f, refl)
value_written (value.Commit v) f = (f, refl)
value_written (value.Create c) f = record { all = _; fits = record { cinfo = f.cinfo; attrset = f.attrset }; kept = refl; spelled = refl }
value_written (value.GetAttr a) f = (f, refl)
value_written (value.GetFh h) f = (f, refl)
value_written (value.Lock s) f = (f, refl)
value_written (value.Denied d) f = record {
  all = written_denied d;
  fits = record { offset = f.offset; extent = f.extent; from_one = kind_from d.kind; to_four = kind_to d.kind; clientid = f.clientid; owner = f.owner };
  kept = ap (λ (k : LockKind). record { offset = d.offset; length = d.length; kind = k; clientid = d.clientid; owner = d.owner }) (kind_again d.kind);
  spelled = refl;
}
value_written (value.LockU s) f = (f, refl)
value_written (value.Open o) f = record {
  all = written_open o;
  fits = record { stateid = f.stateid; cinfo = f.cinfo; rflags = f.rflags; attrset = f.attrset; delegation = told_fits o.delegation f.delegation };
  kept = ap (λ (d : OpenDelegation). record { stateid = o.stateid; cinfo = o.cinfo; rflags = o.rflags; attrset = o.attrset; delegation = d }) (told_again o.delegation);
  spelled = refl;
}
value_written (value.OpenConfirm s) f = (f, refl)
value_written (value.OpenDowngrade s) f = (f, refl)
value_written (value.Read r) f = (f, refl)
value_written (value.ReadDir d) f = (f, refl)
value_written (value.Remove c) f = record { all = _; fits = f; kept = refl; spelled = refl }
value_written (value.SetAttr a) f = (f, refl)
value_written (value.SetClientId c) f = (f, refl)
value_written (value.ClientInUse a) f = (f, refl)
value_written (value.Write w) f = (f, refl)

-- What has a spelling can be spelled.
value_fits : (v : ResultValue) (bytes : List ℕ) → IsSpelling v bytes → IsValue v
value_fits value.Nothing bytes s = tt
value_fits (value.Access a) bytes s = s.0
value_fits (value.Close a) bytes s = s.0
value_fits (value.Commit v) bytes s = s.0
value_fits (value.Create c) bytes s = subst (λ x. IsValue (value.Create x)) s.kept (record { cinfo = s.fits.cinfo; attrset = s.fits.attrset })
value_fits (value.GetAttr a) bytes s = s.0
value_fits (value.GetFh h) bytes s = s.0
value_fits (value.Lock a) bytes s = s.0
value_fits (value.Denied d) bytes s =
    subst (λ x. IsValue (value.Denied x)) s.kept (record { offset = s.fits.offset; extent = s.fits.extent; clientid = s.fits.clientid; owner = s.fits.owner })
value_fits (value.LockU a) bytes s = s.0
value_fits (value.Open o) bytes s =
    subst (λ x. IsValue (value.Open x)) s.kept (record { stateid = s.fits.stateid; cinfo = s.fits.cinfo; rflags = s.fits.rflags; attrset = s.fits.attrset; delegation = fits_told s.all.delegation s.fits.delegation })
value_fits (value.OpenConfirm a) bytes s = s.0
value_fits (value.OpenDowngrade a) bytes s = s.0
value_fits (value.Read r) bytes s = s.0
value_fits (value.ReadDir d) bytes s = s.0
value_fits (value.Remove c) bytes s = subst (λ x. IsValue (value.Remove x)) s.kept s.fits
value_fits (value.SetAttr a) bytes s = s.0
value_fits (value.SetClientId c) bytes s = s.0
value_fits (value.ClientInUse a) bytes s = s.0
value_fits (value.Write w) bytes s = s.0

-- ---- Results

result_written : (r : OpResult) → IsOpResult r → IsResult r (result_bytes r)
unfolding result_bytes
result_written r f = record {
  op = f.op;
  arm = f.arm;
  body = value_bytes r.value;
  value = value_written r.value f.value;
  spelled = ap (λ (b : List ℕ). word r.op ++ (word (number_of r.status) ++ b)) (append-nil (value_bytes r.value));
}

rows_written : (rs : List OpResult) → AllByRecursion IsOpResult rs → AreRows rs (flat_map result_bytes rs)
rows_written [] f = refl
rows_written (r ∷ rs) f = (result_bytes r, flat_map result_bytes rs, result_written r f.0, rows_written rs f.1, refl)

pub results_written : (v : Results) → AreResults v → IsResults v (results_bytes v)
unfolding results_bytes
results_written v f = record {
  tag = f.tag;
  count = f.count;
  rows = flat_map result_bytes v.items;
  each = rows_written v.items (recursion_from_All IsOpResult v.items f.each);
  spelled =
      ap (λ (b : List ℕ). word (number_of v.status) ++ (opaque v.tag ++ b)) (append-nil (word (length v.items) ++ flat_map result_bytes v.items));
}

rows_fit : (rs : List OpResult) (bytes : List ℕ) → AreRows rs bytes → AllByRecursion IsOpResult rs
rows_fit [] bytes are = tt
rows_fit (r ∷ rs) bytes are = (record { op = are.2.op; arm = are.2.arm; value = value_fits r.value are.2.body are.2.value }, rows_fit rs are.1 are.3)

-- Results that some bytes are can be written.
pub results_fit : (v : Results) (bytes : List ℕ) → IsResults v bytes → AreResults v
results_fit v bytes is = record { tag = is.tag; count = is.count; each = All-from_recursion IsOpResult v.items (rows_fit v.items is.rows is.each) }

-- Results that were read can be written.
pub read_fits : (bytes : List ℕ) (v : Results) → IsBytes bytes → results_of bytes ≡ Ok v → AreResults v
read_fits bytes v fits e = results_fit v bytes (results_found v bytes fits e)
