-- How long the parts of results are.
use Rattle.std.proofs.Common.{◌≡◌, ℕ, ◌+◌, ◌-◌, ◌*◌, ◌/◌, ◌%◌, ◌^◌, ◌≤◌, ◌<◌, Bool, true, false, cond, ltb, List, [], ◌∷◌, ◌++◌, length, take, get_or, replicate, All, Option, Some, None, refl, sym, ap, subst, ◌∙◌, arith}
use Rattle.std.proofs.lemmas.Bool.{ltb-true, ltb-false}
use Rattle.std.proofs.lemmas.List.{append-nil, length-append, length-replicate, take_all, take_more}
use Rattle.std.proofs.lemmas.List.Elements.{All-more}
use Rattle.std.proofs.lemmas.List.Folds.{length-flat_map-take}
use Rattle.std.proofs.lemmas.Grind.{flat_map-append}
use Rattle.std.specs.List.{flat_map}
use Rattle.nm_xdr.specs.Items.{word, hyper, flag, fixed, opaque, padding_of}
use Rattle.nm_items.specs.Parts.{stateid, IsStateId, bitmap, IsBitmap, fattr, AreAttributes}
use Rattle.nm_types.specs.Statuses.{number_of}
use Rattle.nm_types.specs.Wire.{word as rule_word, hyper as rule_hyper, stateid_bytes}
use Rattle.nm_types.specs.declared.args.Fattr.{Fattr}
use Rattle.nm_types.specs.declared.calls.StateId.{StateId}
use Rattle.nm_types.specs.declared.results.CreateOk.{CreateOk}
use Rattle.nm_types.specs.declared.results.OpenOk.{OpenOk}
use Rattle.nm_types.specs.declared.results.OpenDelegation.{OpenDelegation}
use Rattle.nm_types.specs.declared.results.OpenDelegation.TheVariants as delegation
use Rattle.nm_types.specs.declared.results.ReadOk.{ReadOk}
use Rattle.nm_results.specs.declared.values.ClientAddress.{ClientAddress}
use Rattle.nm_results.specs.declared.values.DirEntry.{DirEntry}
use Rattle.nm_results.specs.declared.values.LockDenied.{LockDenied}
use Rattle.nm_results.specs.declared.values.OpResult.{OpResult}
use Rattle.nm_results.specs.declared.values.ReadDirOk.{ReadDirOk}
use Rattle.nm_results.specs.declared.values.Results.{Results}
use Rattle.nm_results.specs.Arms.{is_op, arm_of}
use Rattle.nm_results.specs.Clients.{address, IsAddress}
use Rattle.nm_results.specs.Contents.{read_bytes, IsRead}
use Rattle.nm_results.specs.Directories.{create, written_create, IsCreate, entry, IsEntry, entries, dir_bytes, IsDir}
use Rattle.nm_results.specs.Lengths.{Measures, both}
use Rattle.nm_results.specs.Locks.{denied, written_denied, number_of_kind, IsDenied}
use Rattle.nm_results.specs.Opens.{ace, no_ace, delegation_bytes, written_delegation, IsDelegation, open_bytes, written_open, IsOpen}
use Rattle.nm_results.specs.Parts.{change, written_change, IsChange}
use Rattle.nm_results.specs.Results.{result_bytes, IsOpResult, results_bytes, AreResults}
use Rattle.nm_results.specs.Values.{arm_with, value_bytes, IsValue}
use Rattle.nm_results.proofs.PartLaws.{word_length}

pub opaque_long : (bytes : List ℕ) → length (opaque bytes) ≡ 4 + (length bytes + 3) / 4 * 4
unfolding opaque fixed padding_of
opaque_long bytes =
    omega (arith, length-append (word (length bytes)) (fixed bytes), word_length (length bytes), length-append bytes (replicate ((4 - length bytes % 4) % 4) 0), length-replicate {A = ℕ} ((4 - length bytes % 4) % 4) 0)

words_long : (words : List ℕ) → length (flat_map word words) ≡ 4 * length words
words_long [] = refl
words_long (w ∷ words) = omega (arith, length-append (word w) (flat_map word words), word_length w, words_long words)

pub bitmap_long : (words : List ℕ) → length (bitmap words) ≡ 4 + 4 * length words
bitmap_long words = omega (arith, length-append (word (length words)) (flat_map word words), word_length (length words), words_long words)

pub stateid_long : (s : StateId) → length (stateid s) ≡ 16
unfolding stateid_bytes rule_word rule_hyper
stateid_long s = refl

-- ---- Two parts

sum_known : (P Q : Type 0) (a b : List ℕ) (m n : ℕ) (t : Bool) → ltb (m + n) (2 ^ 64) ≡ t → m ≡ length a → n ≡ length b → P → Q
    → Measures (P × Q) (a ++ b) (cond t (Some (m + n)) None)
sum_known P Q a b m n true e ma nb p q = (((p, q), omega (arith, ltb-true (m + n) (2 ^ 64) e, length-append a b)), omega (arith, length-append a b))
sum_known P Q a b m n false e ma nb p q = λ h. omega (arith, h.1, ltb-false (m + n) (2 ^ 64) e, length-append a b)

-- The length of two parts is that of both, one after the other.
pub both_long : (P Q : Type 0) (a b : List ℕ) (m n : Option ℕ) → Measures P a m → Measures Q b n → Measures (P × Q) (a ++ b) (both m n)
both_long P Q a b None n x y = λ h. x (h.0.0, omega (arith, h.1, length-append a b))
both_long P Q a b (Some m) None x y = λ h. y (h.0.1, omega (arith, h.1, length-append a b))
both_long P Q a b (Some m) (Some n) x y = sum_known P Q a b m n (ltb (m + n) (2 ^ 64)) refl x.1 y.1 x.0.0 y.0.0

-- The same in other words.
pub long_as : (P Q : Type 0) (a b : List ℕ) (o : Option ℕ) → (P → Q) → (Q → P) → length a ≡ length b → Measures P a o → Measures Q b o
long_as P Q a b None to from same x = λ h. x (from h.0, omega (arith, same, h.1))
long_as P Q a b (Some n) to from same x = ((to x.0.0, omega (arith, same, x.0.1)), x.1 ∙ same)

-- So many bytes that are there anyhow.
pub plain : (a : List ℕ) (n : ℕ) → n ≡ length a → n < 2 ^ 64 → Measures (Unit {0}) a (Some n)
plain a n same few = ((tt, omega (arith, same)), same)

-- The length of two parts, as that of what has them.
pub sum_as : (P Q R : Type 0) (a b whole : List ℕ) (m n o : Option ℕ) → o ≡ both m n → (P × Q → R) → (R → P × Q) → length (a ++ b) ≡ length whole
    → Measures P a m → Measures Q b n → Measures R whole o
sum_as P Q R a b whole m n o e to from same x y =
    subst (λ (r : Option ℕ). Measures R whole r) (sym e) (long_as (P × Q) R (a ++ b) whole (both m n) to from same (both_long P Q a b m n x y))

-- ---- Values

hyper_long : (n : ℕ) → length (hyper n) ≡ 8
unfolding hyper
hyper_long n = refl

flag_long : (b : Bool) → length (flag b) ≡ 4
unfolding flag
flag_long b = word_length _

pub bitmap_measured : (words : List ℕ) → length words ≤ 8 → All (λ w. w < 2 ^ 32) words → Measures (IsBitmap words) (bitmap words) (Some (4 + 4 * length words))
bitmap_measured words few small = (((few, small), omega (arith, few, bitmap_long words)), sym (bitmap_long words))

pub create_measured : (v : CreateOk) (m n o : Option ℕ) → o ≡ both m n → Measures (IsChange v.cinfo) (change (written_change v.cinfo)) m
    → Measures (IsBitmap v.attrset) (bitmap v.attrset) n → Measures (IsCreate v) (create (written_create v)) o
unfolding create
create_measured v m n o e x y =
    sum_as (IsChange v.cinfo) (IsBitmap v.attrset) (IsCreate v) (change (written_change v.cinfo)) (bitmap v.attrset) (create (written_create v)) m n o e
    (λ f. record { cinfo = f.0; attrset = f.1 }) (λ f. (f.cinfo, f.attrset))
    (ap (λ (b : List ℕ). length (change (written_change v.cinfo) ++ b)) (sym (append-nil (bitmap v.attrset)))) x y

pub fattr_measured : (v : Fattr) (m n o : Option ℕ) → o ≡ both m n → Measures (IsBitmap v.words) (bitmap v.words) m
    → Measures (length v.values ≤ 65536) (opaque v.values) n → Measures (AreAttributes v) (fattr v) o
unfolding fattr
fattr_measured v m n o e x y =
    sum_as (IsBitmap v.words) (length v.values ≤ 65536) (AreAttributes v) (bitmap v.words) (opaque v.values) (fattr v) m n o e
    (λ f. record { words = f.0; values = f.1 }) (λ f. (f.words, f.values))
    (ap (λ (b : List ℕ). length (bitmap v.words ++ b)) (sym (append-nil (opaque v.values)))) x y

pub address_measured : (v : ClientAddress) (m n o : Option ℕ) → o ≡ both m n → Measures (length v.netid ≤ 1024) (opaque v.netid) m
    → Measures (length v.addr ≤ 1024) (opaque v.addr) n → Measures (IsAddress v) (address v) o
unfolding address
address_measured v m n o e x y =
    sum_as (length v.netid ≤ 1024) (length v.addr ≤ 1024) (IsAddress v) (opaque v.netid) (opaque v.addr) (address v) m n o e
    (λ f. record { netid = f.0; addr = f.1 }) (λ f. (f.netid, f.addr))
    (ap (λ (b : List ℕ). length (opaque v.netid ++ b)) (sym (append-nil (opaque v.addr)))) x y

pub read_measured : (v : ReadOk) (n o : Option ℕ) → o ≡ both (Some 4) n → Measures (length v.«data» ≤ 65536) (opaque v.«data») n
    → Measures (IsRead v) (read_bytes v) o
unfolding read_bytes
read_measured v n o e y =
    sum_as (Unit {0}) (length v.«data» ≤ 65536) (IsRead v) (flag v.eof) (opaque v.«data») (read_bytes v) (Some 4) n o e
    (λ f. f.1) (λ f. (tt, f)) (ap (λ (b : List ℕ). length (flag v.eof ++ b)) (sym (append-nil (opaque v.«data»))))
    (plain (flag v.eof) 4 (sym (flag_long v.eof)) (omega arith)) y

-- the numbers in front of the owner of a lock
abbrev front : LockDenied → List ℕ
front v = hyper v.offset ++ (hyper v.length ++ (word (number_of_kind v.kind) ++ hyper v.clientid))

front_long : (v : LockDenied) → length (front v) ≡ 28
front_long v = omega (arith, length-append {A = ℕ}, hyper_long v.offset, hyper_long v.length, word_length (number_of_kind v.kind), hyper_long v.clientid)

pub denied_measured : (v : LockDenied) (n o : Option ℕ) → v.offset < 2 ^ 64 → v.length < 2 ^ 64 → v.clientid < 2 ^ 64 → o ≡ both (Some 28) n
    → Measures (length v.owner ≤ 1024) (opaque v.owner) n → Measures (IsDenied v) (denied (written_denied v)) o
unfolding denied
denied_measured v n o first extent client e y =
    sum_as (Unit {0}) (length v.owner ≤ 1024) (IsDenied v) (front v) (opaque v.owner) (denied (written_denied v)) (Some 28) n o e
    (λ f. record { offset = first; extent = extent; clientid = client; owner = f.1 }) (λ f. (tt, f.owner))
    (omega (arith, length-append {A = ℕ})) (plain (front v) 28 (sym (front_long v)) (omega arith)) y

-- what stands beside a delegation's stateid
reads_rest : length (word 1 ++ (flag false ++ (ace no_ace ++ []))) ≡ 24
unfolding ace word flag opaque fixed padding_of
reads_rest = refl

writes_rest : length (word 2 ++ (flag false ++ (word 1 ++ (hyper 1048576 ++ (ace no_ace ++ []))))) ≡ 36
unfolding ace word hyper flag opaque fixed padding_of
writes_rest = refl

-- the stateid, and so many bytes beside it
pub reads_measured : (d : OpenDelegation) (s : StateId) (n o : Option ℕ) → d ≡ delegation.Read s → o ≡ both (Some 24) n → Measures (IsStateId s) (stateid s) n
    → Measures (IsDelegation d) (delegation_bytes (written_delegation d)) o
unfolding delegation_bytes
reads_measured d s n o is e y =
    let rest : List ℕ = flag false ++ (ace no_ace ++ []) in
    subst (λ (x : OpenDelegation). Measures (IsDelegation x) (delegation_bytes (written_delegation x)) o) (sym is) (
    sum_as (Unit {0}) (IsStateId s) (IsStateId s) (word 1 ++ rest) (stateid s) (word 1 ++ (stateid s ++ rest)) (Some 24) n o e
    (λ f. f.1) (λ f. (tt, f)) (omega (arith, length-append {A = ℕ}))
    (plain (word 1 ++ rest) 24 (sym reads_rest) (omega arith)) y)

pub writes_measured : (d : OpenDelegation) (s : StateId) (n o : Option ℕ) → d ≡ delegation.Write s → o ≡ both (Some 36) n → Measures (IsStateId s) (stateid s) n
    → Measures (IsDelegation d) (delegation_bytes (written_delegation d)) o
unfolding delegation_bytes
writes_measured d s n o is e y =
    let rest : List ℕ = flag false ++ (word 1 ++ (hyper 1048576 ++ (ace no_ace ++ []))) in
    subst (λ (x : OpenDelegation). Measures (IsDelegation x) (delegation_bytes (written_delegation x)) o) (sym is) (
    sum_as (Unit {0}) (IsStateId s) (IsStateId s) (word 2 ++ rest) (stateid s) (word 2 ++ (stateid s ++ rest)) (Some 36) n o e
    (λ f. f.1) (λ f. (tt, f)) (omega (arith, length-append {A = ℕ}))
    (plain (word 2 ++ rest) 36 (sym writes_rest) (omega arith)) y)

pub none_measured : (d : OpenDelegation) → d ≡ delegation.None → Measures (IsDelegation d) (delegation_bytes (written_delegation d)) (Some 4)
unfolding delegation_bytes word
none_measured d is = subst (λ (x : OpenDelegation). Measures (IsDelegation x) (delegation_bytes (written_delegation x)) (Some 4)) (sym is) ((tt, omega arith), refl)

-- what stands before the delegation of an OPEN
abbrev pub OpenFront : OpenOk → Type 0
OpenFront v = (IsStateId v.stateid × IsChange v.cinfo) × (Unit {0} × IsBitmap v.attrset)

pub open_measured : (v : OpenOk) (a b c d ab cd abcd o : Option ℕ) → v.rflags < 2 ^ 32
    → ab ≡ both a b → cd ≡ both (Some 4) c → abcd ≡ both ab cd → o ≡ both abcd d
    → Measures (IsStateId v.stateid) (stateid v.stateid) a → Measures (IsChange v.cinfo) (change (written_change v.cinfo)) b
    → Measures (IsBitmap v.attrset) (bitmap v.attrset) c → Measures (IsDelegation v.delegation) (delegation_bytes (written_delegation v.delegation)) d
    → Measures (IsOpen v) (open_bytes (written_open v)) o
unfolding open_bytes
open_measured v a b c d ab cd abcd o flags e f g h x y z w =
    let s : List ℕ = stateid v.stateid in
    let i : List ℕ = change (written_change v.cinfo) in
    let m : List ℕ = bitmap v.attrset in
    let l : List ℕ = delegation_bytes (written_delegation v.delegation) in
    let first : Measures (IsStateId v.stateid × IsChange v.cinfo) (s ++ i) ab = subst (λ (r : Option ℕ). Measures (IsStateId v.stateid × IsChange v.cinfo) (s ++ i) r) (sym e) (both_long (IsStateId v.stateid) (IsChange v.cinfo) s i a b x y) in
    let second : Measures (Unit {0} × IsBitmap v.attrset) (word v.rflags ++ m) cd = subst (λ (r : Option ℕ). Measures (Unit {0} × IsBitmap v.attrset) (word v.rflags ++ m) r) (sym f) (both_long (Unit {0}) (IsBitmap v.attrset) (word v.rflags) m (Some 4) c (plain (word v.rflags) 4 (sym (word_length v.rflags)) (omega arith)) z) in
    let all_but : Measures (OpenFront v) ((s ++ i) ++ (word v.rflags ++ m)) abcd = subst (λ (r : Option ℕ). Measures (OpenFront v) ((s ++ i) ++ (word v.rflags ++ m)) r) (sym g) (both_long (IsStateId v.stateid × IsChange v.cinfo) (Unit {0} × IsBitmap v.attrset) (s ++ i) (word v.rflags ++ m) ab cd first second) in
    sum_as (OpenFront v) (IsDelegation v.delegation) (IsOpen v) ((s ++ i) ++ (word v.rflags ++ m)) l (open_bytes (written_open v)) abcd d o h
    (λ k. record { stateid = k.0.0.0; cinfo = k.0.0.1; rflags = flags; attrset = k.0.1.1; delegation = k.1 })
    (λ k. (((k.stateid, k.cinfo), (tt, k.attrset)), k.delegation)) (omega (arith, length-append {A = ℕ})) all_but w

-- ---- READDIR

pub entry_measured : (v : DirEntry) (m n mn o : Option ℕ) → v.cookie < 2 ^ 64 → mn ≡ both m n → o ≡ both (Some 12) mn
    → Measures (length v.name ≤ 1048576) (opaque v.name) m → Measures (AreAttributes v.attrs) (fattr v.attrs) n
    → Measures (IsEntry v) (flag true ++ entry v) o
unfolding entry
entry_measured v m n mn o cookie e f x y =
    let inner : Measures ((length v.name ≤ 1048576) × AreAttributes v.attrs) (opaque v.name ++ fattr v.attrs) mn = subst (λ (r : Option ℕ). Measures ((length v.name ≤ 1048576) × AreAttributes v.attrs) (opaque v.name ++ fattr v.attrs) r) (sym e) (both_long (length v.name ≤ 1048576) (AreAttributes v.attrs) (opaque v.name) (fattr v.attrs) m n x y) in
    sum_as (Unit {0}) ((length v.name ≤ 1048576) × AreAttributes v.attrs) (IsEntry v) (flag true ++ hyper v.cookie) (opaque v.name ++ fattr v.attrs) (flag true ++ entry v) (Some 12) mn o f
    (λ k. record { cookie = cookie; name = k.1.0; attrs = k.1.1 }) (λ k. (tt, (k.name, k.attrs))) (omega (arith, length-append {A = ℕ}))
    (plain (flag true ++ hyper v.cookie) 12 (omega (arith, length-append (flag true) (hyper v.cookie), flag_long true, hyper_long v.cookie)) (omega arith)) inner

pub dir_measured : (v : ReadDirOk) (n o : Option ℕ) → v.cookieverf < 2 ^ 64 → o ≡ both (Some 16) n
    → Measures (All IsEntry v.entries) (flat_map (λ e. flag true ++ entry e) v.entries) n → Measures (IsDir v) (dir_bytes v) o
unfolding dir_bytes entries
dir_measured v n o verf e y =
    let ends : List ℕ = hyper v.cookieverf ++ (flag false ++ flag v.eof) in
    sum_as (Unit {0}) (All IsEntry v.entries) (IsDir v) ends (flat_map (λ e. flag true ++ entry e) v.entries) (dir_bytes v) (Some 16) n o e
    (λ k. record { cookieverf = verf; entries = k.1 }) (λ k. (tt, k.entries)) (omega (arith, length-append {A = ℕ}))
    (plain ends 16 (omega (arith, length-append {A = ℕ}, hyper_long v.cookieverf, flag_long false, flag_long v.eof)) (omega arith)) y

-- ---- Results

pub result_measured : (r : OpResult) (n o : Option ℕ) → (is_op r.op ≡ true) × (arm_of r.op r.status ≡ Some (arm_with r.value)) → o ≡ both n (Some 8)
    → Measures (IsValue r.value) (value_bytes r.value) n → Measures (IsOpResult r) (result_bytes r) o
unfolding result_bytes
result_measured r n o has e x =
    let numbers : List ℕ = word r.op ++ word (number_of r.status) in
    sum_as (IsValue r.value) (Unit {0}) (IsOpResult r) (value_bytes r.value) numbers (result_bytes r) n (Some 8) o e
    (λ k. record { op = has.0; arm = has.1; value = k.0 }) (λ k. (k.value, tt)) (omega (arith, length-append {A = ℕ})) x
    (plain numbers 8 (omega (arith, length-append {A = ℕ}, word_length r.op, word_length (number_of r.status))) (omega arith))

pub results_measured : (v : Results) (m n mn o : Option ℕ) → length v.items < 2 ^ 32 → mn ≡ both m n → o ≡ both mn (Some 8)
    → Measures (length v.tag ≤ 1024) (opaque v.tag) m → Measures (All IsOpResult v.items) (flat_map result_bytes v.items) n
    → Measures (AreResults v) (results_bytes v) o
unfolding results_bytes
results_measured v m n mn o count e f x y =
    let rows : List ℕ = flat_map result_bytes v.items in
    let numbers : List ℕ = word (number_of v.status) ++ word (length v.items) in
    let inner : Measures ((length v.tag ≤ 1024) × All IsOpResult v.items) (opaque v.tag ++ rows) mn = subst (λ (r : Option ℕ). Measures ((length v.tag ≤ 1024) × All IsOpResult v.items) (opaque v.tag ++ rows) r) (sym e) (both_long (length v.tag ≤ 1024) (All IsOpResult v.items) (opaque v.tag) rows m n x y) in
    sum_as ((length v.tag ≤ 1024) × All IsOpResult v.items) (Unit {0}) (AreResults v) (opaque v.tag ++ rows) numbers (results_bytes v) mn (Some 8) o f
    (λ k. record { tag = k.0.0; count = count; each = k.0.1 }) (λ k. ((k.tag, k.each), tt)) (omega (arith, length-append {A = ℕ})) inner
    (plain numbers 8 (omega (arith, length-append {A = ℕ}, word_length (number_of v.status), word_length (length v.items))) (omega arith))

-- ---- Rows

-- what is measured of the rows so far
pub record RowsLong {X : Type 0} (Fits : X → Type 0) (spell : X → List ℕ) (sum i : ℕ) (xs : List X) : Type 0 where
  pub few : sum < 2 ^ 64
  pub each : All Fits (take i xs)
  pub long : sum ≡ length (flat_map spell (take i xs))

-- one more
pub row_measured : {X : Type 0} (Fits : X → Type 0) (spell : X → List ℕ) (sum n total i : ℕ) (xs : List X) (x : X) → i < length xs → x ≡ get_or xs i x
    → (sum + n < 2 ^ 64) × (total ≡ sum + n) → Measures (Fits x) (spell x) (Some n) → RowsLong Fits spell sum i xs → RowsLong Fits spell total (i + 1) xs
row_measured {X} Fits spell sum n total i xs x lt is added m so = record {
  few = omega (arith, added.0, added.1);
  each = All-more Fits xs i x lt so.each (subst Fits is m.0.0);
  long =
      let more : flat_map spell (take (i + 1) xs) ≡ flat_map spell (take i xs) ++ spell x =
      ap (flat_map spell) (take_more xs i x lt) ∙ flat_map-append spell (take i xs) (get_or xs i x ∷ []) ∙ ap (λ (y : X). flat_map spell (take i xs) ++ (spell y ++ [])) (sym is)
      ∙ ap (λ (b : List ℕ). flat_map spell (take i xs) ++ b) (append-nil (spell x)) in
      omega (arith, added.1, so.long, m.1, ap length more, length-append (flat_map spell (take i xs)) (spell x));
}

-- a row that can't be measured
pub row_unmeasured : {X : Type 0} (Fits : X → Type 0) (spell : X → List ℕ) (i : ℕ) (xs : List X) (x : X) → i < length xs → x ≡ get_or xs i x
    → Measures (Fits x) (spell x) None → Measures (All Fits xs) (flat_map spell xs) None
row_unmeasured {X} Fits spell i xs x lt is m = λ h.
    m (subst Fits (sym is) (h.0 i x lt), omega (arith, h.1, length-flat_map-take spell xs i x lt, ap (λ (y : X). length (spell y)) is))

-- rows that are too long
pub rows_past : {X : Type 0} (Fits : X → Type 0) (spell : X → List ℕ) (sum n i : ℕ) (xs : List X) (x : X) → i < length xs → x ≡ get_or xs i x
    → (sum + n < 2 ^ 64 → ⊥) → Measures (Fits x) (spell x) (Some n) → RowsLong Fits spell sum i xs → Measures (All Fits xs) (flat_map spell xs) None
rows_past {X} Fits spell sum n i xs x lt is past m so = λ h. past (
    omega (arith, h.1, m.1, so.long, length-flat_map-take spell xs i x lt, ap (λ (y : X). length (spell y)) is))

-- all of them
pub rows_measured : {X : Type 0} (Fits : X → Type 0) (spell : X → List ℕ) (sum i : ℕ) (xs : List X) → length xs ≤ i → RowsLong Fits spell sum i xs
    → Measures (All Fits xs) (flat_map spell xs) (Some sum)
rows_measured Fits spell sum i xs le so =
    let whole : take i xs ≡ xs = take_all i xs le in
    ((subst (All Fits) whole so.each, omega (arith, so.few, so.long, ap (λ ys. length (flat_map spell ys)) whole)), so.long ∙ ap (λ ys. length (flat_map spell ys)) whole)
