-- A callback is read exactly where bytes are one.
use Rattle.std.proofs.Common.{◌≡◌, ◌≢◌, ℕ, ◌+◌, ◌-◌, ◌^◌, ◌≤◌, ◌<◌, Bool, true, false, cond, eqb, List, [], ◌∷◌, ◌++◌, length, All, Result, Ok, Err, refl, sym, ap, subst, ◌∙◌, append_assoc, arith}
use Rattle.std.proofs.lemmas.Bool.{eqb-true, eqb-false, ne_eqb}
use Rattle.std.proofs.lemmas.List.{append-nil, length-append}
use Rattle.nm_xdr.specs.Fields.{Fault, Reading, ◌>>=◌, field, made, ended, IsBytes, IsItem}
use Rattle.nm_xdr.specs.Items.{word, flag, opaque, counted, word_at, flag_at, bytes_at, words_at}
use Rattle.nm_xdr.proofs.FieldLaws.{IsBytes-behind, bind_ok, same_value}
use Rattle.nm_xdr.proofs.ItemLaws.{word_item, flag_item}
use Rattle.nm_xdr.specs.Fields.{passed, pass}
use Rattle.nm_rpc.specs.Messages.{CallHeader, header, IsHeader}
use Rattle.nm_types.specs.declared.calls.StateId.{StateId}
use Rattle.nm_types.specs.declared.wire.Handle.{Handle}
use Rattle.nm_types.specs.Wire.{handle_bytes, IsHandle}
use Rattle.nm_callback.specs.declared.callback.Callback.{Callback}
use Rattle.nm_callback.specs.declared.callback.Callback.TheVariants.{Null, Recall, GetAttr, Illegal}
use Rattle.nm_callback.specs.declared.callback.CallbackFault.{CallbackFault}
use Rattle.nm_callback.specs.declared.callback.CallbackFault.TheVariants.{At, Memory}
use Rattle.nm_callback.specs.Callbacks.{Operation, recalls, asks, others, operation, Body, null, compound, body, procedure_of, opening_at, recall_at, getattr_at, operation_at, compound_at, body_at, callback_at, closed, placed, callback_of, IsOperation, IsBody, told_operation, told, IsCallback, is_known}
use Rattle.nm_xdr.proofs.ByteLaws.{only_item, bytes_item, words_item, passed_found}
use Rattle.nm_items.proofs.PartItems.{stateid_item, handle_item}
use Rattle.nm_items.specs.Parts.{stateid, IsStateId}
use Rattle.nm_callback.proofs.OpeningLaws.{IsOpening, opened, opening_found, opening_again}

-- ---- What was read of a field, where all of the bytes came to a callback

-- what comes of a reading and of what is left
abbrev closing : Result (Callback × List ℕ) Fault → Result Callback Fault
closing r = r >>= λ x. closed x.0 x.1

record Taken {A : Type 0} (spell : A → List ℕ) (Fits : A → Type 0) (more : A → Reading Callback) (bytes : List ℕ) (c : Callback) : Type 0 where
  value : A
  after : List ℕ
  fits : Fits value
  spelled : bytes ≡ spell value ++ after
  are_bytes : IsBytes after
  went : closing (more value after) ≡ Ok c

-- a step that was read went on
closing_step : {A : Type 0} (r : Result (A × List ℕ) Fault) (more : A → Reading Callback) (c : Callback) → closing (r >>= λ x. more x.0 x.1) ≡ Ok c
    → (x : A × List ℕ) × (r ≡ Ok x) × (closing (more x.0 x.1) ≡ Ok c)
closing_step (Ok x) more c e = (x, refl, e)
closing_step (Err f) more c e = absurd cc

taken : {A : Type 0} {read : Reading A} {spell : A → List ℕ} {Fits : A → Type 0} → IsItem read spell Fits
    → (more : A → Reading Callback) (bytes : List ℕ) (c : Callback) → IsBytes bytes → closing (field read more bytes) ≡ Ok c → Taken spell Fits more bytes c
taken {A} {read} {spell} {Fits} item more bytes c are e =
    let b = closing_step (read bytes) more c e in
    let p = item.found bytes b.0.0 b.0.1 are b.1 in
    record {
      value = b.0.0;
      after = b.0.1;
      fits = p.1;
      spelled = p.0;
      are_bytes = IsBytes-behind (spell b.0.0) b.0.1 (subst IsBytes p.0 are);
      went = b.2;
    }

-- nothing was left over
ended_found : (x c : Callback) (rest : List ℕ) → ended x rest ≡ Ok c → (x ≡ c) × (rest ≡ [])
ended_found x c [] e = (cc, refl)
ended_found x c (b ∷ rest) e = absurd cc

-- what was read of an operation: its bytes are all of these
abbrev Read : ℕ → ℕ → ℕ → List ℕ → Callback → Type 0
Read xid ident number bytes c = (o : Operation) × (word number ++ bytes ≡ operation o) × IsOperation o × (told_operation xid ident o ≡ c)

recall_found : (xid ident : ℕ) (bytes : List ℕ) (c : Callback) → IsBytes bytes → closing (recall_at xid ident bytes) ≡ Ok c → Read xid ident 4 bytes c
unfolding recall_at operation
recall_found xid ident bytes c are e =
    let s = taken stateid_item _ bytes c are e in
    let t = taken flag_item _ s.after c s.are_bytes s.went in
    let h = taken handle_item (λ handle. made (Recall xid ident s.value handle)) t.after c t.are_bytes t.went in
    let end = ended_found (Recall xid ident s.value h.value) c h.after h.went in
    let handle_is : t.after ≡ opaque (handle_bytes h.value) ++ [] = h.spelled ∙ ap (λ (b : List ℕ). opaque (handle_bytes h.value) ++ b) end.1 in (
      recalls s.value t.value h.value,
      ap (λ (b : List ℕ). word 4 ++ b)
          (s.spelled ∙ ap (λ (b : List ℕ). stateid s.value ++ b) (t.spelled ∙ ap (λ (b : List ℕ). flag t.value ++ b) handle_is)),
      (s.fits, h.fits),
      end.0,
    )

getattr_found : (xid ident : ℕ) (bytes : List ℕ) (c : Callback) → IsBytes bytes → closing (getattr_at xid bytes) ≡ Ok c → Read xid ident 3 bytes c
unfolding getattr_at operation
getattr_found xid ident bytes c are e =
    let h = taken (bytes_item 128 (omega arith)) _ bytes c are e in
    let b = closing_step (pass (words_at 8) h.after) (λ _. made (GetAttr xid)) c h.went in
    let r = passed_found (words_at 8 h.after) b.0.0 b.0.1 b.1 in
    let w = (words_item 8 (omega arith)).found h.after r.0 b.0.1 h.are_bytes r.1 in
    let end = ended_found (GetAttr xid) c b.0.1 b.2 in
    let words_are : h.after ≡ counted word r.0 ++ [] = w.0 ∙ ap (λ (b : List ℕ). counted word r.0 ++ b) end.1 in (
      asks h.value r.0,
      ap (λ (b : List ℕ). word 3 ++ b) (h.spelled ∙ ap (λ (b : List ℕ). opaque h.value ++ b) words_are),
      (h.fits, w.1.0, w.1.1),
      end.0,
    )

illegal_found : (xid ident number : ℕ) (bytes : List ℕ) (c : Callback) → number < 2 ^ 32 → number ≢ 3 → number ≢ 4 → Illegal xid ≡ c
    → Read xid ident number bytes c
unfolding operation
illegal_found xid ident number bytes c small three four is = (others number bytes, refl, (small, three, four), is)

operation_found : (xid ident number : ℕ) (bytes : List ℕ) (c : Callback) → IsBytes bytes → number < 2 ^ 32 → closing (operation_at xid ident number bytes) ≡ Ok c
    → Read xid ident number bytes c
unfolding operation_at
operation_found xid ident number bytes c are small e = by_number (eqb number 3) (eqb number 4) refl refl e
  where
    by_number : (three four : Bool) → eqb number 3 ≡ three → eqb number 4 ≡ four
        → closing (cond three (getattr_at xid) (cond four (recall_at xid ident) (made (Illegal xid))) bytes) ≡ Ok c → Read xid ident number bytes c
    by_number true four x y h = subst (λ (n : ℕ). Read xid ident n bytes c) (sym (eqb-true number 3 x)) (getattr_found xid ident bytes c are h)
    by_number false true x y h = subst (λ (n : ℕ). Read xid ident n bytes c) (sym (eqb-true number 4 y)) (recall_found xid ident bytes c are h)
    by_number false false x y h =
        let is : Illegal xid ≡ c = cc in
        illegal_found xid ident number bytes c small (eqb-false number 3 x) (eqb-false number 4 y) is

-- what was read behind a header with this procedure
abbrev ReadBody : ℕ → ℕ → List ℕ → Callback → Type 0
ReadBody xid procedure bytes c = (b : Body) × (bytes ≡ body b) × (procedure ≡ procedure_of b) × IsBody b × (told xid b ≡ c)

compound_found : (xid : ℕ) (bytes : List ℕ) (c : Callback) → IsBytes bytes → closing (compound_at xid bytes) ≡ Ok c → ReadBody xid 1 bytes c
unfolding compound_at body
compound_found xid bytes c are e =
    let t = taken (bytes_item 1024 (omega arith)) _ bytes c are e in
    let m = taken word_item _ t.after c t.are_bytes t.went in
    let i = taken word_item _ m.after c m.are_bytes m.went in
    let n = taken (only_item 1 (omega arith)) _ i.after c i.are_bytes i.went in
    let w = taken word_item (operation_at xid i.value) n.after c n.are_bytes n.went in
    let o = operation_found xid i.value w.value w.after c w.are_bytes w.fits w.went in
    let operation_is : n.after ≡ operation o.0 ++ [] = w.spelled ∙ o.1 ∙ sym (append-nil (operation o.0)) in
    let one_is : i.after ≡ word 1 ++ (operation o.0 ++ []) = n.spelled ∙ ap (λ (k : ℕ). word k ++ n.after) n.fits ∙ ap (λ (b : List ℕ). word 1 ++ b) operation_is in
    let ident_is : m.after ≡ word i.value ++ (word 1 ++ (operation o.0 ++ [])) = i.spelled ∙ ap (λ (b : List ℕ). word i.value ++ b) one_is in
    let minor_is : t.after ≡ word m.value ++ (word i.value ++ (word 1 ++ (operation o.0 ++ []))) = m.spelled ∙ ap (λ (b : List ℕ). word m.value ++ b) ident_is in (
      compound t.value m.value i.value o.0,
      t.spelled ∙ ap (λ (b : List ℕ). opaque t.value ++ b) minor_is,
      refl,
      (t.fits, m.fits, i.fits, o.2),
      o.3,
    )

one_left : (n : ℕ) → n ≤ 1 → n ≢ 0 → n ≡ 1
one_left n le ne = omega (arith, le, ne)

null_found : (xid procedure : ℕ) (bytes : List ℕ) (c : Callback) → bytes ≡ [] → procedure ≡ 0 → Null xid ≡ c → ReadBody xid procedure bytes c
unfolding body
null_found xid procedure bytes c none zero is = (null, none, zero, tt, is)

body_found : (xid procedure : ℕ) (bytes : List ℕ) (c : Callback) → IsBytes bytes → procedure ≤ 1 → closing (body_at (xid, procedure) bytes) ≡ Ok c
    → ReadBody xid procedure bytes c
unfolding body_at
body_found xid procedure bytes c are few e = by_procedure (eqb procedure 0) refl e
  where
    by_procedure : (b : Bool) → eqb procedure 0 ≡ b → closing (cond b (made (Null xid)) (compound_at xid) bytes) ≡ Ok c → ReadBody xid procedure bytes c
    by_procedure true x h =
        let end = ended_found (Null xid) c bytes h in
        null_found xid procedure bytes c end.1 (eqb-true procedure 0 x) end.0
    by_procedure false x h =
        let one : procedure ≡ 1 = one_left procedure few (eqb-false procedure 0 x) in
        subst (λ (n : ℕ). ReadBody xid n bytes c) (sym one) (compound_found xid bytes c are h)

-- what is told by its place was read
placed_ok : (total : ℕ) (r : Result Callback Fault) (c : Callback) → placed total r ≡ Ok c → r ≡ Ok c
placed_ok total (Ok x) c e = let same : x ≡ c = cc in ap (λ (v : Callback). Ok v) same
placed_ok total (Err f) c e = absurd cc

whole_found : (c : Callback) (bytes : List ℕ) → IsBytes bytes → closing (callback_at bytes) ≡ Ok c → IsCallback c bytes
unfolding callback_at
whole_found c bytes are e =
    let b = closing_step (opening_at bytes) body_at c e in
    let p = opening_found bytes b.0.0 b.0.1 are b.1 in
    let h : CallHeader = p.0 in
    let behind : IsBytes b.0.1 = IsBytes-behind (header h) b.0.1 (subst IsBytes p.1 are) in
    let went : closing (body_at (h.xid, h.procedure) b.0.1) ≡ Ok c = ap (λ (o : ℕ × ℕ). closing (body_at o b.0.1)) p.3 ∙ b.2 in
    let r = body_found h.xid h.procedure b.0.1 c behind p.2.procedure went in
    record {
      items = h;
      behind = r.0;
      spelled = p.1 ∙ ap (λ (b : List ℕ). header h ++ b) r.1;
      fits = p.2.fits;
      kind = p.2.kind;
      rpc_version = p.2.rpc_version;
      version = p.2.version;
      procedure = r.2;
      is_body = r.3;
      is_told = r.4;
    }

-- What is read of bytes is what they are.
pub callback_found : (c : Callback) (bytes : List ℕ) → IsBytes bytes → callback_of bytes ≡ Ok c → IsCallback c bytes
unfolding callback_of
callback_found c bytes are e = whole_found c bytes are (placed_ok (length bytes) (closing (callback_at bytes)) c e)

-- ---- And the other way round

-- A field that is spelled is read, and what comes after it goes on.
field_again : {A Y : Type 0} {read : Reading A} {spell : A → List ℕ} {Fits : A → Type 0} → IsItem read spell Fits
    → (more : A → Reading Y) (a : A) (tail rest : List ℕ) → Fits a → field read more ((spell a ++ tail) ++ rest) ≡ more a (tail ++ rest)
field_again {A} {Y} {read} {spell} item more a tail rest fits =
    ap (λ (b : List ℕ). field read more b) (append_assoc (spell a) tail rest) ∙ ap (λ (r : Result (A × List ℕ) Fault). r >>= λ x. more x.0 x.1) (item.again a (tail ++ rest) fits)

-- what isn't looked at of an operation
abbrev pub unread : Operation → List ℕ
unread (recalls state truncate handle) = []
unread (asks handle words) = []
unread (others number arguments) = arguments

recall_again : (xid ident : ℕ) (state : StateId) (truncate : Bool) (handle : Handle) (rest : List ℕ) → IsStateId state → IsHandle handle
    → recall_at xid ident ((stateid state ++ (flag truncate ++ (opaque (handle_bytes handle) ++ []))) ++ rest) ≡ Ok (Recall xid ident state handle, rest)
unfolding recall_at
recall_again xid ident state truncate handle rest s h =
    field_again stateid_item _ state _ rest s
    ∙ field_again flag_item _ truncate _ rest tt
    ∙ field_again handle_item (λ handle. made (Recall xid ident state handle)) handle [] rest h

getattr_again : (xid : ℕ) (handle words rest : List ℕ) → length handle ≤ 128 → (length words ≤ 8) × All (λ n. n < 2 ^ 32) words
    → getattr_at xid ((opaque handle ++ (counted word words ++ [])) ++ rest) ≡ Ok (GetAttr xid, rest)
unfolding getattr_at
getattr_again xid handle words rest h w =
    field_again (bytes_item 128 (omega arith)) _ handle _ rest h
    ∙ ap (λ (b : List ℕ). field (pass (words_at 8)) (λ _. made (GetAttr xid)) b) (append_assoc (counted word words) [] rest)
    ∙ ap (λ (r : Result (List ℕ × List ℕ) Fault). passed r >>= λ x. made (GetAttr xid) x.1) ((words_item 8 (omega arith)).again words rest w)

operation_again : (xid ident : ℕ) (o : Operation) (rest : List ℕ) → IsOperation o
    → field word_at (operation_at xid ident) (operation o ++ rest) ≡ Ok (told_operation xid ident o, unread o ++ rest)
unfolding operation operation_at
operation_again xid ident (recalls state truncate handle) rest fits =
    field_again word_item (operation_at xid ident) 4 _ rest (omega arith) ∙ recall_again xid ident state truncate handle rest fits.0 fits.1
operation_again xid ident (asks handle words) rest fits =
    field_again word_item (operation_at xid ident) 3 _ rest (omega arith) ∙ getattr_again xid handle words rest fits.0 (fits.1, fits.2)
operation_again xid ident (others number arguments) rest fits =
    field_again word_item (operation_at xid ident) number arguments rest fits.0 ∙ rw (ne_eqb number 3 fits.1, ne_eqb number 4 fits.2) refl

abbrev pub unread_body : Body → List ℕ
unread_body null = []
unread_body (compound tag minor ident o) = unread o

body_again : (xid procedure : ℕ) (b : Body) (rest : List ℕ) → IsBody b → procedure ≡ procedure_of b
    → body_at (xid, procedure) (body b ++ rest) ≡ Ok (told xid b, unread_body b ++ rest)
unfolding body body_at compound_at
body_again xid procedure null rest fits is = rw is refl
body_again xid procedure (compound tag minor ident o) rest fits is =
    rw is (
    field_again (bytes_item 1024 (omega arith)) _ tag _ rest fits.0
    ∙ field_again word_item _ minor _ rest fits.1
    ∙ field_again word_item _ ident _ rest fits.2
    ∙ field_again (only_item 1 (omega arith)) _ 1 _ rest refl
    ∙ ap (λ (b : List ℕ). field word_at (operation_at xid ident) (b ++ rest)) (append-nil (operation o))
    ∙ operation_again xid ident o rest fits.3
    )

-- What is spelled is read, whatever follows.
pub callback_read : (h : CallHeader) (b : Body) (rest : List ℕ) → IsOpening h → IsBody b → h.procedure ≡ procedure_of b
    → callback_at ((header h ++ body b) ++ rest) ≡ Ok (told h.xid b, unread_body b ++ rest)
unfolding callback_at
callback_read h b rest is fits procedure =
    ap (λ (x : List ℕ). callback_at x) (append_assoc (header h) (body b) rest)
    ∙ ap (λ (r : Result ((ℕ × ℕ) × List ℕ) Fault). r >>= λ x. body_at x.0 x.1) (opening_again h (body b ++ rest) is)
    ∙ body_again h.xid h.procedure b rest fits procedure

-- nothing is left over but what isn't looked at
closed_again : (xid : ℕ) (b : Body) → closed (told xid b) (unread_body b ++ []) ≡ Ok (told xid b)
closed_again xid null = refl
closed_again xid (compound tag minor ident (recalls state truncate handle)) = refl
closed_again xid (compound tag minor ident (asks handle words)) = refl
closed_again xid (compound tag minor ident (others number arguments)) = refl

pub procedure_small : (b : Body) → procedure_of b ≤ 1
procedure_small null = omega arith
procedure_small (compound tag minor ident o) = omega arith

pub opening_of : (c : Callback) (bytes : List ℕ) → (i : IsCallback c bytes) → IsOpening i.items
opening_of c bytes i = record {
  fits = i.fits;
  kind = i.kind;
  rpc_version = i.rpc_version;
  version = i.version;
  procedure = subst (λ (n : ℕ). n ≤ 1) (sym i.procedure) (procedure_small i.behind);
}

-- Bytes that are a callback are read as this.
pub callback_again : (c : Callback) (bytes : List ℕ) → IsCallback c bytes → callback_of bytes ≡ Ok c
unfolding callback_of
callback_again c bytes i =
    let whole_is : bytes ≡ (header i.items ++ body i.behind) ++ [] = i.spelled ∙ sym (append-nil (header i.items ++ body i.behind)) in
    let read : callback_at bytes ≡ Ok (told i.items.xid i.behind, unread_body i.behind ++ []) =
    ap (λ (b : List ℕ). callback_at b) whole_is ∙ callback_read i.items i.behind [] (opening_of c bytes i) i.is_body i.procedure in
    ap (λ (r : Result (Callback × List ℕ) Fault). placed (length bytes) (closing r)) read
    ∙ ap (placed (length bytes)) (closed_again i.items.xid i.behind)
    ∙ ap (λ (x : Callback). Ok x) i.is_told

-- ---- Bytes that are left over

over : (total : ℕ) (x : Callback) (more : List ℕ) → more ≢ [] → placed total (ended x more) ≡ Err (At (total - length more))
over total x [] some = absurd (some refl)
over total x (b ∷ more) some = refl

closed_over : (total xid : ℕ) (b : Body) (more : List ℕ) → is_known (told xid b) ≡ true → more ≢ []
    → placed total (closed (told xid b) (unread_body b ++ more)) ≡ Err (At (total - length more))
closed_over total xid null more known some = over total (Null xid) more some
closed_over total xid (compound tag minor ident (recalls state truncate handle)) more known some = over total (Recall xid ident state handle) more some
closed_over total xid (compound tag minor ident (asks handle words)) more known some = over total (GetAttr xid) more some
closed_over total xid (compound tag minor ident (others number arguments)) more known some = absurd cc

-- They are refused at the first of them.
pub longer_is_refused : (c : Callback) (bytes more : List ℕ) → IsCallback c bytes → is_known c ≡ true → more ≢ [] → callback_of (bytes ++ more) ≡ Err (At (length bytes))
unfolding callback_of
longer_is_refused c bytes more i known some =
    let read : callback_at (bytes ++ more) ≡ Ok (told i.items.xid i.behind, unread_body i.behind ++ more) =
    ap (λ (b : List ℕ). callback_at (b ++ more)) i.spelled ∙ callback_read i.items i.behind more (opening_of c bytes i) i.is_body i.procedure in
    let is : is_known (told i.items.xid i.behind) ≡ true = ap is_known i.is_told ∙ known in
    let place : length (bytes ++ more) - length more ≡ length bytes = omega (arith, length-append bytes more) in
    ap (λ (r : Result (Callback × List ℕ) Fault). placed (length (bytes ++ more)) (closing r)) read
    ∙ closed_over (length (bytes ++ more)) i.items.xid i.behind more is some
    ∙ ap (λ (n : ℕ). Err (At n)) place
