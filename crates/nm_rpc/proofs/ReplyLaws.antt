-- A reply is read exactly where bytes are one.
use Rattle.std.proofs.Common.{◌≡◌, ◌≢◌, ℕ, ◌+◌, ◌-◌, ◌^◌, ◌≤◌, ◌<◌, Bool, true, false, cond, eqb, List, [], ◌∷◌, ◌++◌, length, Some, Result, Ok, Err, refl, sym, ap, subst, ◌∙◌, append_assoc, arith}
use Rattle.std.proofs.lemmas.Bool.{eqb-true, eqb-false, ne_eqb}
use Rattle.std.proofs.lemmas.List.{append-nil, length-append}
use Rattle.nm_xdr.specs.Fields.{Fault, Reading, ◌>>=◌, field, made, ended, IsBytes, IsItem}
use Rattle.nm_xdr.specs.Items.{word, padding_of, fixed, opaque, word_at}
use Rattle.nm_xdr.proofs.FieldLaws.{IsBytes-behind}
use Rattle.nm_xdr.proofs.ByteLaws.{only_item, choice_item}
use Rattle.nm_xdr.proofs.ItemLaws.{word_item, opaque_item}
use Rattle.nm_rpc.specs.declared.calls.CallFault.{CallFault}
use Rattle.nm_rpc.specs.declared.calls.CallFault.TheVariants.{NotCall, RpcVersion, Auth, Program, Version, Proc, Garbage, Memory}
use Rattle.nm_rpc.specs.declared.replies.ReplyHead.{ReplyHead}
use Rattle.nm_rpc.specs.declared.replies.ReplyOutcome.{ReplyOutcome}
use Rattle.nm_rpc.specs.declared.replies.ReplyOutcome.TheVariants.{Success, Accepted, Denied}
use Rattle.nm_rpc.specs.Replies.{Reply, done, undone, other_versions, other_rpc, unknown_caller, accepted, denied, versions, reply, versions_at, success_at, accepted_as, accepted_at, denied_as, denied_at, reply_at, closed, reply_of, IsSaid, outcome_of, IsReply, refusal, HasWords, told, read_of, read_head}

-- ---- Items

-- A field that is spelled is read, and what comes after it goes on.
field_again : {A Y : Type 0} {read : Reading A} {spell : A → List ℕ} {Fits : A → Type 0} → IsItem read spell Fits
    → (more : A → Reading Y) (a : A) (tail rest : List ℕ) → Fits a → field read more ((spell a ++ tail) ++ rest) ≡ more a (tail ++ rest)
field_again {A} {Y} {read} {spell} item more a tail rest fits =
    ap (λ (b : List ℕ). field read more b) (append_assoc (spell a) tail rest) ∙ ap (λ (r : Result (A × List ℕ) Fault). r >>= λ x. more x.0 x.1) (item.again a (tail ++ rest) fits)

one_small : 1 ≤ 1
one_small = omega arith

two_small : 2 < 2 ^ 32
two_small = omega arith

-- ---- What is spelled is read

accepted_again : (total xid stat : ℕ) (rest : List ℕ) → xid < 2 ^ 32 → stat < 2 ^ 32 → reply_at total (accepted xid stat ++ rest) ≡ accepted_as total xid stat rest
unfolding reply_at accepted_at accepted
accepted_again total xid stat rest x s =
    field_again word_item _ xid _ rest x
    ∙ field_again (only_item 1 (omega arith)) _ 1 _ rest refl
    ∙ field_again choice_item _ 0 _ rest (omega arith)
    ∙ field_again (only_item 0 (omega arith)) _ 0 _ rest refl
    ∙ field_again (opaque_item 0 (omega arith)) _ [] _ rest (omega arith)
    ∙ field_again word_item (accepted_as total xid) stat [] rest s

denied_again : (total xid stat : ℕ) (rest : List ℕ) → xid < 2 ^ 32 → stat ≤ 1 → reply_at total (denied xid stat ++ rest) ≡ denied_as xid stat rest
unfolding reply_at denied_at denied
denied_again total xid stat rest x s =
    field_again word_item _ xid _ rest x
    ∙ field_again (only_item 1 (omega arith)) _ 1 _ rest refl
    ∙ field_again choice_item _ 1 _ rest (omega arith)
    ∙ field_again choice_item (denied_as xid) stat [] rest s

versions_again : (head : ReplyHead) (low high : ℕ) (rest : List ℕ) → low < 2 ^ 32 → high < 2 ^ 32 → versions_at head (versions low high ++ rest) ≡ Ok (head, rest)
versions_again head low high rest l h = field_again word_item _ low _ rest l ∙ field_again word_item _ high [] rest h

accepted_length : (xid stat : ℕ) → length (accepted xid stat) ≡ 24
unfolding accepted word opaque fixed padding_of
accepted_length xid stat = refl

abbrev closing : Result (ReplyHead × List ℕ) Fault → Result ReplyHead Fault
closing r = r >>= λ x. closed x.0 x.0.outcome x.1

-- what a whole reply tells, by what its beginning is
whole_again : (bytes start rest : List ℕ) (told : ReplyHead × List ℕ) (head : ReplyHead) → bytes ≡ start ++ rest → reply_at (length bytes) (start ++ rest) ≡ Ok told
    → closed told.0 told.0.outcome told.1 ≡ Ok head → reply_of bytes ≡ Ok head
unfolding reply_of
whole_again bytes start rest told head spelt read ends = ap closing (ap (reply_at (length bytes)) spelt ∙ read) ∙ ends

pub said_again : (xid : ℕ) (said : Reply) → xid < 2 ^ 32 → IsSaid said → reply_of (reply xid said) ≡ Ok (record { xid = xid; outcome = outcome_of said })
unfolding reply accepted_as denied_as
said_again xid (done body) x f =
    let len : length (accepted xid 0 ++ body) - length body ≡ 24 = omega (arith, length-append (accepted xid 0) body, accepted_length xid 0) in
    whole_again (accepted xid 0 ++ body) (accepted xid 0) body (record { xid = xid; outcome = Success (length (accepted xid 0 ++ body) - length body) }, body) _ refl
    (accepted_again (length (accepted xid 0 ++ body)) xid 0 body x (omega arith)) (ap (λ (n : ℕ). Ok (record { xid = xid; outcome = Success n })) len)
said_again xid (undone stat) x f =
    let read : accepted_as (length (accepted xid stat)) xid stat [] ≡ Ok (record { xid = xid; outcome = Accepted stat }, []) =
    rw (ne_eqb stat 0 f.1, ne_eqb stat 2 f.2) refl in
    whole_again (accepted xid stat) (accepted xid stat) [] (record { xid = xid; outcome = Accepted stat }, []) _ (sym (append-nil (accepted xid stat)))
    (accepted_again (length (accepted xid stat)) xid stat [] x f.0 ∙ read) refl
said_again xid (other_versions low high) x f =
    let all : List ℕ = accepted xid 2 ++ versions low high in
    let read : versions_at (record { xid = xid; outcome = Accepted 2 }) (versions low high) ≡ Ok (record { xid = xid; outcome = Accepted 2 }, []) =
    ap (versions_at (record { xid = xid; outcome = Accepted 2 })) (sym (append-nil (versions low high))) ∙ versions_again (record { xid = xid; outcome = Accepted 2 }) low high [] f.0 f.1 in
    whole_again all (accepted xid 2) (versions low high) (record { xid = xid; outcome = Accepted 2 }, []) _ refl (accepted_again (length all) xid 2 (versions low high) x two_small ∙ read) refl
said_again xid (other_rpc low high) x f =
    let all : List ℕ = denied xid 0 ++ versions low high in
    let read : versions_at (record { xid = xid; outcome = Denied 0 }) (versions low high) ≡ Ok (record { xid = xid; outcome = Denied 0 }, []) =
    ap (versions_at (record { xid = xid; outcome = Denied 0 })) (sym (append-nil (versions low high))) ∙ versions_again (record { xid = xid; outcome = Denied 0 }) low high [] f.0 f.1 in
    whole_again all (denied xid 0) (versions low high) (record { xid = xid; outcome = Denied 0 }, []) _ refl (denied_again (length all) xid 0 (versions low high) x (omega arith) ∙ read) refl
said_again xid (unknown_caller why) x f =
    let all : List ℕ = denied xid 1 ++ word why in
    let read : field word_at (λ (w : ℕ). made (record { xid = xid; outcome = Denied 1 })) (word why) ≡ Ok (record { xid = xid; outcome = Denied 1 }, []) =
    ap (field word_at (λ (w : ℕ). made (record { xid = xid; outcome = Denied 1 }))) (sym (append-nil (word why)))
    ∙ ap (λ (r : Result (ℕ × List ℕ) Fault). r >>= λ w. made (record { xid = xid; outcome = Denied 1 }) w.1) (word_item.again why [] f) in
    whole_again all (denied xid 1) (word why) (record { xid = xid; outcome = Denied 1 }, []) _ refl (denied_again (length all) xid 1 (word why) x one_small ∙ read) refl

-- What is a reply is read.
pub reply_again : (head : ReplyHead) (bytes : List ℕ) → IsReply head bytes → reply_of bytes ≡ Ok head
reply_again head bytes i =
    ap reply_of i.spelled ∙ said_again head.xid i.said i.xid i.fits ∙ ap (λ (o : ReplyOutcome). Ok (record { xid = head.xid; outcome = o })) i.outcome

-- ---- What is read is spelled

-- A field of a whole reply that was read: its value, and the bytes after it.
record Found {A : Type 0} (spell : A → List ℕ) (Fits : A → Type 0) (more : A → Reading ReplyHead) (bytes : List ℕ) (head : ReplyHead) : Type 0 where
  value : A
  after : List ℕ
  spelled : bytes ≡ spell value ++ after
  fits : Fits value
  are_bytes : IsBytes after
  went : closing (more value after) ≡ Ok head

closing_bound : {A : Type 0} (r : Result (A × List ℕ) Fault) (more : A → Reading ReplyHead) (head : ReplyHead) → closing (r >>= λ a. more a.0 a.1) ≡ Ok head
    → (a : A × List ℕ) × (r ≡ Ok a) × (closing (more a.0 a.1) ≡ Ok head)
closing_bound (Ok a) more head e = (a, refl, e)
closing_bound (Err f) more head e = absurd cc

field_found : {A : Type 0} {read : Reading A} {spell : A → List ℕ} {Fits : A → Type 0} → IsItem read spell Fits
    → (more : A → Reading ReplyHead) (bytes : List ℕ) (head : ReplyHead) → IsBytes bytes → closing (field read more bytes) ≡ Ok head → Found spell Fits more bytes head
field_found {A} {read} {spell} item more bytes head fits e =
    let b = closing_bound (read bytes) more head e in
    let p = item.found bytes b.0.0 b.0.1 fits b.1 in
    record { value = b.0.0; after = b.0.1; spelled = p.0; fits = p.1; are_bytes = IsBytes-behind (spell b.0.0) b.0.1 (subst IsBytes p.0 fits); went = b.2 }

ended_found : (x y : ReplyHead) (rest : List ℕ) → ended x rest ≡ Ok y → (x ≡ y) × (rest ≡ [])
ended_found x y [] e = (cc, refl)
ended_found x y (b ∷ rest) e = absurd cc

-- Behind the start of a reply stands what makes it one.
record IsTail (xid : ℕ) (start tail : List ℕ) (head : ReplyHead) : Type 0 where
  said : Reply
  fits : IsSaid said
  spelled : start ++ tail ≡ reply xid said
  same : record { xid = xid; outcome = outcome_of said } ≡ head

-- two versions, and nothing behind them
record AreVersions (bytes : List ℕ) : Type 0 where
  low : ℕ
  high : ℕ
  fits_low : low < 2 ^ 32
  fits_high : high < 2 ^ 32
  spelled : bytes ≡ versions low high

versions_found : (first head : ReplyHead) (bytes : List ℕ) → IsBytes bytes → ((rest : List ℕ) → closing (Ok (first, rest)) ≡ ended first rest)
    → closing (versions_at first bytes) ≡ Ok head → AreVersions bytes × (first ≡ head)
versions_found first head bytes are closes e =
    let l = field_found word_item _ bytes head are e in
    let h = field_found word_item _ l.after head l.are_bytes l.went in
    let end = ended_found first head h.after (sym (closes h.after) ∙ h.went) in (
      record {
        low = l.value;
        high = h.value;
        fits_low = l.fits;
        fits_high = h.fits;
        spelled = l.spelled ∙ ap (λ (b : List ℕ). word l.value ++ b) (h.spelled ∙ ap (λ (b : List ℕ). word h.value ++ b) end.1);
      },
      end.0,
    )

accepted_tail : (total xid stat : ℕ) (after : List ℕ) (head : ReplyHead) → IsBytes after → stat < 2 ^ 32 → total ≡ 24 + length after
    → closing (accepted_as total xid stat after) ≡ Ok head → IsTail xid (accepted xid stat) after head
unfolding accepted_as reply
accepted_tail total xid stat after head are small len e = by_tests (eqb stat 0) (eqb stat 2) refl refl e
  where
    by_tests : (a b : Bool) → eqb stat 0 ≡ a → eqb stat 2 ≡ b
        → closing (cond a (success_at total xid) (cond b (versions_at (record { xid = xid; outcome = Accepted stat })) (made (record { xid = xid; outcome = Accepted stat }))) after) ≡ Ok head
        → IsTail xid (accepted xid stat) after head
    by_tests true b x y h =
        let is_zero : stat ≡ 0 = eqb-true stat 0 x in
        let place : total - length after ≡ 24 = omega arith in
        let is : record { xid = xid; outcome = Success (total - length after) } ≡ head = cc in
        record {
          said = done after;
          fits = tt;
          spelled = ap (λ (n : ℕ). accepted xid n ++ after) is_zero;
          same = ap (λ (n : ℕ). record { xid = xid; outcome = Success n }) (sym place) ∙ is;
        }
    by_tests false true x y h =
        let is_two : stat ≡ 2 = eqb-true stat 2 y in
        let v = versions_found (record { xid = xid; outcome = Accepted stat }) head after are (λ rest. refl) h in
        record {
          said = other_versions v.0.low v.0.high;
          fits = (v.0.fits_low, v.0.fits_high);
          spelled = ap (λ (n : ℕ). accepted xid n ++ after) is_two ∙ ap (λ (b : List ℕ). accepted xid 2 ++ b) v.0.spelled;
          same = ap (λ (n : ℕ). record { xid = xid; outcome = Accepted n }) (sym is_two) ∙ v.1;
        }
    by_tests false false x y h =
        let end = ended_found (record { xid = xid; outcome = Accepted stat }) head after h in
        record {
          said = undone stat;
          fits = (small, eqb-false stat 0 x, eqb-false stat 2 y);
          spelled = ap (λ (b : List ℕ). accepted xid stat ++ b) end.1 ∙ append-nil (accepted xid stat);
          same = end.0;
        }

one_left : (n : ℕ) → n ≤ 1 → n ≢ 0 → n ≡ 1
one_left n le ne = omega (arith, le, ne)

denied_tail : (xid stat : ℕ) (after : List ℕ) (head : ReplyHead) → IsBytes after → stat ≤ 1 → closing (denied_as xid stat after) ≡ Ok head
    → IsTail xid (denied xid stat) after head
unfolding denied_as reply
denied_tail xid stat after head are small e = by_test (eqb stat 0) refl e
  where
    by_test : (a : Bool) → eqb stat 0 ≡ a
        → closing (cond a (versions_at (record { xid = xid; outcome = Denied stat })) (field word_at (λ why. made (record { xid = xid; outcome = Denied stat }))) after) ≡ Ok head
        → IsTail xid (denied xid stat) after head
    by_test true x h =
        let is_zero : stat ≡ 0 = eqb-true stat 0 x in
        let v = versions_found (record { xid = xid; outcome = Denied stat }) head after are (λ rest. refl) h in
        record {
          said = other_rpc v.0.low v.0.high;
          fits = (v.0.fits_low, v.0.fits_high);
          spelled = ap (λ (n : ℕ). denied xid n ++ after) is_zero ∙ ap (λ (b : List ℕ). denied xid 0 ++ b) v.0.spelled;
          same = ap (λ (n : ℕ). record { xid = xid; outcome = Denied n }) (sym is_zero) ∙ v.1;
        }
    by_test false x h =
        let other : stat ≢ 0 = eqb-false stat 0 x in
        let is_one : stat ≡ 1 = one_left stat small other in
        let w = field_found word_item (λ why. made (record { xid = xid; outcome = Denied stat })) after head are h in
        let end = ended_found (record { xid = xid; outcome = Denied stat }) head w.after w.went in
        record {
          said = unknown_caller w.value;
          fits = w.fits;
          spelled = ap (λ (n : ℕ). denied xid n ++ after) is_one
              ∙ ap (λ (b : List ℕ). denied xid 1 ++ b) (w.spelled ∙ ap (λ (b : List ℕ). word w.value ++ b) end.1 ∙ append-nil (word w.value));
          same = ap (λ (n : ℕ). record { xid = xid; outcome = Denied n }) (sym is_one) ∙ end.0;
        }

-- what is behind the choice of an accepted reply
record Verified (total xid : ℕ) (bytes : List ℕ) (head : ReplyHead) : Type 0 where
  stat : ℕ
  after : List ℕ
  fits : stat < 2 ^ 32
  are_bytes : IsBytes after
  spelled : bytes ≡ word 0 ++ (opaque [] ++ (word stat ++ after))
  went : closing (accepted_as total xid stat after) ≡ Ok head

empty : (xs : List ℕ) → length xs ≤ 0 → xs ≡ []
empty [] e = refl
empty (x ∷ xs) e = absurd (omega (arith, e))

-- a verifier without bytes, and what is behind it
verifier_first : (bytes a b c : List ℕ) (flavor : ℕ) (verifier : List ℕ) → bytes ≡ word flavor ++ a → flavor ≡ 0 → a ≡ opaque verifier ++ b → length verifier ≤ 0 → b ≡ c
    → bytes ≡ word 0 ++ (opaque [] ++ c)
verifier_first bytes a b c flavor verifier first none second short third =
    first ∙ ap (λ (n : ℕ). word n ++ a) none ∙ ap (λ (r : List ℕ). word 0 ++ r) second ∙ ap (λ (v : List ℕ). word 0 ++ (opaque v ++ b)) (empty verifier short)
    ∙ ap (λ (r : List ℕ). word 0 ++ (opaque [] ++ r)) third

verified : (total xid : ℕ) (bytes : List ℕ) (head : ReplyHead) → IsBytes bytes → closing (accepted_at total xid bytes) ≡ Ok head → Verified total xid bytes head
unfolding accepted_at
verified total xid bytes head are e =
    let f = field_found (only_item 0 (omega arith)) _ bytes head are e in
    let v = field_found (opaque_item 0 (omega arith)) _ f.after head f.are_bytes f.went in
    let t = field_found word_item (accepted_as total xid) v.after head v.are_bytes v.went in
    record {
      stat = t.value;
      after = t.after;
      fits = t.fits;
      are_bytes = t.are_bytes;
      spelled = verifier_first bytes f.after v.after (word t.value ++ t.after) f.value v.value f.spelled f.fits v.spelled v.fits t.spelled;
      went = t.went;
    }

-- what is behind the choice of a denied reply
record Rejected (xid : ℕ) (bytes : List ℕ) (head : ReplyHead) : Type 0 where
  stat : ℕ
  after : List ℕ
  fits : stat ≤ 1
  are_bytes : IsBytes after
  spelled : bytes ≡ word stat ++ after
  went : closing (denied_as xid stat after) ≡ Ok head

rejected : (xid : ℕ) (bytes : List ℕ) (head : ReplyHead) → IsBytes bytes → closing (denied_at xid bytes) ≡ Ok head → Rejected xid bytes head
unfolding denied_at
rejected xid bytes head are e =
    let s = field_found choice_item (denied_as xid) bytes head are e in
    record { stat = s.value; after = s.after; fits = s.fits; are_bytes = s.are_bytes; spelled = s.spelled; went = s.went }

-- the start of any reply
record Started (total : ℕ) (bytes : List ℕ) (head : ReplyHead) : Type 0 where
  xid : ℕ
  stat : ℕ
  after : List ℕ
  fits : xid < 2 ^ 32
  choice : stat ≤ 1
  are_bytes : IsBytes after
  spelled : bytes ≡ word xid ++ (word 1 ++ (word stat ++ after))
  went : closing (cond (eqb stat 0) (accepted_at total xid) (denied_at xid) after) ≡ Ok head

-- the xid, the kind of message, and what is behind them
kind_first : (bytes a b c : List ℕ) (xid kind : ℕ) → bytes ≡ word xid ++ a → a ≡ word kind ++ b → kind ≡ 1 → b ≡ c → bytes ≡ word xid ++ (word 1 ++ c)
kind_first bytes a b c xid kind first second one third =
    first ∙ ap (λ (r : List ℕ). word xid ++ r) second ∙ ap (λ (n : ℕ). word xid ++ (word n ++ b)) one ∙ ap (λ (r : List ℕ). word xid ++ (word 1 ++ r)) third

started : (total : ℕ) (bytes : List ℕ) (head : ReplyHead) → IsBytes bytes → closing (reply_at total bytes) ≡ Ok head → Started total bytes head
unfolding reply_at
started total bytes head are e =
    let x = field_found word_item _ bytes head are e in
    let k = field_found (only_item 1 (omega arith)) _ x.after head x.are_bytes x.went in
    let s = field_found choice_item _ k.after head k.are_bytes k.went in
    record {
      xid = x.value;
      stat = s.value;
      after = s.after;
      fits = x.fits;
      choice = s.fits;
      are_bytes = s.are_bytes;
      spelled = kind_first bytes x.after k.after (word s.value ++ s.after) x.value k.value x.spelled k.spelled k.fits s.spelled;
      went = s.went;
    }

accepted_start : (xid stat : ℕ) (after : List ℕ) → word xid ++ (word 1 ++ (word 0 ++ (word 0 ++ (opaque [] ++ (word stat ++ after))))) ≡ accepted xid stat ++ after
unfolding accepted word opaque fixed padding_of
accepted_start xid stat after = refl

denied_start : (xid stat : ℕ) (after : List ℕ) → word xid ++ (word 1 ++ (word 1 ++ (word stat ++ after))) ≡ denied xid stat ++ after
unfolding denied word
denied_start xid stat after = refl

-- the tail of a reply makes the whole
tail_whole : (xid : ℕ) (start tail bytes : List ℕ) (head : ReplyHead) → xid < 2 ^ 32 → bytes ≡ start ++ tail → IsTail xid start tail head → IsReply head bytes
tail_whole xid start tail bytes head small e t =
    subst (λ (h : ReplyHead). IsReply h bytes) t.same (record { said = t.said; fits = t.fits; xid = small; spelled = e ∙ t.spelled; outcome = refl })

started_found : (bytes : List ℕ) (head : ReplyHead) → (s : Started (length bytes) bytes head) → IsReply head bytes
started_found bytes head s = by_choice (eqb s.stat 0) refl s.went
  where
    by_choice : (b : Bool) → eqb s.stat 0 ≡ b → closing (cond b (accepted_at (length bytes) s.xid) (denied_at s.xid) s.after) ≡ Ok head → IsReply head bytes
    by_choice true is h =
        let v = verified (length bytes) s.xid s.after head s.are_bytes h in
        let whole_is : bytes ≡ accepted s.xid v.stat ++ v.after =
        s.spelled ∙ ap (λ (n : ℕ). word s.xid ++ (word 1 ++ (word n ++ s.after))) (eqb-true s.stat 0 is)
        ∙ ap (λ (b : List ℕ). word s.xid ++ (word 1 ++ (word 0 ++ b))) v.spelled ∙ accepted_start s.xid v.stat v.after in
        let len : length bytes ≡ 24 + length v.after = omega (arith, ap length whole_is, length-append (accepted s.xid v.stat) v.after, accepted_length s.xid v.stat) in
        tail_whole s.xid (accepted s.xid v.stat) v.after bytes head s.fits whole_is (accepted_tail (length bytes) s.xid v.stat v.after head v.are_bytes v.fits len v.went)
    by_choice false is h =
        let r = rejected s.xid s.after head s.are_bytes h in
        let one : s.stat ≡ 1 = one_left s.stat s.choice (eqb-false s.stat 0 is) in
        let whole_is : bytes ≡ denied s.xid r.stat ++ r.after =
        s.spelled ∙ ap (λ (n : ℕ). word s.xid ++ (word 1 ++ (word n ++ s.after))) one
        ∙ ap (λ (b : List ℕ). word s.xid ++ (word 1 ++ (word 1 ++ b))) r.spelled ∙ denied_start s.xid r.stat r.after in
        tail_whole s.xid (denied s.xid r.stat) r.after bytes head s.fits whole_is (denied_tail s.xid r.stat r.after head r.are_bytes r.fits r.went)

-- What is read of bytes is what they are.
pub reply_found : (head : ReplyHead) (bytes : List ℕ) → IsBytes bytes → reply_of bytes ≡ Ok head → IsReply head bytes
unfolding reply_of
reply_found head bytes are e = started_found bytes head (started (length bytes) bytes head are e)

-- ---- Refusals

-- The reply to each fault tells it.
pub refusal_told : (fault : CallFault) → HasWords fault → read_of (refusal fault) ≡ read_head (told fault)
unfolding refusal
refusal_told NotCall h = refl
refusal_told (RpcVersion xid) h = ap Some (said_again xid (other_rpc 2 2) h (two_small, two_small))
refusal_told (Auth xid) h = ap Some (said_again xid (unknown_caller 1) h (omega arith))
refusal_told (Program xid) h = ap Some (said_again xid (undone 1) h (omega arith, (λ e. omega (arith, e)), (λ e. omega (arith, e))))
refusal_told (Version xid low high) h = ap Some (said_again xid (other_versions low high) h.0 (h.1, h.2))
refusal_told (Proc xid) h = ap Some (said_again xid (undone 3) h (omega arith, (λ e. omega (arith, e)), (λ e. omega (arith, e))))
refusal_told (Garbage xid at) h = ap Some (said_again xid (undone 4) h (omega arith, (λ e. omega (arith, e)), (λ e. omega (arith, e))))
refusal_told Memory h = refl
