-- What is held after a stream is what the stream's records and its rest say.
use Rattle.std.proofs.Common.{◌≡◌, ◌≢◌, ℕ, ◌+◌, ◌-◌, ◌*◌, ◌<◌, ◌≤◌, ◌==◌, nat_lt, Bool, true, false, cond, List, [], ◌∷◌, ◌++◌, length, refl, sym, ap, ◌∙◌, subst, arith, append_assoc}
use Rattle.std.specs.List.{AllByRecursion}
use Rattle.std.proofs.lemmas.List.{append-nil, length-append}
use Rattle.std.proofs.lemmas.Grind.{flat_map-append, fold-append}
use Rattle.std.proofs.lemmas.Bool.{eqb-true, eqb-false, ltb-true, ltb-false}
use Rattle.nm_rpc.specs.declared.phase.Phase.{Phase}
use Rattle.nm_rpc.specs.declared.phase.Phase.TheVariants.{Header, Body, TooLong}
use Rattle.nm_rpc.specs.Stream.{Fragment, IsFragment, number_of, announced, is_last, spelled, joined, IsSpellingOf, AreSpellingsOf, Reaches}
use Rattle.nm_rpc.specs.Feeding.{RecordsNow, fresh, ended, settled, opened, grown, taken_in, taken, fed, Stands, IsAfter}

all_snoc : {A : Type 0} (P : A → Type 0) (xs : List A) (x : A) → AllByRecursion P xs → P x → AllByRecursion P (xs ++ x ∷ [])
all_snoc P [] x all px = (px, tt)
all_snoc P (y ∷ xs) x all px = (all.0, all_snoc P xs x all.1 px)

-- One more record, behind the others.
spelled_snoc : (records : List (List ℕ)) (r front more : List ℕ) → AreSpellingsOf records front → IsSpellingOf r more → AreSpellingsOf (records ++ r ∷ []) (front ++ more)
spelled_snoc [] r front more all spelling = (more, [], spelling, refl, ap (λ (f : List ℕ). f ++ more) all ∙ sym (append-nil more))
spelled_snoc (s ∷ records) r front more all spelling =
    (all.0, all.1 ++ more, all.2, spelled_snoc records r all.1 more all.3 spelling, ap (λ (f : List ℕ). f ++ more) all.4 ∙ append_assoc all.0 all.1 more)

-- One more fragment, behind the others.
spelled_last : (earlier : List Fragment) (f : Fragment) → spelled (earlier ++ f ∷ []) ≡ spelled earlier ++ (f.header ++ f.body)
spelled_last earlier f = flat_map-append (λ (g : Fragment). g.header ++ g.body) earlier (f ∷ []) ∙ ap (λ (b : List ℕ). spelled earlier ++ b) (append-nil (f.header ++ f.body))

joined_last : (earlier : List Fragment) (f : Fragment) → joined (earlier ++ f ∷ []) ≡ joined earlier ++ f.body
joined_last earlier f = flat_map-append (λ (g : Fragment). g.body) earlier (f ∷ []) ∙ ap (λ (b : List ℕ). joined earlier ++ b) (append-nil f.body)

-- ---- One byte more

-- A fragment of which some bytes have come, behind what a stream reaches.
record Begun (limit : ℕ) (stream : List ℕ) (records : List (List ℕ)) (header body : List ℕ) (left : ℕ) (last : Bool) (partial : List ℕ) : Type 0 where
  before : List ℕ
  reaches : Reaches limit stream records before (header ++ body)
  four : length header ≡ 4
  count : length body + left ≡ announced (number_of header)
  flag : is_last (number_of header) ≡ last
  parts : partial ≡ before ++ body
  fits : length before + announced (number_of header) ≤ limit

-- It is whole, and another follows in its record.
ended_part : (stream : List ℕ) (given : List (List ℕ)) (now : RecordsNow) (header body : List ℕ)
    → Begun now.limit stream (given ++ now.waiting) header body 0 false now.partial → IsAfter stream given (ended now false)
ended_part stream given now header body h =
    let f : Fragment = record { header = header; body = body } in
    let r = h.reaches in
    let whole : length body ≡ announced (number_of header) = omega (arith, h.count) in
    let is_f : IsFragment false f = record { four = h.four; whole = sym whole; flagged = h.flag } in
    record {
      before = h.before ++ body;
      tail = [];
      reaches = record {
        front = r.front;
        earlier = r.earlier ++ f ∷ [];
        spellings = r.spellings;
        within = r.within;
        not_last = all_snoc (IsFragment false) r.earlier f r.not_last is_f;
        parts = ap (λ (b : List ℕ). b ++ body) r.parts ∙ sym (joined_last r.earlier f);
        room = omega (arith, length-append h.before body, whole, h.fits);
        whole = r.whole ∙ ap (λ (b : List ℕ). r.front ++ b) (sym (spelled_last r.earlier f) ∙ sym (append-nil (spelled (r.earlier ++ f ∷ []))));
      };
      stands = (refl, refl, omega arith, h.parts);
    }

-- It is whole, and its record is too.
ended_record : (stream : List ℕ) (given : List (List ℕ)) (now : RecordsNow) (header body : List ℕ)
    → Begun now.limit stream (given ++ now.waiting) header body 0 true now.partial → IsAfter stream given (ended now true)
ended_record stream given now header body h =
    let f : Fragment = record { header = header; body = body } in
    let r = h.reaches in
    let whole : length body ≡ announced (number_of header) = omega (arith, h.count) in
    let is_f : IsFragment true f = record { four = h.four; whole = sym whole; flagged = h.flag } in
    let spelling : IsSpellingOf now.partial (spelled r.earlier ++ (header ++ body)) = record {
      earlier = r.earlier;
      end = f;
      not_last = r.not_last;
      last = is_f;
      whole = sym (spelled_last r.earlier f);
      parts = h.parts ∙ ap (λ (b : List ℕ). b ++ body) r.parts ∙ sym (joined_last r.earlier f);
    } in
    let short : length now.partial ≤ now.limit = omega (arith, length-append h.before body, ap length h.parts, whole, h.fits) in
    let records : (given ++ now.waiting) ++ now.partial ∷ [] ≡ given ++ (now.waiting ++ now.partial ∷ []) = append_assoc given now.waiting (now.partial ∷ []) in
    record {
      before = [];
      tail = [];
      reaches = record {
        front = r.front ++ (spelled r.earlier ++ (header ++ body));
        earlier = [];
        spellings = subst (λ (rs : List (List ℕ)). AreSpellingsOf rs (r.front ++ (spelled r.earlier ++ (header ++ body)))) records
            (spelled_snoc (given ++ now.waiting) now.partial r.front (spelled r.earlier ++ (header ++ body)) r.spellings spelling);
        within = subst (λ (rs : List (List ℕ)). AllByRecursion (λ p. length p ≤ now.limit) rs) records
            (all_snoc (λ (p : List ℕ). length p ≤ now.limit) (given ++ now.waiting) now.partial r.within short);
        not_last = tt;
        parts = refl;
        room = omega arith;
        whole = r.whole ∙ sym (append-nil (r.front ++ (spelled r.earlier ++ (header ++ body))));
      };
      stands = (refl, refl, omega arith, refl);
    }

ended_after : (stream : List ℕ) (given : List (List ℕ)) (now : RecordsNow) (header body : List ℕ) (last : Bool)
    → Begun now.limit stream (given ++ now.waiting) header body 0 last now.partial → IsAfter stream given (ended now last)
ended_after stream given now header body true h = ended_record stream given now header body h
ended_after stream given now header body false h = ended_part stream given now header body h

-- More of it is to come.
goes_on_after : (stream : List ℕ) (given : List (List ℕ)) (now : RecordsNow) (header body : List ℕ) (left : ℕ) (last : Bool) → 0 < left
    → Begun now.limit stream (given ++ now.waiting) header body left last now.partial → IsAfter stream given (record now { phase = Body left last })
goes_on_after stream given now header body left last some h = record {
  before = h.before;
  tail = header ++ body;
  reaches = h.reaches;
  stands = (header, body, refl, h.four, h.count, some, h.flag, h.parts, h.fits);
}

settled_if : (stream : List ℕ) (given : List (List ℕ)) (now : RecordsNow) (header body : List ℕ) (left : ℕ) (last : Bool) (b : Bool) → (left == 0) ≡ b
    → Begun now.limit stream (given ++ now.waiting) header body left last now.partial → IsAfter stream given (cond b (ended now last) (record now { phase = Body left last }))
settled_if stream given now header body left last true e h =
    let none : left ≡ 0 = eqb-true left 0 e in
    ended_after stream given now header body last (subst (λ (n : ℕ). Begun now.limit stream (given ++ now.waiting) header body n last now.partial) none h)
settled_if stream given now header body left last false e h =
    let some : left ≢ 0 = eqb-false left 0 e in
    goes_on_after stream given now header body left last (omega arith) h

settled_after : (stream : List ℕ) (given : List (List ℕ)) (now : RecordsNow) (header body : List ℕ) (left : ℕ) (last : Bool)
    → Begun now.limit stream (given ++ now.waiting) header body left last now.partial → IsAfter stream given (settled now left last)
unfolding settled
settled_after stream given now header body left last h = settled_if stream given now header body left last (left == 0) refl h

-- A header has come.
record Announced (limit : ℕ) (stream : List ℕ) (records : List (List ℕ)) (header : List ℕ) (partial : List ℕ) : Type 0 where
  before : List ℕ
  reaches : Reaches limit stream records before header
  four : length header ≡ 4
  parts : partial ≡ before

with_tail : (limit : ℕ) (stream : List ℕ) (records : List (List ℕ)) (before tail other : List ℕ) → tail ≡ other → Reaches limit stream records before tail → Reaches limit stream records before other
with_tail limit stream records before tail other e r = subst (λ (t : List ℕ). Reaches limit stream records before t) e r

opened_if : (stream : List ℕ) (given : List (List ℕ)) (now : RecordsNow) (header : List ℕ) (b : Bool)
    → nat_lt now.limit (length now.partial + announced (number_of header)) ≡ b
    → Announced now.limit stream (given ++ now.waiting) header now.partial
    → IsAfter stream given (cond b (record now { phase = TooLong (length now.partial + announced (number_of header)) }) (settled now (announced (number_of header)) (is_last (number_of header))))
opened_if stream given now header true e h = record {
  before = h.before;
  tail = header;
  reaches = h.reaches;
  stands = (header, [], sym (append-nil header), h.four, ap (λ (p : List ℕ). length p + announced (number_of header)) h.parts, ltb-true _ _ e, h.parts);
}
opened_if stream given now header false e h =
    let fits : length now.partial + announced (number_of header) ≤ now.limit = ltb-false _ _ e in
    settled_after stream given now header [] (announced (number_of header)) (is_last (number_of header)) (record {
      before = h.before;
      reaches = with_tail now.limit stream (given ++ now.waiting) h.before header (header ++ []) (sym (append-nil header)) h.reaches;
      four = h.four;
      count = omega arith;
      flag = refl;
      parts = h.parts ∙ sym (append-nil h.before);
      fits = omega (arith, ap length h.parts, fits);
    })

opened_after : (stream : List ℕ) (given : List (List ℕ)) (now : RecordsNow) (header : List ℕ) (number : ℕ) → number_of header ≡ number
    → Announced now.limit stream (given ++ now.waiting) header now.partial → IsAfter stream given (opened now number)
unfolding opened
opened_after stream given now header number e h =
    let held = opened_if stream given now header (nat_lt now.limit (length now.partial + announced (number_of header))) refl h in
    subst (λ (n : ℕ). IsAfter stream given (opened now n)) e held

-- One byte more behind the tail.
one_more : (limit : ℕ) (stream : List ℕ) (records : List (List ℕ)) (before tail : List ℕ) (b : ℕ) → Reaches limit stream records before tail
    → Reaches limit (stream ++ b ∷ []) records before (tail ++ b ∷ [])
one_more limit stream records before tail b r = record {
  front = r.front;
  earlier = r.earlier;
  spellings = r.spellings;
  within = r.within;
  not_last = r.not_last;
  parts = r.parts;
  room = r.room;
  whole = ap (λ (s : List ℕ). s ++ b ∷ []) r.whole ∙ append_assoc r.front (spelled r.earlier ++ tail) (b ∷ [])
      ∙ ap (λ (s : List ℕ). r.front ++ s) (append_assoc (spelled r.earlier) tail (b ∷ []));
}

number_of-snoc : (tail : List ℕ) (b : ℕ) → number_of (tail ++ b ∷ []) ≡ 256 * number_of tail + b
number_of-snoc tail b = fold-append (λ (n : ℕ) (c : ℕ). 256 * n + c) 0 tail (b ∷ [])

header_if : (stream : List ℕ) (given : List (List ℕ)) (now : RecordsNow) (b number seen : ℕ) (last : Bool) → (seen == 3) ≡ last → (before tail : List ℕ)
    → Reaches now.limit stream (given ++ now.waiting) before tail → Stands now.limit before tail now.partial (Header number seen)
    → IsAfter (stream ++ b ∷ []) given (cond last (opened now (256 * number + b)) (record now { phase = Header (256 * number + b) (seen + 1) }))
header_if stream given now b number seen true e before tail r s =
    let all : seen ≡ 3 = eqb-true seen 3 e in
    opened_after (stream ++ b ∷ []) given now (tail ++ b ∷ []) (256 * number + b) (number_of-snoc tail b ∙ ap (λ (n : ℕ). 256 * n + b) s.1) (record {
      before = before;
      reaches = one_more now.limit stream (given ++ now.waiting) before tail b r;
      four = omega (arith, length-append tail (b ∷ []), s.0);
      parts = s.3;
    })
header_if stream given now b number seen false e before tail r s =
    let some : seen ≢ 3 = eqb-false seen 3 e in
    record {
      before = before;
      tail = tail ++ b ∷ [];
      reaches = one_more now.limit stream (given ++ now.waiting) before tail b r;
      stands = (omega (arith, length-append tail (b ∷ []), s.0), number_of-snoc tail b ∙ ap (λ (n : ℕ). 256 * n + b) s.1, omega (arith, s.2), s.3);
    }

byte_after : (stream : List ℕ) (given : List (List ℕ)) (now : RecordsNow) (b : ℕ) (phase : Phase) (before tail : List ℕ)
    → Reaches now.limit stream (given ++ now.waiting) before tail → Stands now.limit before tail now.partial phase → now.phase ≡ phase
    → IsAfter (stream ++ b ∷ []) given (taken_in now b phase)
byte_after stream given now b (Header number seen) before tail r s is = header_if stream given now b number seen (seen == 3) refl before tail r s
byte_after stream given now b (Body left last) before tail r s is =
    let header : List ℕ = s.0 in
    let body : List ℕ = s.1 in
    let some : 0 < left = s.5 in
    let behind : tail ++ b ∷ [] ≡ header ++ (body ++ b ∷ []) = ap (λ (t : List ℕ). t ++ b ∷ []) s.2 ∙ append_assoc header body (b ∷ []) in
    settled_after (stream ++ b ∷ []) given (grown now (b ∷ [])) header (body ++ b ∷ []) (left - 1) last (record {
      before = before;
      reaches = with_tail now.limit (stream ++ b ∷ []) (given ++ now.waiting) before (tail ++ b ∷ []) (header ++ (body ++ b ∷ [])) behind
          (one_more now.limit stream (given ++ now.waiting) before tail b r);
      four = s.3;
      count = omega (arith, length-append body (b ∷ []), s.4);
      flag = s.6;
      parts = ap (λ (p : List ℕ). p ++ b ∷ []) s.7 ∙ append_assoc before body (b ∷ []);
      fits = s.8;
    })
byte_after stream given now b (TooLong got) before tail r s is = record {
  before = before;
  tail = tail ++ b ∷ [];
  reaches = one_more now.limit stream (given ++ now.waiting) before tail b r;
  stands = subst (λ (p : Phase). Stands now.limit before (tail ++ b ∷ []) now.partial p) (sym is)
      (s.0, s.1 ++ b ∷ [], ap (λ (t : List ℕ). t ++ b ∷ []) s.2 ∙ append_assoc s.0 s.1 (b ∷ []), s.3, s.4, s.5, s.6);
}

taken_after : (stream : List ℕ) (given : List (List ℕ)) (now : RecordsNow) (b : ℕ) → IsAfter stream given now → IsAfter (stream ++ b ∷ []) given (taken now b)
unfolding taken
taken_after stream given now b h = byte_after stream given now b now.phase h.before h.tail h.reaches h.stands refl

-- What is held after a stream becomes, by what is fed, what is held after the longer stream.
pub fed_after : (stream : List ℕ) (given : List (List ℕ)) (now : RecordsNow) (bytes : List ℕ) → IsAfter stream given now → IsAfter (stream ++ bytes) given (fed now bytes)
unfolding fed
fed_after stream given now [] h = subst (λ (s : List ℕ). IsAfter s given now) (sym (append-nil stream)) h
fed_after stream given now (b ∷ bytes) h =
    subst (λ (s : List ℕ). IsAfter s given (fed (taken now b) bytes)) (append_assoc stream (b ∷ []) bytes)
    (fed_after (stream ++ b ∷ []) given (taken now b) bytes (taken_after stream given now b h))

-- Before the first byte.
pub fresh_after : (limit : ℕ) → IsAfter [] [] (fresh limit)
fresh_after limit = record {
  before = [];
  tail = [];
  reaches = record { front = []; earlier = []; spellings = refl; within = tt; not_last = tt; parts = refl; room = omega arith; whole = refl };
  stands = (refl, refl, omega arith, refl);
}

-- A record that waited is given.
pub given_after : (stream : List ℕ) (given : List (List ℕ)) (old new : RecordsNow) (r : List ℕ) → new ≡ record old { waiting = new.waiting } → old.waiting ≡ r ∷ new.waiting
    → IsAfter stream given old → IsAfter stream (given ++ r ∷ []) new
given_after stream given old new r same first h =
    let records : given ++ old.waiting ≡ (given ++ r ∷ []) ++ new.waiting = ap (λ (w : List (List ℕ)). given ++ w) first ∙ sym (append_assoc given (r ∷ []) new.waiting) in
    let limits : old.limit ≡ new.limit = sym (ap (λ (n : RecordsNow). n.limit) same) in
    let partials : old.partial ≡ new.partial = sym (ap (λ (n : RecordsNow). n.partial) same) in
    let phases : old.phase ≡ new.phase = sym (ap (λ (n : RecordsNow). n.phase) same) in
    record {
      before = h.before;
      tail = h.tail;
      reaches = rw (← records, ← limits) h.reaches;
      stands = rw (← limits, ← partials, ← phases) h.stands;
    }
