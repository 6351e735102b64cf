-- What feeding a whole stream gives.
use Rattle.std.proofs.Common.{◌≡◌, ℕ, ◌+◌, ◌<◌, ◌≤◌, List, [], ◌∷◌, ◌++◌, length, take, drop, get_or, add-one, Option, Some, None, Result, Ok, Err, sym, ap, ◌∙◌, subst, arith}
use Rattle.std.specs.Prelude.{sum_by}
use Rattle.std.specs.Option.{option_to_list}
use Rattle.std.specs.List.{flat_map}
use Rattle.std.proofs.Math.Seq.{take-suc}
use Rattle.std.proofs.lemmas.List.{append-nil, length-append, take-append-drop}
use Rattle.std.proofs.lemmas.Grind.{flat_map-append}
use Rattle.std.proofs.lemmas.List.Sums.{sum_by-append, sum_by-cons}
use Rattle.nm_rpc.specs.declared.phase.Phase.{Phase}
use Rattle.nm_rpc.specs.declared.phase.Phase.TheVariants.{Header, Body, TooLong}
use Rattle.nm_rpc.specs.declared.fault.RecordFault.{RecordFault}
use Rattle.nm_rpc.specs.declared.fault.RecordFault.TheVariants as told
use Rattle.nm_rpc.specs.Stream.{Fragment, spelled, joined, IsSpellingOf, AreSpellingsOf, Splits, IsTooLong}
use Rattle.nm_rpc.specs.Feeding.{RecordsNow, fresh, fed, Stands, IsAfter, refusal_of, Feeds, counted, Gives, IsRefusal}
use Rattle.nm_rpc.proofs.FeedLaws.{fed_append, stopped_fed}
use Rattle.nm_rpc.proofs.BackLaws.{limit_fed}
use Rattle.nm_rpc.proofs.StreamLaws.{fed_after, fresh_after, given_after}
use Rattle.nm_rpc.proofs.LimitLaws.{after_splits, after_refused, after_fits}

-- ---- Calls

-- A feed, over the stream so far.
pub feeds_after : (stream : List ℕ) (given : List (List ℕ)) (old new : RecordsNow) (piece : List ℕ) (result : Result Unit RecordFault) → Feeds old piece result new
    → IsAfter stream given old → IsAfter (stream ++ counted piece result) given new
feeds_after stream given old new piece (Ok _) did h = subst (λ (n : RecordsNow). IsAfter (stream ++ piece) given n) (sym did.0) (fed_after stream given old piece h)
feeds_after stream given old new piece (Err (told.TooLong got)) did h = subst (λ (n : RecordsNow). IsAfter (stream ++ piece) given n) (sym did.0) (fed_after stream given old piece h)
feeds_after stream given old new piece (Err told.Memory) did h =
    subst (λ (s : List ℕ). IsAfter s given new) (sym (append-nil stream)) (subst (λ (n : RecordsNow). IsAfter stream given n) (sym did) h)

-- A record that is given, over the stream so far.
pub gives_after : (stream : List ℕ) (given : List (List ℕ)) (old new : RecordsNow) (result : Option (List ℕ)) → Gives old result new
    → IsAfter stream given old → IsAfter stream (given ++ option_to_list result) new
gives_after stream given old new None did h =
    subst (λ (g : List (List ℕ)). IsAfter stream g new) (sym (append-nil given)) (subst (λ (n : RecordsNow). IsAfter stream given n) (sym did.0) h)
gives_after stream given old new (Some r) did h = given_after stream given old new r did.0 did.1 h

-- ---- A stream that is given up

phase_refused : (phase : Phase) (got : ℕ) → refusal_of phase ≡ Some got → phase ≡ TooLong got
phase_refused (Header number seen) got e = absurd cc
phase_refused (Body left last) got e = absurd cc
phase_refused (TooLong sum) got e = cc

pub refused_fed : (now : RecordsNow) (bytes : List ℕ) (got : ℕ) → refusal_of now.phase ≡ Some got → fed now bytes ≡ now
refused_fed now bytes got e = stopped_fed now bytes got (phase_refused now.phase got e)

-- ---- How much is held

-- A record isn't longer than its spelling.
joined_short : (fragments : List Fragment) → length (joined fragments) ≤ length (spelled fragments)
joined_short [] = omega arith
joined_short (f ∷ fragments) =
    omega (arith, joined_short fragments, length-append f.body (joined fragments), length-append (f.header ++ f.body) (spelled fragments), length-append f.header f.body)

spelling_short : (r bytes : List ℕ) → IsSpellingOf r bytes → length r ≤ length bytes
spelling_short r bytes h = omega (arith, joined_short (h.earlier ++ h.end ∷ []), ap length h.whole, ap length h.parts)

spellings_short : (records : List (List ℕ)) (bytes : List ℕ) → AreSpellingsOf records bytes → sum_by length records ≤ length bytes
spellings_short [] bytes h = omega arith
spellings_short (r ∷ records) bytes h =
    omega (arith, sum_by-cons length r records, spelling_short r h.0 h.2, spellings_short records h.1 h.3, ap length h.4, length-append h.0 h.1)

stands_short : (limit : ℕ) (before tail partial : List ℕ) (phase : Phase) → Stands limit before tail partial phase → length before ≤ limit
    → (length partial ≤ length before + length tail) × (length partial ≤ limit)
stands_short limit before tail partial (Header number seen) s room = (omega (arith, ap length s.3), omega (arith, ap length s.3))
stands_short limit before tail partial (Body left last) s room =
    (omega (arith, ap length s.7, length-append before s.1, ap length s.2, length-append s.0 s.1), omega (arith, ap length s.7, length-append before s.1, s.4, s.8))
stands_short limit before tail partial (TooLong got) s room = (omega (arith, ap length s.6), omega (arith, ap length s.6))

-- What is held is no more than what was fed, and of the next record no more than the limit.
pub after_little : (stream : List ℕ) (given : List (List ℕ)) (now : RecordsNow) → IsAfter stream given now
    → (sum_by length now.waiting + length now.partial ≤ length stream) × (length now.partial ≤ now.limit)
after_little stream given now h =
    let r = h.reaches in
    let s = stands_short now.limit h.before h.tail now.partial now.phase h.stands r.room in
    let records = spellings_short (given ++ now.waiting) r.front r.spellings in
    let joins = joined_short r.earlier in
    (omega (arith, s.0, records, joins, sum_by-append length given now.waiting, ap length r.parts, ap length r.whole, length-append r.front (spelled r.earlier ++ h.tail), length-append (spelled r.earlier) h.tail), s.1)

-- ---- A whole stream

whole_after : (limit : ℕ) (stream : List ℕ) → IsAfter stream [] (fed (fresh limit) stream)
whole_after limit stream = fed_after [] [] (fresh limit) stream (fresh_after limit)

pub whole_splits : (limit : ℕ) (stream : List ℕ) (now : RecordsNow) → now ≡ fed (fresh limit) stream → refusal_of now.phase ≡ None → (rest : List ℕ) × Splits stream now.waiting rest
whole_splits limit stream now e is = after_splits stream [] now (subst (λ (n : RecordsNow). IsAfter stream [] n) (sym e) (whole_after limit stream)) is

pub whole_fits : (limit : ℕ) (stream : List ℕ) (now : RecordsNow) → now ≡ fed (fresh limit) stream → refusal_of now.phase ≡ None
    → (records : List (List ℕ)) (got : ℕ) → IsTooLong limit stream records got → ⊥
whole_fits limit stream now e is records got long =
    let limits : limit ≡ now.limit = sym (ap (λ (n : RecordsNow). n.limit) e ∙ limit_fed (fresh limit) stream) in
    after_fits stream [] now records got (subst (λ (n : RecordsNow). IsAfter stream [] n) (sym e) (whole_after limit stream)) is
    (subst (λ (l : ℕ). IsTooLong l stream records got) limits long)

pub whole_refused : (limit : ℕ) (stream : List ℕ) (now : RecordsNow) (got : ℕ) → now ≡ fed (fresh limit) stream → refusal_of now.phase ≡ Some got
    → (records : List (List ℕ)) × IsTooLong limit stream records got
whole_refused limit stream now got e is =
    let limits : now.limit ≡ limit = ap (λ (n : RecordsNow). n.limit) e ∙ limit_fed (fresh limit) stream in
    let long = after_refused stream [] now got (subst (λ (n : RecordsNow). IsAfter stream [] n) (sym e) (whole_after limit stream)) is in
    (now.waiting, subst (λ (l : ℕ). IsTooLong l stream now.waiting got) limits long)

-- ---- A stream in pieces

-- One more piece.
pub piece_next : {X : Type 0} (bytes : X → List ℕ) (limit : ℕ) (held next : RecordsNow) (pieces : List X) (i : ℕ) (p : X) → i < length pieces → p ≡ get_or pieces i p
    → held ≡ fed (fresh limit) (flat_map bytes (take i pieces)) → next ≡ fed held (bytes p) → next ≡ fed (fresh limit) (flat_map bytes (take (i + 1) pieces))
piece_next {X} bytes limit held next pieces i p within is so_far step =
    let parts : take (i + 1) pieces ≡ take i pieces ++ p ∷ [] = rw add-one (take-suc pieces i p within ∙ ap (λ (x : X). take i pieces ++ x ∷ []) (sym is)) in
    let joins : flat_map bytes (take (i + 1) pieces) ≡ flat_map bytes (take i pieces) ++ bytes p =
    ap (flat_map bytes) parts ∙ flat_map-append bytes (take i pieces) (p ∷ []) ∙ ap (λ (b : List ℕ). flat_map bytes (take i pieces) ++ b) (append-nil (bytes p)) in
    step ∙ ap (λ (h : RecordsNow). fed h (bytes p)) so_far ∙ sym (fed_append (fresh limit) (flat_map bytes (take i pieces)) (bytes p)) ∙ ap (fed (fresh limit)) (sym joins)

-- What is given up by then is given up as a whole.
pub piece_refused : {X : Type 0} (bytes : X → List ℕ) (limit : ℕ) (next : RecordsNow) (pieces : List X) (i got : ℕ) → next ≡ fed (fresh limit) (flat_map bytes (take i pieces))
    → refusal_of next.phase ≡ Some got → (records : List (List ℕ)) × IsTooLong limit (flat_map bytes pieces) records got
piece_refused {X} bytes limit next pieces i got e is =
    let parts : flat_map bytes pieces ≡ flat_map bytes (take i pieces) ++ flat_map bytes (drop i pieces) =
    ap (flat_map bytes) (sym (take-append-drop i pieces)) ∙ flat_map-append bytes (take i pieces) (drop i pieces) in
    let all : fed (fresh limit) (flat_map bytes pieces) ≡ next =
    ap (fed (fresh limit)) parts ∙ fed_append (fresh limit) (flat_map bytes (take i pieces)) (flat_map bytes (drop i pieces))
    ∙ ap (λ (h : RecordsNow). fed h (flat_map bytes (drop i pieces))) (sym e) ∙ refused_fed next (flat_map bytes (drop i pieces)) got is in
    whole_refused limit (flat_map bytes pieces) next got (sym all) is

-- A feed that is refused, as what is answered of the whole.
pub feed_refused : {X : Type 0} (bytes : X → List ℕ) (limit : ℕ) (held next : RecordsNow) (pieces : List X) (i : ℕ) (p : X) (fault : RecordFault) → i < length pieces → p ≡ get_or pieces i p
    → held ≡ fed (fresh limit) (flat_map bytes (take i pieces)) → Feeds held (bytes p) (Err fault) next → IsRefusal limit (flat_map bytes pieces) fault
feed_refused bytes limit held next pieces i p (told.TooLong got) within is so_far did =
    piece_refused bytes limit next pieces (i + 1) got (piece_next bytes limit held next pieces i p within is so_far did.0) did.1
feed_refused bytes limit held next pieces i p told.Memory within is so_far did = tt
