-- Feeding: bytes that belong together are taken at once, and cutting changes nothing.
use Rattle.std.proofs.Common.{◌≡◌, ℕ, ◌+◌, ◌-◌, ◌<◌, ◌≤◌, Bool, true, false, List, [], ◌∷◌, ◌++◌, length, take, drop, slice_index, refl, sym, ap, ◌∙◌, arith, append_assoc}
use Rattle.std.proofs.Math.Seq.{take-add}
use Rattle.std.proofs.lemmas.List.{length-take}
use Rattle.std.proofs.lemmas.Bool.Decides.{nat_tests}
use Rattle.nm_rpc.specs.declared.phase.Phase.{Phase}
use Rattle.nm_rpc.specs.declared.phase.Phase.TheVariants.{Header, Body, TooLong}
use Rattle.nm_rpc.specs.Feeding.{RecordsNow, settled, grown, taken_in, taken, fed}

-- What is fed in two pieces is fed in one.
pub fed_append : (now : RecordsNow) (xs ys : List ℕ) → fed now (xs ++ ys) ≡ fed (fed now xs) ys
unfolding fed
fed_append now [] ys = refl
fed_append now (x ∷ xs) ys = fed_append (taken now x) xs ys

-- A byte of a header.
pub header_fed : (now : RecordsNow) (bytes : List ℕ) (number seen : ℕ) → now.phase ≡ Header number seen → 0 < length bytes
    → fed now (take 1 bytes) ≡ taken_in now (slice_index bytes 0) (Header number seen)
unfolding fed taken
header_fed now [] number seen e some = absurd (omega arith)
header_fed now (b ∷ bytes) number seen e some = ap (λ (p : Phase). taken_in now b p) e

-- Nothing is taken of a stream that is given up.
pub stopped_fed : (now : RecordsNow) (bytes : List ℕ) (got : ℕ) → now.phase ≡ TooLong got → fed now bytes ≡ now
unfolding fed taken
stopped_fed now [] got e = refl
stopped_fed now (b ∷ bytes) got e =
    let same : taken now b ≡ now = ap (λ (p : Phase). taken_in now b p) e in
    ap (λ (n : RecordsNow). fed n bytes) same ∙ stopped_fed now bytes got e

-- What the next byte belonged to doesn't matter where a fragment goes on.
settled_again : (now : RecordsNow) (p : Phase) (left : ℕ) (last : Bool) → settled (record now { phase = p }) left last ≡ settled now left last
unfolding settled
settled_again now p left true = grind (arith, nat_tests)
settled_again now p left false = grind (arith, nat_tests)

-- There are bytes to come.
goes_on : (now : RecordsNow) (left : ℕ) (last : Bool) → 0 < left → settled now left last ≡ record now { phase = Body left last }
unfolding settled
goes_on now left last some = grind (arith, nat_tests)

body_byte : (now : RecordsNow) (b left : ℕ) (last : Bool) → now.phase ≡ Body left last → taken now b ≡ settled (grown now (b ∷ [])) (left - 1) last
unfolding taken
body_byte now b left last e = ap (λ (p : Phase). taken_in now b p) e

-- Bytes of a fragment.
pub body_fed : (now : RecordsNow) (bytes : List ℕ) (left : ℕ) (last : Bool) → now.phase ≡ Body left last → 0 < length bytes → length bytes ≤ left
    → fed now bytes ≡ settled (grown now bytes) (left - length bytes) last
unfolding fed
body_fed now [] left last e some few = absurd (omega arith)
body_fed now (b ∷ []) left last e some few = body_byte now b left last e
body_fed now (b ∷ c ∷ bytes) left last e some few =
    let next : RecordsNow = record (grown now (b ∷ [])) { phase = Body (left - 1) last } in
    let on : 0 < left - 1 = omega arith in
    let step : taken now b ≡ next = body_byte now b left last e ∙ goes_on (grown now (b ∷ [])) (left - 1) last on in
    let room : length (c ∷ bytes) ≤ left - 1 = omega arith in
    let more : 0 < length (c ∷ bytes) = omega arith in
    let rest : fed next (c ∷ bytes) ≡ settled (grown next (c ∷ bytes)) (left - 1 - length (c ∷ bytes)) last = body_fed next (c ∷ bytes) (left - 1) last refl more room in
    let count : left - 1 - length (c ∷ bytes) ≡ left - length (b ∷ c ∷ bytes) = omega arith in
    let parts : (now.partial ++ b ∷ []) ++ c ∷ bytes ≡ now.partial ++ b ∷ c ∷ bytes = append_assoc now.partial (b ∷ []) (c ∷ bytes) in
    ap (λ (n : RecordsNow). fed n (c ∷ bytes)) step ∙ rest
    ∙ ap (λ (n : ℕ). settled (grown next (c ∷ bytes)) n last) count
    ∙ ap (λ (p : List ℕ). settled (record now { partial = p; phase = Body (left - 1) last }) (left - length (b ∷ c ∷ bytes)) last) parts
    ∙ settled_again (grown now (b ∷ c ∷ bytes)) (Body (left - 1) last) (left - length (b ∷ c ∷ bytes)) last

-- The next part of a piece is fed behind the parts before it.
pub fed_next : (now : RecordsNow) (piece : List ℕ) (at n : ℕ) → fed (fed now (take at piece)) (take n (drop at piece)) ≡ fed now (take (at + n) piece)
fed_next now piece at n = sym (ap (λ (xs : List ℕ). fed now xs) (take-add at n piece) ∙ fed_append now (take at piece) (take n (drop at piece)))

-- The next part of a piece, as a step of a loop.
pub next_fed : (start now new : RecordsNow) (piece : List ℕ) (at n : ℕ) → now ≡ fed start (take at piece) → new ≡ fed now (take n (drop at piece))
    → new ≡ fed start (take (at + n) piece)
next_fed start now new piece at n so_far step =
    step ∙ ap (λ (s : RecordsNow). fed s (take n (drop at piece))) so_far ∙ fed_next start piece at n

-- Bytes of a fragment at the front of a piece.
pub body_front_fed : (now : RecordsNow) (piece : List ℕ) (n left : ℕ) (last : Bool) → now.phase ≡ Body left last → 0 < n → n ≤ left → n ≤ length piece
    → fed now (take n piece) ≡ settled (grown now (take n piece)) (left - n) last
body_front_fed now piece n left last e some few within =
    let len : length (take n piece) ≡ n = omega (arith, length-take n piece) in
    body_fed now (take n piece) left last e (omega arith) (omega arith)
    ∙ ap (λ (k : ℕ). settled (grown now (take n piece)) (left - k) last) len
