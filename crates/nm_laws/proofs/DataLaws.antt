-- In every legal list who reads and who writes was let in by a stateid.
use Rattle.std.proofs.Common.{◌≡◌, ℕ, ◌+◌, ◌<◌, ◌≤◌, Bool, true, false, cond, List, [], ◌∷◌, Option, Some, None, refl, ap, sym, subst, ◌∙◌, arith, eqb-true}
use Rattle.std.specs.Prelude.{◌==◌, nat_lt, not, find, filter}
use Rattle.std.proofs.lemmas.Bool.Decides.{nat_tests}
use Rattle.nm_types.specs.Parties.{same_party}
use Rattle.nm_types.specs.Owners.{same_owner}
use Rattle.nm_rules.specs.LockRows.{LockWord, lock_at, put_lock, locks_after}
use Rattle.nm_rules.specs.LockRows.LockWord.{AsIs, Claimed, Cleared, ClosedWith, Released, EndedOf}
use Rattle.nm_rules.specs.Past.{Past, Now, Words, now, left, words}
use Rattle.nm_rules.specs.Seen.{Seen, seen, look}
use Rattle.nm_rules.specs.Shares.{OpenWord, open_left}
use Rattle.nm_rules.specs.Shares.OpenWord.{Keep, Put, Drop, DropOf}
use Rattle.nm_rules.specs.Answer.{answer_to, IsLegal}
use Rattle.nm_rules.specs.Sound.{IsSound}
use Rattle.nm_types.specs.declared.calls.Event.{Event}
use Rattle.nm_types.specs.declared.calls.Owner.{Owner}
use Rattle.nm_types.specs.declared.rows.LockRow.{LockRow}
use Rattle.nm_types.specs.declared.rows.OpenRow.{OpenRow}
use Rattle.nm_rules.proofs.Legal.{sound-seen, look-seen}
use Rattle.nm_rules.proofs.LegalLocks.{stand-seen}
use Rattle.nm_rules.proofs.LockRowLaws.{lock_at-counter}
use Rattle.nm_rules.proofs.OpenRows.{open_at-past}
use Rattle.nm_laws.specs.DataReadings.{StateIdSaid, entry_said, owner_after, opener_of}
use Rattle.nm_laws.specs.DataReadings.StateIdSaid.{NothingSaid, ForOpen, ForLocks}
use Rattle.nm_laws.proofs.DataOwners.{PutFits, OpensFit, IsByOpen, ClaimFits, LocksFit, IsOwners, SaidFits, AllFit, entry_fit}

-- ---- what holds of all lock stateids

abbrev pub AllOf : (LockRow → Type 0) → List LockRow → Type 0
AllOf P [] = Unit {0}
AllOf P (x ∷ xs) = P x × AllOf P xs

all-map : (P Q : LockRow → Type 0) (rows : List LockRow) → ((x : LockRow) → P x → Q x) → AllOf P rows → AllOf Q rows
all-map P Q [] turn all = tt
all-map P Q (x ∷ xs) turn all = (turn x all.0, all-map P Q xs turn all.1)

all-filter : (P : LockRow → Type 0) (p : LockRow → Bool) (rows : List LockRow) → AllOf P rows → AllOf P (filter p rows)
all-filter P p [] all = tt
all-filter P p (x ∷ xs) all = by_test (p x) all.0 (all-filter P p xs all.1)
  where
    by_test : (b : Bool) → P x → AllOf P (filter p xs) → AllOf P (cond b (x ∷ filter p xs) (filter p xs))
    by_test true it rest = (it, rest)
    by_test false it rest = rest

all-put : (P : LockRow → Type 0) (row : LockRow) (rows : List LockRow) → P row → AllOf P rows → AllOf P (put_lock row rows)
all-put P row [] it all = (it, tt)
all-put P row (x ∷ xs) it all = by_test (x.counter == row.counter) (all-put P row xs it all.1)
  where
    by_test : (b : Bool) → AllOf P (put_lock row xs) → AllOf P (cond b (row ∷ xs) (x ∷ put_lock row xs))
    by_test true later = (it, all.1)
    by_test false later = (all.0, later)

pub all-at : (P : LockRow → Type 0) (k : ℕ) (rows : List LockRow) (row : LockRow) → AllOf P rows → lock_at k rows ≡ Some row → P row
unfolding lock_at
all-at P k [] row all found = cc
all-at P k (x ∷ xs) row all found = by_test (x.counter == k) found (λ there. all-at P k xs row all.1 there)
  where
    some_same : {a b : LockRow} → Some a ≡ Some b → a ≡ b
    some_same e = cc

    by_test : (b : Bool) → cond b (Some x) (find (λ r. r.counter == k) xs) ≡ Some row → (find (λ r. r.counter == k) xs ≡ Some row → P row) → P row
    by_test true here later = subst P (some_same here) all.0
    by_test false there later = later there

-- ---- whose open a stateid stands for

-- the open of the counter, where it is there, is of that file
abbrev pub IsOnFile : ℕ → Option OpenRow → Type 0
IsOnFile file None = Unit {0}
IsOnFile file (Some row) = row.file ≡ file

-- A lock stateid stands for the open by which it locks, which is of its file while it is there.
pub record LockIs (open_by : ℕ → Option OpenRow) (last : ℕ) (owners : ℕ → Option Owner) (x : LockRow) : Type 0 where
  pub same : owners x.counter ≡ owners x.opened
  pub counted : x.counter ≤ last
  pub earlier : x.opened ≤ last
  pub file : IsOnFile x.file (open_by x.opened)

abbrev pub OpenIs : (ℕ → Option Owner) → ℕ → Option OpenRow → Type 0
OpenIs owners k None = Unit {0}
OpenIs owners k (Some row) = owners k ≡ Some row.owner

pub record AreTheirs (n : Now) (owners : ℕ → Option Owner) : Type 0 where
  pub opens : (k : ℕ) → OpenIs owners k (n.open_by k)
  pub locks : AllOf (LockIs n.open_by n.last owners) n.locks

-- no open has a counter past the last
abbrev AreCounted : Now → Type 0
AreCounted n = (k : ℕ) → n.last < k → n.open_by k ≡ None

-- a stateid that was there stays whose it was
stays_theirs : (said : StateIdSaid) (n : Now) (drew : Bool) (owners : ℕ → Option Owner) (k : ℕ) → SaidFits said n drew
    → OpenIs owners k (n.open_by k) → k ≤ n.last → owner_after said owners k ≡ owners k
stays_theirs NothingSaid n drew owners k fits is low = refl
stays_theirs (ForOpen counter owner) n drew owners k fits is low = by_test (counter == k) refl
  where
    by_row : (o : Option OpenRow) → IsOwners owner counter n.last o → OpenIs owners k o → counter ≡ k → Some owner ≡ owners k
    by_row None next its same = absurd (omega (arith, next, same, low))
    by_row (Some old) next its same = ap Some (sym next) ∙ sym its

    by_test : (b : Bool) → (counter == k) ≡ b → cond b (Some owner) (owners k) ≡ owners k
    by_test true same = let e : counter ≡ k = eqb-true counter k same in
        by_row (n.open_by k) (subst (λ c. IsOwners owner counter n.last (n.open_by c)) e fits) is e
    by_test false other = refl
stays_theirs (ForLocks counter opened) n drew owners k fits is low = by_test (counter == k) refl
  where
    by_test : (b : Bool) → (counter == k) ≡ b → cond b (owners opened) (owners k) ≡ owners k
    by_test true same = let e : counter ≡ k = eqb-true counter k same in absurd (omega (arith, fits.0, e, low))
    by_test false other = refl

is_low : (n : Now) (k : ℕ) (row : OpenRow) → AreCounted n → n.open_by k ≡ Some row → k ≤ n.last
is_low n k row counted found = by_test (nat_lt n.last k) refl
  where
    past : nat_lt n.last k ≡ true → n.last < k
    past above = grind (arith, nat_tests)

    never : None ≡ Some row → ⊥
    never e = cc

    by_test : (b : Bool) → nat_lt n.last k ≡ b → k ≤ n.last
    by_test true above = absurd (never (sym (counted k (past above)) ∙ found))
    by_test false within = grind (arith, nat_tests)

abbrev AllOpenIs : (ℕ → Option Owner) → Now → Type 0
AllOpenIs owners n = (k : ℕ) → OpenIs owners k (n.open_by k)

-- an open that was there stays whose it was
kept_theirs : (said : StateIdSaid) (n : Now) (drew : Bool) (owners : ℕ → Option Owner) (k : ℕ) → SaidFits said n drew → AreCounted n → AllOpenIs owners n
    → OpenIs (owner_after said owners) k (n.open_by k)
kept_theirs said n drew owners k fits counted are = by_row (n.open_by k) refl (are k)
  where
    by_row : (o : Option OpenRow) → n.open_by k ≡ o → OpenIs owners k o → OpenIs (owner_after said owners) k o
    by_row None none is = tt
    by_row (Some row) found is = stays_theirs said n drew owners k fits (are k) (is_low n k row counted found) ∙ is

put_theirs : (said : StateIdSaid) (n : Now) (drew : Bool) (owners : ℕ → Option Owner) (row : OpenRow) → SaidFits said n drew → AreCounted n → AllOpenIs owners n
    → PutFits said n.last row (n.open_by row.counter) → owner_after said owners row.counter ≡ Some row.owner
put_theirs said n drew owners row fits counted are put = by_row (n.open_by row.counter) refl (are row.counter) put
  where
    itself : (row.counter == row.counter) ≡ true
    itself = grind (arith, nat_tests)

    by_row : (o : Option OpenRow) → n.open_by row.counter ≡ o → OpenIs owners row.counter o → PutFits said n.last row o → owner_after said owners row.counter ≡ Some row.owner
    by_row None none is put =
        ap (λ it. owner_after it owners row.counter) put.0 ∙ ap (λ b. cond b (Some row.owner) (owners row.counter)) itself
    by_row (Some old) found is put =
        stays_theirs said n drew owners row.counter fits (are row.counter) (is_low n row.counter old counted found) ∙ is ∙ ap Some (sym put.0)

opens_theirs : (said : StateIdSaid) (n : Now) (word : OpenWord) (drew : Bool) (owners : ℕ → Option Owner) (k : ℕ) → SaidFits said n drew → AreCounted n
    → AllOpenIs owners n → OpensFit said n word → OpenIs (owner_after said owners) k (open_left word k (n.open_by k))
unfolding open_left
opens_theirs said n Keep drew owners k fits counted are word_fits = kept_theirs said n drew owners k fits counted are
opens_theirs said n (Put row) drew owners k fits counted are word_fits = by_test (row.counter == k) refl
  where
    by_test : (b : Bool) → (row.counter == k) ≡ b → OpenIs (owner_after said owners) k (cond b (Some row) (n.open_by k))
    by_test true same = subst (λ c. owner_after said owners c ≡ Some row.owner) (eqb-true row.counter k same) (put_theirs said n drew owners row fits counted are word_fits)
    by_test false other = kept_theirs said n drew owners k fits counted are
opens_theirs said n (Drop counter) drew owners k fits counted are word_fits = by_test (counter == k)
  where
    by_test : (b : Bool) → OpenIs (owner_after said owners) k (cond b None (n.open_by k))
    by_test true = tt
    by_test false = kept_theirs said n drew owners k fits counted are
opens_theirs said n (DropOf party) drew owners k fits counted are word_fits = by_row (n.open_by k) (kept_theirs said n drew owners k fits counted are)
  where
    by_row : (o : Option OpenRow) → OpenIs (owner_after said owners) k o → OpenIs (owner_after said owners) k (open_left (DropOf party) k o)
    by_row None is = tt
    by_row (Some row) is = by_test (same_party party row.owner.instance)
      where
        by_test : (b : Bool) → OpenIs (owner_after said owners) k (cond b None (Some row))
        by_test true = tt
        by_test false = is

-- an open of an earlier counter stays on its file
stays_on : (said : StateIdSaid) (n : Now) (word : OpenWord) (k file : ℕ) → OpensFit said n word → k ≤ n.last → IsOnFile file (n.open_by k)
    → IsOnFile file (open_left word k (n.open_by k))
unfolding open_left
stays_on said n Keep k file fits low on = on
stays_on said n (Put row) k file fits low on = by_test (row.counter == k) refl
  where
    by_row : (o : Option OpenRow) → PutFits said n.last row o → IsOnFile file o → row.counter ≡ k → row.file ≡ file
    by_row None put on same = absurd (omega (arith, put.1, same, low))
    by_row (Some old) put on same = put.1 ∙ on

    by_test : (b : Bool) → (row.counter == k) ≡ b → IsOnFile file (cond b (Some row) (n.open_by k))
    by_test true same = let e : row.counter ≡ k = eqb-true row.counter k same in
        by_row (n.open_by k) (subst (λ c. PutFits said n.last row (n.open_by c)) e fits) on e
    by_test false other = on
stays_on said n (Drop counter) k file fits low on = by_test (counter == k)
  where
    by_test : (b : Bool) → IsOnFile file (cond b None (n.open_by k))
    by_test true = tt
    by_test false = on
stays_on said n (DropOf party) k file fits low on = by_row (n.open_by k) on
  where
    by_row : (o : Option OpenRow) → IsOnFile file o → IsOnFile file (open_left (DropOf party) k o)
    by_row None on = tt
    by_row (Some row) on = by_test (same_party party row.owner.instance)
      where
        by_test : (b : Bool) → IsOnFile file (cond b None (Some row))
        by_test true = tt
        by_test false = on

last_later : (drew : Bool) (last : ℕ) → last ≤ cond drew (last + 1) last
last_later true last = omega arith
last_later false last = omega arith

-- what an entry leaves
abbrev opens_then : Now → OpenWord → ℕ → Option OpenRow
opens_then n word k = open_left word k (n.open_by k)

abbrev IsThen : StateIdSaid → Now → Words → (ℕ → Option Owner) → LockRow → Type 0
IsThen said n w owners x = LockIs (opens_then n w.opens) (cond w.drew (n.last + 1) n.last) (owner_after said owners) x

lock_stays : (said : StateIdSaid) (n : Now) (w : Words) (owners : ℕ → Option Owner) (x : LockRow) → AllFit said n w → AllOpenIs owners n
    → LockIs n.open_by n.last owners x → IsThen said n w owners x
lock_stays said n w owners x fit are is = record {
  same = stays_theirs said n w.drew owners x.counter fit.fits (are x.counter) is.counted
      ∙ is.same ∙ sym (stays_theirs said n w.drew owners x.opened fit.fits (are x.opened) is.earlier);
  counted = omega (arith, is.counted, last_later w.drew n.last);
  earlier = omega (arith, is.earlier, last_later w.drew n.last);
  file = stays_on said n w.opens x.opened x.file fit.opens is.earlier is.file;
}

by_open : (row : LockRow) (o : Option OpenRow) → IsByOpen row o → IsOnFile row.file o
by_open row None by = tt
by_open row (Some opened) by = by

by_low : (n : Now) (row : LockRow) → AreCounted n → (o : Option OpenRow) → n.open_by row.opened ≡ o → IsByOpen row o → row.opened ≤ n.last
by_low n row counted None none by = absurd by
by_low n row counted (Some opened) found by = is_low n row.opened opened counted found

new_lock_is : (said : StateIdSaid) (n : Now) (w : Words) (owners : ℕ → Option Owner) (row : LockRow) → AllFit said n w → AreCounted n → AllOpenIs owners n
    → said ≡ ForLocks row.counter row.opened → IsByOpen row (n.open_by row.opened) → IsThen said n w owners row
new_lock_is said n w owners row fit counted are its by =
    let low : row.opened ≤ n.last = by_low n row counted (n.open_by row.opened) refl by in
    let next : (row.counter ≡ n.last + 1) × (w.drew ≡ true) = subst (λ it. SaidFits it n w.drew) its fit.fits in
    record {
      same = ap (λ it. owner_after it owners row.counter) its ∙ ap (λ b. cond b (owners row.opened) (owners row.counter)) itself
          ∙ sym (stays_theirs said n w.drew owners row.opened fit.fits (are row.opened) low);
      counted = rw next.1 (omega (arith, next.0));
      earlier = omega (arith, low, last_later w.drew n.last);
      file = stays_on said n w.opens row.opened row.file fit.opens low (by_open row (n.open_by row.opened) by);
    }
  where
    itself : (row.counter == row.counter) ≡ true
    itself = grind (arith, nat_tests)

same_lock_is : (said : StateIdSaid) (n : Now) (w : Words) (owners : ℕ → Option Owner) (row old : LockRow) → row.counter ≡ old.counter → row.opened ≡ old.opened
    → row.file ≡ old.file → IsThen said n w owners old → IsThen said n w owners row
same_lock_is said n w owners row old counter opened file is = record {
  same = ap (owner_after said owners) counter ∙ is.same ∙ ap (owner_after said owners) (sym opened);
  counted = rw counter is.counted;
  earlier = rw opened is.earlier;
  file = rw (file, opened) is.file;
}

claim_is : (said : StateIdSaid) (n : Now) (w : Words) (owners : ℕ → Option Owner) (row : LockRow) → AllFit said n w → AreCounted n → AllOpenIs owners n
    → AllOf (LockIs n.open_by n.last owners) n.locks → ClaimFits said n row (lock_at row.counter n.locks) → IsThen said n w owners row
claim_is said n w owners row fit counted are all claim = by_old (lock_at row.counter n.locks) refl claim
  where
    by_old : (o : Option LockRow) → lock_at row.counter n.locks ≡ o → ClaimFits said n row o → IsThen said n w owners row
    by_old None none claim = new_lock_is said n w owners row fit counted are claim.0 claim.1
    by_old (Some old) found claim = same_lock_is said n w owners row old (sym (lock_at-counter row.counter n.locks old found)) claim.0 claim.1
        (lock_stays said n w owners old fit are (all-at (LockIs n.open_by n.last owners) row.counter n.locks old all found))

locks_theirs : (said : StateIdSaid) (n : Now) (w : Words) (owners : ℕ → Option Owner) (word : LockWord) → AllFit said n w → AreCounted n → AllOpenIs owners n
    → AllOf (LockIs n.open_by n.last owners) n.locks → LocksFit said n word → AllOf (IsThen said n w owners) (locks_after word n.locks)
unfolding locks_after
locks_theirs said n w owners word fit counted are all fits = by_word word fits (all-map _ _ n.locks (λ x is. lock_stays said n w owners x fit are is) all)
  where
    by_word : (word : LockWord) → LocksFit said n word → AllOf (IsThen said n w owners) n.locks → AllOf (IsThen said n w owners) (locks_after word n.locks)
    by_word AsIs fits then = then
    by_word (Claimed row kind from to) fits then = all-put _ row n.locks (claim_is said n w owners row fit counted are all fits) then
    by_word (Cleared row from to) fits then = all-put _ row n.locks (claim_is said n w owners row fit counted are all fits) then
    by_word (ClosedWith counter) fits then = all-filter _ (λ x. not (x.opened == counter)) n.locks then
    by_word (Released owner) fits then = all-filter _ (λ x. not (same_owner owner x.owner)) n.locks then
    by_word (EndedOf party) fits then = all-filter _ (λ x. not (same_party party x.owner.instance)) n.locks then

theirs_step : (said : StateIdSaid) (n : Now) (w : Words) (owners : ℕ → Option Owner) → AllFit said n w → AreCounted n → AreTheirs n owners
    → AreTheirs (left n w) (owner_after said owners)
unfolding left
theirs_step said n w owners fit counted theirs = record {
  opens = λ k. opens_theirs said n w.opens w.drew owners k fit.fits counted theirs.opens fit.opens;
  locks = locks_theirs said n w owners w.locks fit counted theirs.opens theirs.locks fit.locks;
}

counted-look : (s : Seen) → IsSound s → AreCounted (look s)
unfolding look
counted-look s sound = λ k past. open_at-past 0 s.last s.opens k sound.rising past

fit-at : (fs : ℕ) (grants : Bool) (es : Past) (event : Event) → IsLegal fs grants es
    → AllFit (entry_said (now es) event (answer_to (seen fs grants es) event)) (now es) (words (now es) event (answer_to (seen fs grants es) event))
fit-at fs grants es event legal =
    subst (λ n. AllFit (entry_said n event (answer_to (seen fs grants es) event)) n (words n event (answer_to (seen fs grants es) event))) (look-seen fs grants es legal)
    (entry_fit (seen fs grants es) event (sound-seen fs grants es legal) (stand-seen fs grants es legal).rising)

theirs-now : (fs : ℕ) (grants : Bool) (es : Past) → IsLegal fs grants es → AreTheirs (now es) (opener_of es)
unfolding now opener_of
theirs-now fs grants [] legal = record { opens = λ k. tt; locks = tt }
theirs-now fs grants (x ∷ earlier) legal =
    theirs_step (entry_said (now earlier) x.event x.reply) (now earlier) (words (now earlier) x.event x.reply) (opener_of earlier)
    (subst (λ r. AllFit (entry_said (now earlier) x.event r) (now earlier) (words (now earlier) x.event r)) (sym legal.0) (fit-at fs grants earlier x.event legal.1))
    (subst AreCounted (look-seen fs grants earlier legal.1) (counted-look (seen fs grants earlier) (sound-seen fs grants earlier legal.1)))
    (theirs-now fs grants earlier legal.1)

pub theirs-seen : (fs : ℕ) (grants : Bool) (es : Past) → IsLegal fs grants es → AreTheirs (look (seen fs grants es)) (opener_of es)
theirs-seen fs grants es legal = subst (λ n. AreTheirs n (opener_of es)) (sym (look-seen fs grants es legal)) (theirs-now fs grants es legal)
