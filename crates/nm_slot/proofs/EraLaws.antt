-- What a slot knows of eras is what the steps so far say, and a call that is carried out is timely.
use Rattle.std.proofs.Common.{◌≡◌, ◌≢◌, ◌≤◌, ℕ, Bool, true, false, cond, List, [], ◌∷◌, ◌++◌, Option, Some, None, refl, sym, subst, ap, ◌∙◌, arith, eqb-true}
use Rattle.std.specs.Prelude.{◌==◌, ◌&&◌, ◌||◌, not, nat_lt, nat_le, max, find, filter}
use Rattle.std.proofs.lemmas.Bool.Decides.{nat_tests}
use Rattle.nm_types.specs.declared.leases.LeasePass.{LeasePass}
use Rattle.nm_types.specs.Parties.{Party, same_party}
use Rattle.nm_rules.specs.Seen.{Seen}
use Rattle.nm_types.specs.declared.calls.Call.{Call}
use Rattle.nm_types.specs.declared.calls.Reply.{Reply}
use Rattle.nm_types.specs.declared.calls.Verdict.{Verdict}
use Rattle.nm_rules.proofs.OwnerLemmas.{same_party-Decides}
use Rattle.nm_slot.specs.declared.answers.Abandon.TheVariants as abandon
use Rattle.nm_slot.specs.declared.answers.Accept.TheVariants as accept
use Rattle.nm_slot.specs.declared.answers.Answer.TheVariants as answer
use Rattle.nm_slot.specs.declared.answers.Begin.TheVariants as begin
use Rattle.nm_slot.specs.declared.answers.Enter.TheVariants as enter
use Rattle.nm_slot.specs.declared.answers.Install.TheVariants as install
use Rattle.nm_slot.specs.declared.answers.Swept.{Swept}
use Rattle.nm_slot.specs.declared.answers.Swept.TheVariants as sweep
use Rattle.nm_slot.specs.Answers.{applied, done_after, ends_before, is_full, is_offer_of, is_past, swept_by, apply_answer, sweep_answer, install_answer}
use Rattle.nm_slot.specs.Changes.{own_after, own_accepted, own_installed, own_swept}
use Rattle.nm_slot.specs.History.{Home, dest_from, own_now, tables_now, slot_now, IsAnswered, IsHistory}
use Rattle.nm_slot.specs.Phases.{Moment, phase_now, column}
use Rattle.nm_slot.specs.SlotNow.{Stage, Offer, Own, SlotStep}
use Rattle.nm_slot.specs.SlotNow.Doing.{Serves, Closes, Froze}
use Rattle.nm_slot.specs.SlotNow.Stage.{Away, Here}
use Rattle.nm_slot.specs.SlotNow.HandedOver.{Committed}
use Rattle.nm_slot.specs.SlotNow.SlotStep.{Entering, Applying, Sweeping, Beginning, Committing, Abandoning, Accepting, Installing, Withdrawing}
use Rattle.nm_slot.specs.declared.eras.EraRow.{EraRow}
use Rattle.nm_slot.specs.Eras.{is_of, row_found, row_of, put_row, noted, marked, noted_lease, noted_all, greatest_era, era_in, comes_late, has_ended, is_swept_at, era_seen}
use Rattle.nm_slot.specs.EraReadings.{greater_if, seen_by, seen_with, seen_at, ended_if, ended_with, ended_at, IsTimely}

-- ---- a row that is put

dropped_or_not : (party : Party) (row x : EraRow) (kept : List EraRow) (drops : Bool)
    → find (is_of party) (cond (not drops) (x ∷ kept) kept ++ row ∷ [])
    ≡ cond drops (find (is_of party) (kept ++ row ∷ [])) (cond (same_party party x.instance) (Some x) (find (is_of party) (kept ++ row ∷ [])))
dropped_or_not party row x kept true = refl
dropped_or_not party row x kept false = refl

-- the row of an instance is the one that was put, or the one that it had
found_first : (party : Party) (row x : EraRow) (before after : Option EraRow) (drops is_x is_row : Bool)
    → same_party row.instance x.instance ≡ drops → same_party party x.instance ≡ is_x → same_party party row.instance ≡ is_row
    → after ≡ cond is_row (Some row) before → cond drops after (cond is_x (Some x) after) ≡ cond is_row (Some row) (cond is_x (Some x) before)
found_first party row x before after true is_x true d e f it = it
found_first party row x before after true false false d e f it = it
found_first party row x before after true true false d e f it =
    let its : row.instance ≡ x.instance = (same_party-Decides row.instance x.instance).0 d in
    let same : same_party party row.instance ≡ true = ap (same_party party) its ∙ e in
    cc
found_first party row x before after false true true d e f it =
    let at_x : party ≡ x.instance = (same_party-Decides party x.instance).0 e in
    let at_row : party ≡ row.instance = (same_party-Decides party row.instance).0 f in
    let same : same_party row.instance x.instance ≡ true = (same_party-Decides row.instance x.instance).1 (sym at_row ∙ at_x) in
    cc
found_first party row x before after false false true d e f it = it
found_first party row x before after false true false d e f it = refl
found_first party row x before after false false false d e f it = it

find_put : (party : Party) (row : EraRow) (rows : List EraRow)
    → find (is_of party) (put_row row rows) ≡ cond (same_party party row.instance) (Some row) (find (is_of party) rows)
find_put party row [] = refl
find_put party row (x ∷ xs) =
    dropped_or_not party row x (filter (λ y. not (is_of row.instance y)) xs) (same_party row.instance x.instance)
    ∙ found_first party row x (find (is_of party) xs) (find (is_of party) (put_row row xs)) (same_party row.instance x.instance) (same_party party x.instance)
    (same_party party row.instance) refl refl refl (find_put party row xs)

row_put : (party : Party) (row : EraRow) (rows : List EraRow) → row_of party (put_row row rows) ≡ cond (same_party party row.instance) row (row_of party rows)
unfolding row_of
row_put party row rows = ap (row_found party) (find_put party row rows) ∙ by_test (same_party party row.instance)
  where
    by_test : (b : Bool) → row_found party (cond b (Some row) (find (is_of party) rows)) ≡ cond b row (row_found party (find (is_of party) rows))
    by_test true = refl
    by_test false = refl

found_instance : (party : Party) (rows : List EraRow) → (row_found party (find (is_of party) rows)).instance ≡ party
found_instance party [] = refl
found_instance party (x ∷ xs) = by_test (same_party party x.instance) refl (found_instance party xs)
  where
    by_test : (b : Bool) → same_party party x.instance ≡ b → (row_found party (find (is_of party) xs)).instance ≡ party
        → (row_found party (cond b (Some x) (find (is_of party) xs))).instance ≡ party
    by_test true e later = sym ((same_party-Decides party x.instance).0 e)
    by_test false e later = later

row_instance : (party : Party) (rows : List EraRow) → (row_of party rows).instance ≡ party
unfolding row_of
row_instance party rows = found_instance party rows

-- ---- what is noted and marked

newer : (a b : ℕ) → nat_lt a b ≡ true → b ≡ max a b
newer a b e = grind (arith, nat_tests)

older : (a b : ℕ) → nat_lt a b ≡ false → a ≡ max a b
older a b e = grind (arith, nat_tests)

noted_at : (party its : Party) (era : ℕ) (rows : List EraRow) (old : EraRow) (new same : Bool) → old ≡ row_of its rows → nat_lt old.era era ≡ new
    → same_party party its ≡ same
    → row_of party (cond new (put_row (record old { era = era }) rows) rows) ≡ record (row_of party rows) { era = greater_if same era (row_of party rows).era }
noted_at party its era rows old false false is e f = refl
noted_at party its era rows old false true is e f =
    let at : party ≡ its = (same_party-Decides party its).0 f in
    let here : row_of party rows ≡ old = ap (λ p. row_of p rows) at ∙ sym is in
    ap (λ k. record (row_of party rows) { era = k }) (older (row_of party rows).era era (ap (λ (r : EraRow). nat_lt r.era era) here ∙ e))
noted_at party its era rows old true false is e f =
    let other : same_party party old.instance ≡ false = ap (same_party party) (ap (λ (r : EraRow). r.instance) is ∙ row_instance its rows) ∙ f in
    row_put party (record old { era = era }) rows ∙ ap (λ b. cond b (record old { era = era }) (row_of party rows)) other
noted_at party its era rows old true true is e f =
    let at : party ≡ its = (same_party-Decides party its).0 f in
    let here : row_of party rows ≡ old = ap (λ p. row_of p rows) at ∙ sym is in
    let mine : same_party party old.instance ≡ true = ap (same_party party) (ap (λ (r : EraRow). r.instance) is ∙ row_instance its rows) ∙ f in
    row_put party (record old { era = era }) rows ∙ ap (λ b. cond b (record old { era = era }) (row_of party rows)) mine
    ∙ ap (λ (r : EraRow). record r { era = era }) (sym here)
    ∙ ap (λ k. record (row_of party rows) { era = k }) (newer (row_of party rows).era era (ap (λ (r : EraRow). nat_lt r.era era) here ∙ e))

pub row_noted : (party its : Party) (era : ℕ) (rows : List EraRow)
    → row_of party (noted its era rows) ≡ record (row_of party rows) { era = greater_if (same_party party its) era (row_of party rows).era }
unfolding noted
row_noted party its era rows = noted_at party its era rows (row_of its rows) (nat_lt (row_of its rows).era era) (same_party party its) refl refl refl

pub row_marked : (party its : Party) (era : ℕ) (rows : List EraRow)
    → row_of party (marked its era rows) ≡ cond (same_party party its) (record { instance = its; era = era; swept = Some era }) (row_of party rows)
unfolding marked
row_marked party its era rows = row_put party (record { instance = its; era = era; swept = Some era }) rows

pub row_leased : (party : Party) (lease : Option LeasePass) (rows : List EraRow)
    → row_of party (noted_lease lease rows) ≡ record (row_of party rows) { era = seen_by party lease (row_of party rows).era }
row_leased party None rows = refl
row_leased party (Some lease) rows = row_noted party lease.instance lease.era rows

-- ---- the leases that came with an offer

greater_from : (party : Party) (passes : List LeasePass) (era : ℕ) → greatest_era party era passes ≡ max era (greatest_era party 0 passes)
greater_from party [] era = omega arith
greater_from party (pass ∷ passes) era = by_test (same_party party pass.instance) (λ k. greater_from party passes k)
  where
    by_test : (b : Bool) → ((k : ℕ) → greatest_era party k passes ≡ max k (greatest_era party 0 passes))
        → greatest_era party (cond b (max era pass.era) era) passes ≡ max era (greatest_era party (cond b (max 0 pass.era) 0) passes)
    by_test true from = omega (arith, from (max era pass.era), from (max 0 pass.era))
    by_test false from = from era

pub row_all : (party : Party) (passes : List LeasePass) (rows : List EraRow)
    → row_of party (noted_all passes rows) ≡ record (row_of party rows) { era = max (row_of party rows).era (era_in party passes) }
unfolding era_in
row_all party [] rows = ap (λ k. record (row_of party rows) { era = k }) (omega arith)
row_all party (pass ∷ passes) rows =
    row_all party passes (noted pass.instance pass.era rows)
    ∙ ap (λ (r : EraRow). record r { era = max r.era (greatest_era party 0 passes) }) (row_noted party pass.instance pass.era rows)
    ∙ ap (λ k. record (row_of party rows) { era = k }) (by_test (same_party party pass.instance))
  where
    by_test : (b : Bool) → max (greater_if b pass.era (row_of party rows).era) (greatest_era party 0 passes)
        ≡ max (row_of party rows).era (greatest_era party (cond b (max 0 pass.era) 0) passes)
    by_test true = omega (arith, greater_from party passes (max 0 pass.era))
    by_test false = refl

-- ---- a step

not_past : (past : Bool) (party : Party) (stage : Stage) (own : Own) (a : Swept) → a ≢ sweep.Nothing → a ≡ swept_by past party stage own → past ≡ false
not_past true party stage own a other e = absurd (other e)
not_past false party stage own a other e = refl

-- an era that ended, and isn't past
swept_era : (party its : Party) (era : ℕ) (rows : List EraRow) (same : Bool) → same_party party its ≡ same → nat_lt era (row_of its rows).era ≡ false
    → (cond same (record { instance = its; era = era; swept = Some era }) (row_of party rows)).era ≡ greater_if same era (row_of party rows).era
swept_era party its era rows false f e = refl
swept_era party its era rows true f e =
    let at : party ≡ its = (same_party-Decides party its).0 f in
    newest era (row_of party rows).era (ap (λ p. nat_lt era (row_of p rows).era) at ∙ e)
  where
    newest : (a b : ℕ) → nat_lt a b ≡ false → a ≡ max b a
    newest a b e = grind (arith, nat_tests)

swept_swept : (party its : Party) (era : ℕ) (rows : List EraRow) (same : Bool)
    → (cond same (record { instance = its; era = era; swept = Some era }) (row_of party rows)).swept ≡ ended_if same era (row_of party rows).swept
swept_swept party its era rows true = refl
swept_swept party its era rows false = refl

-- one that is past changes nothing
past_era : (party its : Party) (era : ℕ) (rows : List EraRow) (same : Bool) → same_party party its ≡ same → nat_lt era (row_of its rows).era ≡ true
    → (row_of party rows).era ≡ greater_if same era (row_of party rows).era
past_era party its era rows false f e = refl
past_era party its era rows true f e =
    let at : party ≡ its = (same_party-Decides party its).0 f in
    greater era (row_of party rows).era (ap (λ p. nat_lt era (row_of p rows).era) at ∙ e)
  where
    greater : (a b : ℕ) → nat_lt a b ≡ true → b ≡ max b a
    greater a b e = grind (arith, nat_tests)

-- What a slot knows of an instance after a step.
pub record IsRead (party : Party) (own new : Own) (step : SlotStep) : Type 0 where
  pub era : (row_of party new.eras).era ≡ seen_with party own step (row_of party own.eras).era
  pub swept : (row_of party new.eras).swept ≡ ended_with party own step (row_of party own.eras).swept

marked_read : (party its : Party) (era : ℕ) (own new : Own) (a : Swept) (ends : List Party) → new.eras ≡ marked its era own.eras → is_past its era own ≡ false
    → ((row_of party new.eras).era ≡ greater_if (same_party party its) era (row_of party own.eras).era)
    × ((row_of party new.eras).swept ≡ ended_if (same_party party its) era (row_of party own.eras).swept)
marked_read party its era own new a ends e past = (
  ap (λ rows. (row_of party rows).era) e ∙ ap (λ (r : EraRow). r.era) (row_marked party its era own.eras) ∙ swept_era party its era own.eras (same_party party its) refl past,
  ap (λ rows. (row_of party rows).swept) e ∙ ap (λ (r : EraRow). r.swept) (row_marked party its era own.eras) ∙ swept_swept party its era own.eras (same_party party its),
)

nothing_read : (party its : Party) (era : ℕ) (own : Own) (ends : List Party) (past : Bool) → is_past its era own ≡ past
    → ((row_of party (cond past own (record own { eras = marked its era own.eras })).eras).era ≡ greater_if (same_party party its) era (row_of party own.eras).era)
    × ((row_of party (cond past own (record own { eras = marked its era own.eras })).eras).swept ≡ ended_if (same_party party its && not past) era (row_of party own.eras).swept)
nothing_read party its era own ends true e = (past_era party its era own.eras (same_party party its) refl e, none (same_party party its))
  where
    none : (b : Bool) → (row_of party own.eras).swept ≡ ended_if (b && false) era (row_of party own.eras).swept
    none true = refl
    none false = refl
nothing_read party its era own ends false e =
    let it = marked_read party its era own (record own { eras = marked its era own.eras }) sweep.Nothing ends refl e in
    (it.0, it.1 ∙ all (same_party party its))
  where
    all : (b : Bool) → ended_if b era (row_of party own.eras).swept ≡ ended_if (b && true) era (row_of party own.eras).swept
    all true = refl
    all false = refl

accepted_eras : (offer : Offer) (leases : List LeasePass) (held : Option Offer) (own : Own) → (own_accepted offer leases held own).eras ≡ own.eras
accepted_eras offer leases None own = refl
accepted_eras offer leases (Some its) own = by_test (its.number == offer.number)
  where
    by_test : (b : Bool) → (cond b own (record own { held = Some offer; brought = leases; known = offer.number })).eras ≡ own.eras
    by_test true = refl
    by_test false = refl

installed_read : (party : Party) (number : ℕ) (ends : List Party) (own : Own) (held : Option Offer) (known : ℕ)
    → install.Now ≡ cond (is_offer_of number held) install.Now (cond (nat_le number known) install.Already install.Absent)
    → ((row_of party (own_installed number ends held own).eras).era ≡ max (row_of party own.eras).era (era_in party own.brought))
    × ((row_of party (own_installed number ends held own).eras).swept ≡ (row_of party own.eras).swept)
installed_read party number ends own None known a = absurd (not_now (nat_le number known) a)
  where
    not_now : (b : Bool) → install.Now ≡ cond b install.Already install.Absent → ⊥
    not_now true a = cc
    not_now false a = cc
installed_read party number ends own (Some offer) known a =
    (ap (λ (r : EraRow). r.era) (row_all party own.brought own.eras), ap (λ (r : EraRow). r.swept) (row_all party own.brought own.eras))

read_after : (party : Party) (fs : ℕ) (stage : Stage) (own : Own) (dest : ℕ) (step : SlotStep) → IsAnswered (record { fs = fs; stage = stage; own = own }) step
    → IsRead party own (own_after step dest own) step
unfolding sweep_answer install_answer
read_after party fs stage own dest (Applying epoch lease call verdict ends (answer.Done place reply)) a =
    record { era = ap (λ (r : EraRow). r.era) (row_leased party lease own.eras); swept = ap (λ (r : EraRow). r.swept) (row_leased party lease own.eras) }
read_after party fs stage own dest (Sweeping its era ends sweep.Ended) a =
    let it = marked_read party its era own (own_swept sweep.Ended its era ends own) sweep.Ended ends refl (not_past (is_past its era own) its stage own sweep.Ended (λ e. cc) a.0) in
    record { era = it.0; swept = it.1 }
read_after party fs stage own dest (Sweeping its era ends sweep.PutOff) a =
    let it = marked_read party its era own (own_swept sweep.PutOff its era ends own) sweep.PutOff ends refl (not_past (is_past its era own) its stage own sweep.PutOff (λ e. cc) a.0) in
    record { era = it.0; swept = it.1 }
read_after party fs stage own dest (Sweeping its era ends sweep.Nothing) a =
    let it = nothing_read party its era own ends (is_past its era own) refl in
    record { era = it.0; swept = it.1 }
read_after party fs stage own dest (Accepting offer leases accept.Held) a =
    let same = accepted_eras offer leases own.held own in
    record { era = ap (λ rows. (row_of party rows).era) same; swept = ap (λ rows. (row_of party rows).swept) same }
read_after party fs stage own dest (Installing number ends install.Now) a =
    let it = installed_read party number ends own own.held own.installed a.0 in
    record { era = it.0; swept = it.1 }
read_after party fs stage own dest (Entering (enter.Entered pass)) a = record { era = refl; swept = refl }
read_after party fs stage own dest (Beginning here to (begin.Begun number)) a = record { era = refl; swept = refl }
read_after party fs stage own dest (Committing number (Committed parties)) a = record { era = refl; swept = refl }
read_after party fs stage own dest (Abandoning ends (abandon.Back number)) a = record { era = refl; swept = refl }
read_after party fs stage own dest (Withdrawing number true) a = record { era = refl; swept = refl }
read_after party fs stage own dest (Withdrawing number false) a = record { era = refl; swept = refl }
read_after party fs stage own dest _ a = record { era = refl; swept = refl }

-- ---- a history

unseen_era : (party : Party) → (row_of party []).era ≡ 0
unfolding row_of
unseen_era party = refl

unseen_swept : (party : Party) → (row_of party []).swept ≡ None
unfolding row_of
unseen_swept party = refl

pub eras_are_read : (home : Home) (h : List Moment) → IsHistory home h → (s : ℕ) (party : Party) → (row_of party (own_now home.first h s).eras).era ≡ seen_at home h s party
unfolding own_now slot_now seen_at
eras_are_read home [] it s party = unseen_era party
eras_are_read home (x ∷ h) it s party = by_test (x.server == s) refl (eras_are_read home h it.1 s party)
  where
    own : Own
    own = own_now home.first h s

    dest : ℕ
    dest = dest_from (phase_now home.first h) s

    by_test : (b : Bool) → (x.server == s) ≡ b
        → (row_of party own.eras).era ≡ seen_at home h s party
        → (row_of party (cond b (own_after x.step dest own) own).eras).era ≡ cond b (seen_with party own x.step (seen_at home h s party)) (seen_at home h s party)
    by_test true e before =
        (read_after party home.fs (column (phase_now home.first h) (tables_now home h) s) own dest x.step
        (subst (λ r. IsAnswered (slot_now home h r) x.step) (eqb-true x.server s e) it.0.answered)).era
        ∙ ap (λ k. seen_with party own x.step k) before
    by_test false e before = before

pub ends_are_read : (home : Home) (h : List Moment) → IsHistory home h → (s : ℕ) (party : Party) → (row_of party (own_now home.first h s).eras).swept ≡ ended_at home h s party
unfolding own_now slot_now ended_at
ends_are_read home [] it s party = unseen_swept party
ends_are_read home (x ∷ h) it s party = by_test (x.server == s) refl (ends_are_read home h it.1 s party)
  where
    own : Own
    own = own_now home.first h s

    dest : ℕ
    dest = dest_from (phase_now home.first h) s

    by_test : (b : Bool) → (x.server == s) ≡ b
        → (row_of party own.eras).swept ≡ ended_at home h s party
        → (row_of party (cond b (own_after x.step dest own) own).eras).swept ≡ cond b (ended_with party own x.step (ended_at home h s party)) (ended_at home h s party)
    by_test true e before =
        (read_after party home.fs (column (phase_now home.first h) (tables_now home h) s) own dest x.step
        (subst (λ r. IsAnswered (slot_now home h r) x.step) (eqb-true x.server s e) it.0.answered)).swept
        ∙ ap (λ k. ended_with party own x.step k) before
    by_test false e before = before

-- ---- an era that ended was seen

ended_seen : (its past : Bool) (era e before : ℕ) (ended : Option ℕ) → (ended ≡ Some e → e ≤ before) → ended_if (its && past) era ended ≡ Some e → e ≤ greater_if its era before
ended_seen true true era e before ended known it = let same : era ≡ e = cc in omega (arith, same)
ended_seen true false era e before ended known it = omega (arith, known it)
ended_seen false past era e before ended known it = known it

ended_seen_all : (its : Bool) (era e before : ℕ) (ended : Option ℕ) → (ended ≡ Some e → e ≤ before) → ended_if its era ended ≡ Some e → e ≤ greater_if its era before
ended_seen_all true era e before ended known it = let same : era ≡ e = cc in omega (arith, same)
ended_seen_all false era e before ended known it = known it

leased_seen : (its : Bool) (era e before : ℕ) → e ≤ before → e ≤ greater_if its era before
leased_seen true era e before le = omega (arith, le)
leased_seen false era e before le = le

lease_seen : (party : Party) (lease : Option LeasePass) (e before : ℕ) → e ≤ before → e ≤ seen_by party lease before
lease_seen party None e before le = le
lease_seen party (Some lease) e before le = leased_seen (same_party party lease.instance) lease.era e before le

ended_step : (party : Party) (own : Own) (step : SlotStep) (e before : ℕ) (ended : Option ℕ) → (ended ≡ Some e → e ≤ before) → ended_with party own step ended ≡ Some e
    → e ≤ seen_with party own step before
ended_step party own (Applying epoch lease call verdict ends (answer.Done place reply)) e before ended known it = lease_seen party lease e before (known it)
ended_step party own (Sweeping its era ends sweep.Ended) e before ended known it = ended_seen_all (same_party party its) era e before ended known it
ended_step party own (Sweeping its era ends sweep.PutOff) e before ended known it = ended_seen_all (same_party party its) era e before ended known it
ended_step party own (Sweeping its era ends sweep.Nothing) e before ended known it = ended_seen (same_party party its) (not (is_past its era own)) era e before ended known it
ended_step party own (Installing number ends install.Now) e before ended known it = omega (arith, known it)
ended_step party own _ e before ended known it = known it

ended_is_seen : (home : Home) (h : List Moment) (s : ℕ) (party : Party) (e : ℕ) → ended_at home h s party ≡ Some e → e ≤ seen_at home h s party
unfolding ended_at seen_at
ended_is_seen home [] s party e it = cc
ended_is_seen home (x ∷ h) s party e it = by_test (x.server == s) it (ended_is_seen home h s party e)
  where
    by_test : (b : Bool) → cond b (ended_with party (own_now home.first h s) x.step (ended_at home h s party)) (ended_at home h s party) ≡ Some e
        → (ended_at home h s party ≡ Some e → e ≤ seen_at home h s party)
        → e ≤ cond b (seen_with party (own_now home.first h s) x.step (seen_at home h s party)) (seen_at home h s party)
    by_test true it before = ended_step party (own_now home.first h s) x.step e (seen_at home h s party) (ended_at home h s party) before it
    by_test false it before = before it

-- ---- a call that is carried out

not_late : (epoch place era : ℕ) (call : Call) (verdict : Verdict) (reply : Reply) (state : Seen) (ends : List Party) (own : Own) (strayed late last : Bool)
    → answer.Done place reply
    ≡ cond strayed (answer.Strayed epoch own.epoch) (cond late (answer.Ended era) (cond last (answer.Last own.count) (done_after ends call verdict state own)))
    → late ≡ false
not_late epoch place era call verdict reply state ends own true late last a = cc
not_late epoch place era call verdict reply state ends own false true last a = cc
not_late epoch place era call verdict reply state ends own false false last a = refl

in_time : (epoch place : ℕ) (lease : LeasePass) (call : Call) (verdict : Verdict) (reply : Reply) (own : Own) (stage : Stage)
    → answer.Done place reply ≡ applied epoch (Some lease) call verdict stage own → comes_late lease.era (row_of lease.instance own.eras) ≡ false
in_time epoch place lease call verdict reply own Away a = cc
in_time epoch place lease call verdict reply own (Here (Froze dest number) state) a = cc
in_time epoch place lease call verdict reply own (Here Serves state) a =
    not_late epoch place (era_seen (Some lease) own.eras) call verdict reply state (ends_before (Some lease) (Here Serves state) own.eras) own
    (not (epoch == own.epoch)) (comes_late lease.era (row_of lease.instance own.eras)) (is_full own) a
in_time epoch place lease call verdict reply own (Here (Closes dest number) state) a =
    not_late epoch place (era_seen (Some lease) own.eras) call verdict reply state (ends_before (Some lease) (Here (Closes dest number) state) own.eras) own
    (not (epoch == own.epoch)) (comes_late lease.era (row_of lease.instance own.eras)) (is_full own) a

-- What isn't late is of no earlier era, and of none that ended.
timely : (era seen : ℕ) (swept : Option ℕ) (earlier same : Bool) → nat_lt era seen ≡ earlier → (era == seen) ≡ same
    → (earlier || (same && is_swept_at seen swept)) ≡ false → ((e : ℕ) → swept ≡ Some e → e ≤ seen) → (seen ≤ era) × (swept ≢ Some era)
timely era seen swept true same e f late known = cc
timely era seen swept false false e f late known = (grind (arith, nat_tests), λ it. grind (arith, nat_tests, known era it))
timely era seen swept false true e f late known = (grind (arith, nat_tests), λ it. ended it)
  where
    ended : swept ≡ Some era → ⊥
    ended it = let same : is_swept_at seen swept ≡ true = ap (is_swept_at seen) it ∙ f in cc

pub call_is_timely : (home : Home) (h : List Moment) (s epoch place : ℕ) (lease : LeasePass) (call : Call) (verdict : Verdict) (ends : List Party) (reply : Reply)
    → IsHistory home (record { server = s; step = Applying epoch (Some lease) call verdict ends (answer.Done place reply) } ∷ h) → IsTimely home h s lease
unfolding apply_answer slot_now comes_late has_ended
call_is_timely home h s epoch place lease call verdict ends reply it =
    let own : Own = own_now home.first h s in
    let seen : ℕ = (row_of lease.instance own.eras).era in
    let swept : Option ℕ = (row_of lease.instance own.eras).swept in
    let late = in_time epoch place lease call verdict reply own (column (phase_now home.first h) (tables_now home h) s) it.0.answered.0 in
    let both = timely lease.era seen swept (nat_lt lease.era seen) (lease.era == seen) refl refl late
    (λ e is. subst (λ k. e ≤ k) (sym (eras_are_read home h it.1 s lease.instance))
    (ended_is_seen home h s lease.instance e (sym (ends_are_read home h it.1 s lease.instance) ∙ is))) in
    record {
      latest = subst (λ k. k ≤ lease.era) (eras_are_read home h it.1 s lease.instance) both.0;
      stands = λ e. both.1 (ends_are_read home h it.1 s lease.instance ∙ e);
    }
