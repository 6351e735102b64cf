-- What a call leaves of its server's slot is that server's column of the one phase, and no other slot changes.
use Rattle.std.proofs.Common.{◌≡◌, ◌≢◌, ℕ, Bool, true, false, cond, List, ◌∷◌, refl, sym, ap, ◌∙◌, Option, eqb-true, eq-eqb, ne_eqb}
use Rattle.std.specs.Prelude.{◌==◌, ◌&&◌}
use Rattle.nm_types.specs.declared.leases.LeasePass.{LeasePass}
use Rattle.nm_types.specs.Parties.{Party}
use Rattle.nm_rules.specs.Past.{Past}
use Rattle.nm_rules.specs.Seen.{Seen, seen, after}
use Rattle.nm_types.specs.declared.calls.Call.{Call}
use Rattle.nm_types.specs.declared.calls.Event.{Event}
use Rattle.nm_types.specs.declared.calls.Event.TheVariants.{Asked}
use Rattle.nm_types.specs.declared.calls.Reply.{Reply}
use Rattle.nm_types.specs.declared.calls.Verdict.{Verdict}
use Rattle.nm_slot.specs.declared.answers.Abandon.TheVariants as abandon
use Rattle.nm_slot.specs.declared.answers.Answer.TheVariants as answer
use Rattle.nm_slot.specs.declared.answers.Begin.TheVariants as begin
use Rattle.nm_slot.specs.declared.answers.Freeze.TheVariants as freeze
use Rattle.nm_slot.specs.declared.answers.Install.TheVariants as install
use Rattle.nm_slot.specs.declared.answers.Swept.TheVariants as sweep
use Rattle.nm_slot.specs.Answers.{begun as begin_by, frozen as freeze_by, committed as commit_by, abandoned as abandon_by, applied, apply_answer, is_past, swept_at, sweep_answer, begin_answer, freeze_answer, commit_answer, abandon_answer, install_answer}
use Rattle.nm_slot.specs.Eras.{after_ends}
use Rattle.nm_slot.specs.Kept.{is_staged}
use Rattle.nm_slot.specs.Changes.{with_doing, dest_at, stage_called, stage_ended, stage_of_offer, stage_after, own_after, slot_after}
use Rattle.nm_slot.specs.History.{Home, dest_from, own_now, tables_now, entries_now, with_ends, with_entry, slot_now, passes_now, IsAnswered, IsDelivered, IsHistory}
use Rattle.nm_slot.specs.Moves.{Move, move_now}
use Rattle.nm_slot.specs.Phases.{Phase, Moment, source_of, after_at_source, after_elsewhere, phase_now, column}
use Rattle.nm_slot.specs.Phases.Phase.{At, Closing, Frozen, Passing}
use Rattle.nm_slot.specs.SlotNow.{Doing, Stage, Offer, Own, SlotStep}
use Rattle.nm_slot.specs.SlotNow.Doing.{Serves, Closes, Froze}
use Rattle.nm_slot.specs.SlotNow.Stage.{Away, Here}
use Rattle.nm_slot.specs.SlotNow.HandedOver.{Committed}
use Rattle.nm_slot.specs.SlotNow.SlotStep.{Applying, Sweeping, Beginning, Freezing, Committing, Abandoning, Installing}
use Rattle.nm_slot.proofs.Facts.{Facts}
use Rattle.nm_slot.proofs.HistoryFacts.{facts_of, begins_now, is_swept_now}
use Rattle.nm_slot.proofs.HistoryLaws.{seen_ends}
use Rattle.nm_slot.proofs.Inversions.{is_source, phase_by, at_source, same_phase, changes_phase}
use Rattle.nm_slot.proofs.Kept.{next, froze_number, not_away, not_back, not_ended}
use Rattle.nm_slot.proofs.KeptHeld.{IsReady, is_ready, passed_to}
use Rattle.nm_slot.proofs.Updates.{put, put_there, put_elsewhere}

-- ---- the server of the step

pub column_at : (s : ℕ) (doing : Doing) (t : Seen) → column (phase_by s doing) t s ≡ Here doing t
column_at s Serves t = rw (eq-eqb s s refl) refl
column_at s (Closes dest number) t = rw (eq-eqb s s refl) refl
column_at s (Froze dest number) t = rw (eq-eqb s s refl) refl

-- what a source does with the state after the step
now_does : (p q : Phase) (t state : Seen) (s : ℕ) (step : SlotStep) (doing : Doing) → p ≡ q → s ≡ source_of q → after_at_source q step ≡ phase_by s doing
    → state ≡ t → Here doing state ≡ column (next p s step) t s
now_does p q t state s step doing e at does tables =
    ap (λ x. Here doing x) tables ∙ sym (column_at s doing t)
    ∙ ap (λ r. column r t s) (sym (ap (λ r. next r s step) e ∙ at_source q s step at ∙ does))

begun_follows : (p : Phase) (t : Seen) (s here dest n : ℕ) (own : Own) (stage : Stage) → column p t s ≡ stage → begin.Begun n ≡ begin_by here dest stage own
    → with_doing (Closes dest n) stage ≡ column (next p s (Beginning here dest (begin.Begun n))) t s
begun_follows p t s here dest n own Away e a = cc
begun_follows p t s here dest n own (Here (Closes to its) state) e a = cc
begun_follows p t s here dest n own (Here (Froze to its) state) e a = cc
begun_follows p t s here dest n own (Here Serves state) e a =
    let it = is_source p t s Serves state e in
    now_does p (At s) t state s (Beginning here dest (begin.Begun n)) (Closes dest n) it.phase refl refl it.tables

frozen_follows : (p : Phase) (t : Seen) (s n : ℕ) (own : Own) (stage : Stage) → column p t s ≡ stage → freeze.Frozen n ≡ freeze_by stage own
    → with_doing (Froze (dest_at stage) n) stage ≡ column (next p s (Freezing (freeze.Frozen n))) t s
frozen_follows p t s n own Away e a = cc
frozen_follows p t s n own (Here Serves state) e a = cc
frozen_follows p t s n own (Here (Closes dest number) state) e a =
    let it = is_source p t s (Closes dest number) state e in
    ap (λ k. Here (Froze dest k) state) (froze_number number n own (own.out == 0) a)
    ∙ now_does p (Closing s dest number) t state s (Freezing (freeze.Frozen n)) (Froze dest number) it.phase refl refl it.tables
frozen_follows p t s n own (Here (Froze dest number) state) e a =
    let it = is_source p t s (Froze dest number) state e in
    let same : n ≡ number = cc in
    ap (λ k. Here (Froze dest k) state) same
    ∙ now_does p (Frozen s dest number) t state s (Freezing (freeze.Frozen n)) (Froze dest number) it.phase refl refl it.tables

committed_follows : (p : Phase) (t : Seen) (s n : ℕ) (parties : List Party) (own : Own) (stage : Stage) → column p t s ≡ stage → Committed parties ≡ commit_by n stage own
    → Away ≡ column (next p s (Committing n (Committed parties))) t s
committed_follows p t s n parties own Away e a = absurd (not_away n parties own own.held a)
committed_follows p t s n parties own (Here Serves state) e a = cc
committed_follows p t s n parties own (Here (Closes dest number) state) e a = cc
committed_follows p t s n parties own (Here (Froze dest number) state) e a =
    let it = is_source p t s (Froze dest number) state e in
    ap (λ r. column r t s) (sym (ap (λ r. next r s (Committing n (Committed parties))) it.phase ∙ at_source (Frozen s dest number) s (Committing n (Committed parties)) refl))

back_follows : (p : Phase) (t : Seen) (s n : ℕ) (ends : List Party) (own : Own) (stage : Stage) → column p t s ≡ stage → abandon.Back n ≡ abandon_by stage own
    → with_doing Serves stage ≡ column (next p s (Abandoning ends (abandon.Back n))) t s
back_follows p t s n ends own Away e a = absurd (not_back n own.held own.left a)
back_follows p t s n ends own (Here Serves state) e a = cc
back_follows p t s n ends own (Here (Closes dest number) state) e a =
    let it = is_source p t s (Closes dest number) state e in
    now_does p (Closing s dest number) t state s (Abandoning ends (abandon.Back n)) Serves it.phase refl refl it.tables
back_follows p t s n ends own (Here (Froze dest number) state) e a =
    let it = is_source p t s (Froze dest number) state e in
    now_does p (Frozen s dest number) t state s (Abandoning ends (abandon.Back n)) Serves it.phase refl refl it.tables

now_follows : (p : Phase) (t : Seen) (s n : ℕ) (ends : List Party) (o : Option Offer) (stage : Stage) → IsReady p t s n o
    → stage_of_offer o stage ≡ column (next p s (Installing n ends install.Now)) t s
now_follows p t s n ends o stage ready =
    ap (λ x. stage_of_offer x stage) ready.holds ∙ ap (λ x. Here Serves x) ready.state ∙ sym (column_at s Serves t)
    ∙ ap (λ r. column r t s) (sym (passed_to p t s n ends o ready))

-- a call is an entry, and changes the state where the file system is
called_column : (p : Phase) (t : Seen) (s : ℕ) (event : Event) (reply : Reply) → stage_called event reply (column p t s) ≡ column p (after t event reply) s
called_column (At q) t s event reply = by_test (s == q)
  where
    by_test : (b : Bool) → stage_called event reply (cond b (Here Serves t) Away) ≡ cond b (Here Serves (after t event reply)) Away
    by_test true = refl
    by_test false = refl
called_column (Closing q dest number) t s event reply = by_test (s == q)
  where
    by_test : (b : Bool) → stage_called event reply (cond b (Here (Closes dest number) t) Away) ≡ cond b (Here (Closes dest number) (after t event reply)) Away
    by_test true = refl
    by_test false = refl
called_column (Frozen q dest number) t s event reply = by_test (s == q)
  where
    by_test : (b : Bool) → stage_called event reply (cond b (Here (Froze dest number) t) Away) ≡ cond b (Here (Froze dest number) (after t event reply)) Away
    by_test true = refl
    by_test false = refl
called_column (Passing q dest number) t s event reply = refl

-- the ends of instances change the state where the file system is
ended_column : (p : Phase) (t : Seen) (s : ℕ) (ends : List Party) → stage_ended ends (column p t s) ≡ column p (after_ends ends t) s
ended_column (At q) t s ends = by_test (s == q)
  where
    by_test : (b : Bool) → stage_ended ends (cond b (Here Serves t) Away) ≡ cond b (Here Serves (after_ends ends t)) Away
    by_test true = refl
    by_test false = refl
ended_column (Closing q dest number) t s ends = by_test (s == q)
  where
    by_test : (b : Bool) → stage_ended ends (cond b (Here (Closes dest number) t) Away) ≡ cond b (Here (Closes dest number) (after_ends ends t)) Away
    by_test true = refl
    by_test false = refl
ended_column (Frozen q dest number) t s ends = by_test (s == q)
  where
    by_test : (b : Bool) → stage_ended ends (cond b (Here (Froze dest number) t) Away) ≡ cond b (Here (Froze dest number) (after_ends ends t)) Away
    by_test true = refl
    by_test false = refl
ended_column (Passing q dest number) t s ends = refl

-- what stands at a server once instances have ended
ended_follows : (fs : ℕ) (grants : Bool) (entries : Past) (p : Phase) (s : ℕ) (ends : List Party) (stage : Stage) → stage ≡ column p (seen fs grants entries) s
    → stage_ended ends stage ≡ column p (seen fs grants (with_ends ends entries)) s
ended_follows fs grants entries p s ends stage e =
    ap (stage_ended ends) e ∙ ended_column p (seen fs grants entries) s ends ∙ ap (λ x. column p x s) (sym (seen_ends fs grants ends entries))

same_column : (p : Phase) (t : Seen) (s : ℕ) (step : SlotStep) → changes_phase step ≡ false → column p t s ≡ column (next p s step) t s
same_column p t s step e = ap (λ q. column q t s) (sym (same_phase p s step e))

stage_follows : (p : Phase) (begins : ℕ) (move : ℕ → Move) (own : ℕ → Own) (fs : ℕ) (grants : Bool) (entries : Past) (passes : List ℕ) (s : ℕ) (step : SlotStep)
    → IsAnswered (record { fs = fs; stage = column p (seen fs grants entries) s; own = own s }) step → IsDelivered move passes s step
    → Facts p begins move own (seen fs grants entries)
    → stage_after step (own s).held (column p (seen fs grants entries) s) ≡ column (next p s step) (seen fs grants (with_entry step entries)) s
unfolding apply_answer begin_answer freeze_answer commit_answer abandon_answer install_answer seen
stage_follows p begins move own fs grants entries passes s (Applying epoch lease call verdict ends (answer.Done place reply)) a d facts =
    ap (stage_called (Asked call verdict) reply) (ended_follows fs grants entries p s ends (column p (seen fs grants entries) s) refl)
    ∙ called_column p (seen fs grants (with_ends ends entries)) s (Asked call verdict) reply
    ∙ same_column p (after (seen fs grants (with_ends ends entries)) (Asked call verdict) reply) s (Applying epoch lease call verdict ends (answer.Done place reply)) refl
stage_follows p begins move own fs grants entries passes s (Sweeping party era ends sweep.Ended) a d facts =
    ended_follows fs grants entries p s ends (column p (seen fs grants entries) s) refl
    ∙ same_column p (seen fs grants (with_ends ends entries)) s (Sweeping party era ends sweep.Ended) refl
stage_follows p begins move own fs grants entries passes s (Beginning here dest (begin.Begun n)) a d facts =
    begun_follows p (seen fs grants entries) s here dest n (own s) (column p (seen fs grants entries) s) refl a
stage_follows p begins move own fs grants entries passes s (Freezing (freeze.Frozen n)) a d facts =
    frozen_follows p (seen fs grants entries) s n (own s) (column p (seen fs grants entries) s) refl a
stage_follows p begins move own fs grants entries passes s (Committing n (Committed parties)) a d facts =
    committed_follows p (seen fs grants entries) s n parties (own s) (column p (seen fs grants entries) s) refl a
stage_follows p begins move own fs grants entries passes s (Abandoning ends (abandon.Back n)) a d facts =
    ended_follows fs grants entries (next p s (Abandoning ends (abandon.Back n))) s ends (with_doing Serves (column p (seen fs grants entries) s))
    (back_follows p (seen fs grants entries) s n ends (own s) (column p (seen fs grants entries) s) refl a.0)
stage_follows p begins move own fs grants entries passes s (Installing n ends install.Now) a d facts =
    ended_follows fs grants entries (next p s (Installing n ends install.Now)) s ends (stage_of_offer (own s).held (column p (seen fs grants entries) s))
    (now_follows p (seen fs grants entries) s n ends (own s).held (column p (seen fs grants entries) s) (is_ready facts s n d.1 d.0 a.0))
stage_follows p begins move own fs grants entries passes s step a d facts = same_column p (seen fs grants entries) s step refl

-- a slot knows the destination of the move that is under way there
same_dest : (p : Phase) (t : Seen) (s : ℕ) → dest_at (column p t s) ≡ dest_from p s
same_dest (At q) t s = by_test (s == q)
  where
    by_test : (b : Bool) → dest_at (cond b (Here Serves t) Away) ≡ 0
    by_test true = refl
    by_test false = refl
same_dest (Closing q dest number) t s = by_test (s == q)
  where
    by_test : (b : Bool) → dest_at (cond b (Here (Closes dest number) t) Away) ≡ cond b dest 0
    by_test true = refl
    by_test false = refl
same_dest (Frozen q dest number) t s = by_test (s == q)
  where
    by_test : (b : Bool) → dest_at (cond b (Here (Froze dest number) t) Away) ≡ cond b dest 0
    by_test true = refl
    by_test false = refl
same_dest (Passing q dest number) t s = refl

pub own_slot : (home : Home) (h : List Moment) (x : Moment) → IsHistory home (x ∷ h)
    → slot_after (slot_now home h x.server) x.step ≡ slot_now home (x ∷ h) x.server
unfolding slot_after slot_now phase_now own_now entries_now
own_slot home h x it = λ i. record { fs = home.fs; stage = stage i; own = own i }
  where
    p : Phase
    p = phase_now home.first h

    owns : ℕ → Own
    owns s = own_now home.first h s

    stage : stage_after x.step (owns x.server).held (column p (tables_now home h) x.server)
        ≡ column (next p x.server x.step) (seen home.fs home.grants (with_entry x.step (entries_now h))) x.server
    stage = stage_follows p (begins_now h) (λ n. move_now h n) owns home.fs home.grants (entries_now h) (passes_now h x.server) x.server x.step
        it.0.answered it.0.delivered (facts_of home h it.1)

    own : own_after x.step (dest_at (column p (tables_now home h) x.server)) (owns x.server)
        ≡ put x.server (λ r. own_after x.step (dest_from p r) (owns r)) owns x.server
    own = ap (λ d. own_after x.step d (owns x.server)) (same_dest p (tables_now home h) x.server)
        ∙ sym (put_there x.server (λ r. own_after x.step (dest_from p r) (owns r)) owns)

-- ---- the other servers

pub away : (p : Phase) (t : Seen) (s : ℕ) → s ≢ source_of p → column p t s ≡ Away
away (At q) t s ne = rw (ne_eqb s q ne) refl
away (Closing q dest number) t s ne = rw (ne_eqb s q ne) refl
away (Frozen q dest number) t s ne = rw (ne_eqb s q ne) refl
away (Passing q dest number) t s ne = refl

pub same_source : (p : Phase) (step : SlotStep) → source_of (after_at_source p step) ≡ source_of p
same_source (At q) (Beginning here dest (begin.Begun number)) = refl
same_source (At q) _ = refl
same_source (Closing q dest number) (Freezing (freeze.Frozen its)) = refl
same_source (Closing q dest number) (Abandoning ends (abandon.Back its)) = refl
same_source (Closing q dest number) _ = refl
same_source (Frozen q dest number) (Committing its (Committed parties)) = refl
same_source (Frozen q dest number) (Abandoning ends (abandon.Back its)) = refl
same_source (Frozen q dest number) _ = refl
same_source (Passing q dest number) step = refl

passed_elsewhere : (q dest number r its s : ℕ) (t : Seen) → s ≢ r → (same number_too : Bool) → (r == dest) ≡ same
    → column (cond (same && number_too) (At dest) (Passing q dest number)) t s ≡ Away
passed_elsewhere q dest number r its s t ne true true e = away (At dest) t s (λ at. ne (at ∙ sym (eqb-true r dest e)))
passed_elsewhere q dest number r its s t ne true false e = refl
passed_elsewhere q dest number r its s t ne false b e = refl

column_elsewhere : (p : Phase) (r s : ℕ) (step : SlotStep) (t : Seen) → s ≢ r → column (after_elsewhere p r step) t s ≡ column p t s
column_elsewhere (At q) r s step t ne = refl
column_elsewhere (Closing q dest number) r s step t ne = refl
column_elsewhere (Frozen q dest number) r s step t ne = refl
column_elsewhere (Passing q dest number) r s (Installing its ends install.Now) t ne = passed_elsewhere q dest number r its s t ne (r == dest) (its == number) refl
column_elsewhere (Passing q dest number) r s _ t ne = refl

column_of_others : (p : Phase) (r s : ℕ) (step : SlotStep) (t : Seen) → s ≢ r → column (next p r step) t s ≡ column p t s
column_of_others p r s step t ne = by_test (r == source_of p) refl
  where
    by_test : (b : Bool) → (r == source_of p) ≡ b → column (cond b (after_at_source p step) (after_elsewhere p r step)) t s ≡ column p t s
    by_test true e =
        let apart : s ≢ source_of p = λ at. ne (at ∙ sym (eqb-true r (source_of p) e)) in
        away (after_at_source p step) t s (λ at. apart (at ∙ same_source p step)) ∙ sym (away p t s apart)
    by_test false e = column_elsewhere p r s step t ne

pub source_by : (r : ℕ) (doing : Doing) → source_of (phase_by r doing) ≡ r
source_by r Serves = refl
source_by r (Closes dest number) = refl
source_by r (Froze dest number) = refl

-- where calls are carried out at a server, no other has the state
staged_elsewhere : (p : Phase) (t new : Seen) (r s : ℕ) (stage : Stage) → column p t r ≡ stage → is_staged stage ≡ true → s ≢ r → column p new s ≡ column p t s
staged_elsewhere p t new r s Away e staged ne = cc
staged_elsewhere p t new r s (Here doing state) e staged ne =
    let apart : s ≢ source_of p = λ at. ne (at ∙ ap source_of (is_source p t r doing state e).phase ∙ source_by r doing) in
    away p new s apart ∙ sym (away p t s apart)

-- a server that takes a call, ends rows or gives its move up has the state
is_called : (epoch place : ℕ) (lease : Option LeasePass) (call : Call) (verdict : Verdict) (reply : Reply) (own : Own) (stage : Stage)
    → answer.Done place reply ≡ applied epoch lease call verdict stage own → is_staged stage ≡ true
is_called epoch place lease call verdict reply own Away a = cc
is_called epoch place lease call verdict reply own (Here doing state) a = refl

is_swept : (party : Party) (own : Own) (stage : Stage) → sweep.Ended ≡ swept_at party stage own → is_staged stage ≡ true
is_swept party own Away a = absurd (not_ended party own.held a)
is_swept party own (Here doing state) a = refl

is_back : (n : ℕ) (own : Own) (stage : Stage) → abandon.Back n ≡ abandon_by stage own → is_staged stage ≡ true
is_back n own Away a = absurd (not_back n own.held own.left a)
is_back n own (Here doing state) a = refl

-- what is installed was handed over
record PassedFrom (p : Phase) (n : ℕ) : Type 0 where
  source : ℕ
  dest : ℕ
  is_passing : p ≡ Passing source dest n

abbrev WasPassing : Phase → SlotStep → Type 0
WasPassing p (Installing n ends install.Now) = PassedFrom p n
WasPassing p _ = Unit {0}

was_passing : (p : Phase) (begins : ℕ) (move : ℕ → Move) (own : ℕ → Own) (t : Seen) (fs : ℕ) (passes : List ℕ) (s : ℕ) (step : SlotStep) → Facts p begins move own t
    → IsAnswered (record { fs = fs; stage = column p t s; own = own s }) step → IsDelivered move passes s step → WasPassing p step
unfolding install_answer
was_passing p begins move own t fs passes s (Installing n ends install.Now) facts a d =
    let ready = is_ready facts s n d.1 d.0 a.0 in
    record { source = ready.source; dest = s; is_passing = ready.phase }
was_passing p begins move own t fs passes s _ facts a d = tt

tables_of_others : (p : Phase) (fs : ℕ) (grants : Bool) (entries : Past) (r s : ℕ) (own : Own) (step : SlotStep)
    → IsAnswered (record { fs = fs; stage = column p (seen fs grants entries) r; own = own }) step → WasPassing p step → s ≢ r
    → column p (seen fs grants (with_entry step entries)) s ≡ column p (seen fs grants entries) s
unfolding apply_answer sweep_answer abandon_answer
tables_of_others p fs grants entries r s own (Applying epoch lease call verdict ends (answer.Done place reply)) a passing ne =
    staged_elsewhere p (seen fs grants entries) (seen fs grants (with_entry (Applying epoch lease call verdict ends (answer.Done place reply)) entries)) r s
    (column p (seen fs grants entries) r) refl (is_called epoch place lease call verdict reply own (column p (seen fs grants entries) r) a.0) ne
tables_of_others p fs grants entries r s own (Sweeping party era ends sweep.Ended) a passing ne =
    staged_elsewhere p (seen fs grants entries) (seen fs grants (with_ends ends entries)) r s
    (column p (seen fs grants entries) r) refl
    (is_swept party own (column p (seen fs grants entries) r) (is_swept_now (is_past party era own) party (column p (seen fs grants entries) r) own a.0)) ne
tables_of_others p fs grants entries r s own (Abandoning ends (abandon.Back n)) a passing ne =
    staged_elsewhere p (seen fs grants entries) (seen fs grants (with_ends ends entries)) r s
    (column p (seen fs grants entries) r) refl (is_back n own (column p (seen fs grants entries) r) a.0) ne
tables_of_others p fs grants entries r s own (Installing n ends install.Now) a passing ne =
    ap (λ q. column q (seen fs grants (with_ends ends entries)) s) passing.is_passing ∙ ap (λ q. column q (seen fs grants entries) s) (sym passing.is_passing)
tables_of_others p fs grants entries r s own _ a passing ne = refl

pub other_slots : (home : Home) (h : List Moment) (x : Moment) → IsHistory home (x ∷ h)
    → (s : ℕ) → s ≢ x.server → slot_now home (x ∷ h) s ≡ slot_now home h s
unfolding slot_now phase_now own_now entries_now
other_slots home h x it s ne = λ i. record { fs = home.fs; stage = stage i; own = own i }
  where
    p : Phase
    p = phase_now home.first h

    owns : ℕ → Own
    owns r = own_now home.first h r

    stage : column (next p x.server x.step) (seen home.fs home.grants (with_entry x.step (entries_now h))) s ≡ column p (tables_now home h) s
    stage = column_of_others p x.server s x.step (seen home.fs home.grants (with_entry x.step (entries_now h))) ne
        ∙ tables_of_others p home.fs home.grants (entries_now h) x.server s (owns x.server) x.step it.0.answered
        (was_passing p (begins_now h) (λ n. move_now h n) owns (tables_now home h) home.fs (passes_now h x.server) x.server x.step (facts_of home h it.1)
        it.0.answered it.0.delivered) ne

    own : put x.server (λ r. own_after x.step (dest_from p r) (owns r)) owns s ≡ owns s
    own = put_elsewhere x.server s (λ r. own_after x.step (dest_from p r) (owns r)) owns (λ e. ne (sym e))
