-- A freeze is the same over tables as over steps: the offer is sent to where its move goes.
use Rattle.std.proofs.Common.{◌≡◌, ℕ, Option, Some, None, refl, sym, subst, ap, ◌∙◌}
use Rattle.std.specs.Prelude.{option_map, slice_set}
use Rattle.std.proofs.lemmas.List.{set-get_or}
use Rattle.std.proofs.lemmas.Option.{unwrap_or-slice_get}
use Rattle.nm_rules.specs.Seen.{Seen}
use Rattle.nm_script.specs.declared.script.Head.{Head}
use Rattle.nm_slot.specs.declared.answers.Freeze.{Freeze}
use Rattle.nm_slot.specs.declared.answers.Freeze.TheVariants as freeze
use Rattle.nm_slot.specs.declared.phase.Phase.{Phase as SlotPhase}
use Rattle.nm_slot.specs.declared.phase.Phase.TheVariants as slot_phase
use Rattle.nm_slot.specs.Answers.{freeze_answer, image_answer, offered}
use Rattle.nm_slot.specs.Changes.{slot_after}
use Rattle.nm_slot.specs.History.{own_now, tables_now, slot_now}
use Rattle.nm_slot.specs.Moves.{Move, Sent, move_now, sent_by, latest_offer, latest_handed}
use Rattle.nm_slot.specs.Phases.{Phase, column}
use Rattle.nm_slot.specs.Phases.Phase.{Frozen}
use Rattle.nm_slot.specs.SlotNow.{Stage, Offer, Own, SlotView, phase_of, phase_at, phase_away}
use Rattle.nm_slot.specs.SlotNow.Doing.{Serves, Closes, Froze}
use Rattle.nm_slot.specs.SlotNow.Stage.{Away, Here}
use Rattle.nm_slot.specs.SlotNow.SlotStep.{Freezing, Imaging}
use Rattle.nm_slot.proofs.Facts.{Facts}
use Rattle.nm_slot.proofs.Inversions.{is_source}
use Rattle.nm_slot.proofs.HistoryFacts.{begins_now, facts_of}
use Rattle.nm_short.specs.ShortRun.{FileNow, at_server, did, source, phase_of_file, goes_well, after_freeze, freezes, offers_at}
use Rattle.nm_short.specs.Tables.{FileTables, SentTo, no_part, slot_in, stepped, sends, offers_in, goes_well_to, freeze_to, freezes_to}
use Rattle.nm_short.proofs.OrderLaws.{IsWent, well_same, ends_same, kept_inside, source_within}
use Rattle.nm_short.proofs.StepWords.{by_number}
use Rattle.nm_short.proofs.Standing.{Stands, Comes, sent_as, handed_as, with_sent, offer_stays, handed_stays, plain_stands, stands_by, source_stays}

sends_none : (s : ℕ) (phase : SlotPhase) (before : Option SentTo) → sends s phase None before ≡ before
sends_none s slot_phase.Never before = refl
sends_none s slot_phase.Serving before = refl
sends_none s (slot_phase.Closing dest number) before = refl
sends_none s (slot_phase.Frozen dest number) before = refl
sends_none s (slot_phase.Gone dest epoch) before = refl
sends_none s (slot_phase.Incoming epoch number) before = refl

-- The offer goes where its move goes. `move` is as before, and `after` as after it is sent.
image_sends : (p : Phase) (begins : ℕ) (move after : ℕ → Move) (all : ℕ → Own) (t : Seen) (s : ℕ) (own : Own) (stage : Stage) (before : Option SentTo) (sent : Option Sent)
    → column p t s ≡ stage → Facts p begins move all t → ((k : ℕ) → (after k).dest ≡ (move k).dest) → before ≡ option_map (sent_as after) sent
    → sends s (phase_at stage own) (offered stage own) before ≡ option_map (sent_as after) (sent_by s (Imaging (offered stage own)) sent)
image_sends p begins move after all t s own Away before sent e facts same was = sends_none s (phase_away own.held own.left own.epoch) before ∙ was
image_sends p begins move after all t s own (Here Serves state) before sent e facts same was = was
image_sends p begins move after all t s own (Here (Closes dest number) state) before sent e facts same was = was
image_sends p begins move after all t s own (Here (Froze dest number) state) before sent e facts same was =
    let it = is_source p t s (Froze dest number) state e in
    let here : Facts (Frozen s dest number) begins move all t = subst (λ q. Facts q begins move all t) it.phase facts in
    let goes : (after number).dest ≡ dest = same number ∙ here.offers.goes_to in
    rw goes refl

image_dest : (s : ℕ) (a : Option Offer) (f : FileNow) (k : ℕ) → (move_now (did f s (Imaging a)).moments k).dest ≡ (move_now f.moments k).dest
unfolding move_now
image_dest s None f k = refl
image_dest s (Some offer) f k =
    by_number offer.number k (λ m. m.dest) (move_now f.moments k).dest (record (move_now f.moments k) { offer = Some offer }) (move_now f.moments k) refl refl

image_told : (s : ℕ) (a : Option Offer) (f : FileNow) → latest_handed (did f s (Imaging a)).moments ≡ latest_handed f.moments
unfolding latest_handed
image_told s a f = refl

image_sent : (n : ℕ) (f : FileNow) (t : FileTables) → Stands n f t
    → sends (source f) (phase_of (at_server f (source f))) (image_answer (at_server f (source f))) t.offer
    ≡ option_map (sent_as (move_now (offers_at f (source f)).moments)) (latest_offer (offers_at f (source f)).moments)
unfolding image_answer phase_of latest_offer slot_now
image_sent n f t stands =
    let s : ℕ = source f in
    let has = facts_of f.home f.moments stands.history in
    image_sends (phase_of_file f) (begins_now f.moments) (move_now f.moments) (move_now (offers_at f s).moments) (own_now f.home.first f.moments) (tables_now f.home f.moments) s
    (own_now f.home.first f.moments s) (column (phase_of_file f) (tables_now f.home f.moments) s) t.offer (latest_offer f.moments)
    refl has (image_dest s (image_answer (at_server f s)) f)
    (offer_stays n f t s (Imaging (image_answer (at_server f s))) stands (record { answered = refl; delivered = tt }))

-- an offer leaves each slot as it was
image_slots : (t : FileTables) (s : ℕ) (a : Option Offer) → (stepped t s (Imaging a)).slots ≡ t.slots
unfolding stepped slot_in slot_after
image_slots t s a =
    ap (λ (v : SlotView). slice_set t.slots s v) (unwrap_or-slice_get t.slots s (no_part t.fs))
    ∙ set-get_or t.slots s (no_part t.fs)

offers_same : (n : ℕ) (f : FileNow) (t : FileTables) → Stands n f t → Stands n (offers_at f (source f)) (offers_in t)
unfolding offers_in stepped
offers_same n f t stands =
    let s : ℕ = source f in
    let a : Option Offer = image_answer (at_server f s) in
    let comes : Comes f s (Imaging a) = record { answered = refl; delivered = tt } in
    let after : Stands n (offers_at f s) (with_sent (stepped t s (Imaging a)) t.at (sends s (phase_of (at_server f s)) a t.offer) t.handed) =
    stands_by n f t s (Imaging a) t.at (sends s (phase_of (at_server f s)) a t.offer) t.handed stands comes
    (kept_inside n f t s (Imaging a) stands (source_within n f t stands)) tt
    (stands.at ∙ source_stays f s (Imaging a) refl) stands.within
    (image_sent n f t stands)
    (handed_stays n f t s (Imaging a) stands comes ∙ ap (option_map (handed_as (move_now (did f s (Imaging a)).moments))) (sym (image_told s a f))) in
    subst (λ x. Stands n (offers_at f s) (record t { offer = sends x (phase_of (slot_in t x)) (image_answer (slot_in t x)) t.offer })) (sym stands.at)
    (subst (λ v. Stands n (offers_at f s) (record t { offer = sends s (phase_of v) (image_answer v) t.offer })) (sym (stands.slots s))
    (subst (λ slots. Stands n (offers_at f s) (record t { slots = slots; offer = sends s (phase_of (at_server f s)) a t.offer })) (image_slots t s a) after))

freeze_same : (n : ℕ) (head : Head) (s : ℕ) (a : Freeze) (f : FileNow) (t : FileTables) → s ≡ source f → Stands n f t
    → IsWent n (after_freeze head f s a) (freeze_to head t a)
unfolding after_freeze freeze_to
freeze_same n head s (freeze.Frozen number) f t at stands =
    subst (λ x. IsWent n (goes_well head (offers_at f x)) (goes_well_to head (offers_in t))) (sym at)
    (well_same n head (offers_at f (source f)) (offers_in t) (offers_same n f t stands))
freeze_same n head s (freeze.Waiting passes) f t at stands = ends_same n head f t _ stands
freeze_same n head s freeze.Idle f t at stands = ends_same n head f t _ stands

pub freezes_same : (n : ℕ) (head : Head) (f : FileNow) (t : FileTables) → Stands n f t → IsWent n (freezes head f) (freezes_to head t)
unfolding freezes freezes_to
freezes_same n head f t stands =
    let s : ℕ = source f in
    let a : Freeze = freeze_answer (at_server f s) in
    subst (λ x. IsWent n (freezes head f) (freeze_to head (stepped t x (Freezing (freeze_answer (slot_in t x)))) (freeze_answer (slot_in t x)))) (sym stands.at)
    (subst (λ v. IsWent n (freezes head f) (freeze_to head (stepped t s (Freezing (freeze_answer v))) (freeze_answer v))) (sym (stands.slots s))
    (freeze_same n head s a (did f s (Freezing a)) (stepped t s (Freezing a)) (source_stays f s (Freezing a) refl)
    (plain_stands n f t s (Freezing a) stands (record { answered = refl; delivered = tt })
    (kept_inside n f t s (Freezing a) stands (source_within n f t stands)) tt refl)))
