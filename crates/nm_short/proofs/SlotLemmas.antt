-- A step of one of the slots.
use Rattle.std.proofs.Common.{◌≡◌, ◌<◌, ◌≤◌, ◌+◌, ◌++◌, [], ◌∷◌, replicate, ℕ, Bool, true, false, eqb, List, Option, Some, None, map, length, get_or, set, refl, ap, sym, ◌∙◌, arith, inl, inr, subst}
use Rattle.std.specs.Prelude.{◌≢◌, IfSome, slice_get, slice_set, option_map}
use Rattle.std.proofs.lemmas.Bool.Decides.{nat_tests}
use Rattle.std.proofs.lemmas.List.{map-set, map_push, set_past, length-map, length-set, length-replicate, replicate_more, get_or-map, get_or-replicate, get_or-set_other}
use Rattle.std.proofs.lemmas.Bool.{false≢true}
use Rattle.std.proofs.lemmas.Grind.{get_or-set_at}
use Rattle.std.proofs.lemmas.Option.{slice_get-map, slice_get_read, slice_get_past}
use Rattle.nm_types.specs.declared.calls.Call.{Call}
use Rattle.nm_types.specs.declared.calls.Verdict.{Verdict}
use Rattle.nm_slot.specs.declared.answers.Abandon.TheVariants as abandon
use Rattle.nm_slot.specs.declared.answers.Answer.TheVariants as answer
use Rattle.nm_slot.specs.declared.answers.Begin.TheVariants as begin
use Rattle.nm_slot.specs.declared.answers.Enter.TheVariants as enter
use Rattle.nm_slot.specs.declared.answers.Freeze.TheVariants as freeze
use Rattle.nm_slot.specs.declared.phase.Phase.TheVariants as phase
use Rattle.nm_slot.specs.Answers.{enter_answer, apply_answer, begin_answer, freeze_answer, image_answer, commit_answer, abandon_answer}
use Rattle.nm_slot.specs.Changes.{slot_after}
use Rattle.nm_slot.specs.declared.image.Image.{Image}
use Rattle.nm_slot.specs.Images.{MayBeOffered}
use Rattle.nm_slot.specs.Kept.{IsKeptOrSpent}
use Rattle.nm_slot.specs.Shown.{table_answer}
use Rattle.nm_slot.specs.SlotNow.{SlotNow, SlotView, SlotStep, phase_of}
use Rattle.nm_slot.specs.SlotNow.HandedOver.{Dead}
use Rattle.nm_short.specs.Tables.{no_part, first_slot, first_slots}
use Rattle.nm_short.specs.Slots.{SlotsNow, view_of, slot_at, slots_after, AreOf}

pub slot_within : (fs : ℕ) (slots : List SlotNow) (s : ℕ) (slot : SlotNow) → s < length slots → slot ≡ get_or slots s slot
    → slot_at (record { fs = fs; views = map view_of slots }) s ≡ slot.view
unfolding slot_at
slot_within fs slots s slot below is =
    let found : slice_get (map view_of slots) s ≡ Some slot.view =
    slice_get-map view_of slots s ∙ ap (option_map view_of) (slice_get_read slots (length slots) s slot refl below is)
    in rw found refl

pub slot_past : (fs : ℕ) (slots : List SlotNow) (s : ℕ) → length slots ≤ s
    → slot_at (record { fs = fs; views = map view_of slots }) s ≡ no_part fs
unfolding slot_at
slot_past fs slots s past =
    let none : slice_get (map view_of slots) s ≡ None =
    slice_get-map view_of slots s ∙ ap (option_map view_of) (slice_get_past slots s past)
    in rw none refl

pub enter_past : (fs : ℕ) (slots : List SlotNow) (s : ℕ) → length slots ≤ s
    → enter_answer (slot_at (record { fs = fs; views = map view_of slots }) s) ≡ enter.Unknown
unfolding enter_answer
enter_past fs slots s past = ap enter_answer (slot_past fs slots s past)

pub apply_past : (fs : ℕ) (slots : List SlotNow) (s epoch : ℕ) (call : Call) (verdict : Verdict) → length slots ≤ s
    → apply_answer (slot_at (record { fs = fs; views = map view_of slots }) s) epoch None call verdict ≡ answer.Strayed epoch 0
unfolding apply_answer
apply_past fs slots s epoch call verdict past = ap (λ v. apply_answer v epoch None call verdict) (slot_past fs slots s past)

pub begin_past : (fs : ℕ) (slots : List SlotNow) (s here dest : ℕ) → length slots ≤ s
    → begin_answer (slot_at (record { fs = fs; views = map view_of slots }) s) here dest ≡ begin.NotServed
unfolding begin_answer
begin_past fs slots s here dest past = ap (λ v. begin_answer v here dest) (slot_past fs slots s past)

pub freeze_past : (fs : ℕ) (slots : List SlotNow) (s : ℕ) → length slots ≤ s
    → freeze_answer (slot_at (record { fs = fs; views = map view_of slots }) s) ≡ freeze.Idle
unfolding freeze_answer
freeze_past fs slots s past = ap freeze_answer (slot_past fs slots s past)

pub image_past : (fs : ℕ) (slots : List SlotNow) (s : ℕ) → length slots ≤ s
    → image_answer (slot_at (record { fs = fs; views = map view_of slots }) s) ≡ None
unfolding image_answer
image_past fs slots s past = ap image_answer (slot_past fs slots s past)

pub commit_past : (fs : ℕ) (slots : List SlotNow) (s number : ℕ) → length slots ≤ s
    → commit_answer (slot_at (record { fs = fs; views = map view_of slots }) s) number ≡ Dead 0
unfolding commit_answer
commit_past fs slots s number past = ap (λ v. commit_answer v number) (slot_past fs slots s past)

pub abandon_past : (fs : ℕ) (slots : List SlotNow) (s : ℕ) → length slots ≤ s
    → abandon_answer (slot_at (record { fs = fs; views = map view_of slots }) s) ≡ abandon.Idle
unfolding abandon_answer
abandon_past fs slots s past = ap abandon_answer (slot_past fs slots s past)

pub phase_past : (fs : ℕ) (slots : List SlotNow) (s : ℕ) → length slots ≤ s
    → phase_of (slot_at (record { fs = fs; views = map view_of slots }) s) ≡ phase.Never
unfolding phase_of
phase_past fs slots s past = ap phase_of (slot_past fs slots s past)

pub table_past : (fs : ℕ) (slots : List SlotNow) (s : ℕ) → length slots ≤ s
    → table_answer (slot_at (record { fs = fs; views = map view_of slots }) s) ≡ None
unfolding table_answer
table_past fs slots s past = ap table_answer (slot_past fs slots s past)

pub after_within : (fs : ℕ) (slots : List SlotNow) (s : ℕ) (slot new : SlotNow) (step : SlotStep) → s < length slots → slot ≡ get_or slots s slot
    → new.view ≡ slot_after slot.view step
    → ◌≡◌ {A = SlotsNow} (record { fs = fs; views = map view_of (set slots s new) }) (slots_after (record { fs = fs; views = map view_of slots }) s step)
unfolding slots_after
after_within fs slots s slot new step below is stepped =
    let its : slot_at (record { fs = fs; views = map view_of slots }) s ≡ slot.view = slot_within fs slots s slot below is in
    rw (map-set view_of slots s new, stepped, its) refl

pub after_past : (fs : ℕ) (slots : List SlotNow) (s : ℕ) (step : SlotStep) → length slots ≤ s
    → ◌≡◌ {A = SlotsNow} (slots_after (record { fs = fs; views = map view_of slots }) s step) (record { fs = fs; views = map view_of slots })
unfolding slots_after
after_past fs slots s step past =
    let same : slice_set (map view_of slots) s (slot_after (slot_at (record { fs = fs; views = map view_of slots }) s) step) ≡ map view_of slots =
    set_past (map view_of slots) s _ (rw (length-map slots view_of) past)
    in rw same refl

is_of : (fs : ℕ) (slots : List SlotNow) (s : ℕ) (slot : SlotNow) → s < length slots → slot ≡ get_or slots s slot
    → AreOf fs slots → slot.spent ≡ false → slot.view.fs ≡ fs
is_of fs slots s slot below is are unspent =
    let there : (get_or slots s slot).spent ≡ false → (get_or slots s slot).view.fs ≡ fs = are.each s slot below in
    ap (λ (it : SlotNow). it.view.fs) is ∙ there (ap (λ (it : SlotNow). it.spent) (sym is) ∙ unspent)

-- a slot in the place of one
still_of : (fs : ℕ) (slots : List SlotNow) (s : ℕ) (new : SlotNow) → AreOf fs slots → (new.spent ≡ false → new.view.fs ≡ fs)
    → AreOf fs (set slots s new)
still_of fs slots s new are its = record {
  each = λ k d below. at_place (eqb k s) k d refl (rw (length-set slots s new) at below);
}
  where
    at_place : (b : Bool) (k : ℕ) (d : SlotNow) → eqb k s ≡ b → k < length slots
        → (get_or (set slots s new) k d).spent ≡ false → (get_or (set slots s new) k d).view.fs ≡ fs
    at_place true k d same below =
        let place : k ≡ s = grind (arith, nat_tests, same) in
        let there : get_or (set slots s new) k d ≡ new = get_or-set_at slots s k new d place (omega (arith, place, below)) in
        rw there its
    at_place false k d other below =
        let place : k ≢ s = grind (arith, nat_tests, other) in
        let there : get_or (set slots s new) k d ≡ get_or slots k d = get_or-set_other slots s k new d place in
        rw there (are.each k d below)

-- after a step that keeps what was spent
pub stepped_of : (fs : ℕ) (slots : List SlotNow) (s : ℕ) (slot new : SlotNow) (step : SlotStep) → AreOf fs slots → s < length slots
    → slot ≡ get_or slots s slot → new.view ≡ slot_after slot.view step → new.spent ≡ slot.spent → AreOf fs (set slots s new)
unfolding slot_after
stepped_of fs slots s slot new step are below is after spent = still_of fs slots s new are
    (λ unspent. ap (λ (v : SlotView). v.fs) after ∙ is_of fs slots s slot below is are (sym spent ∙ unspent))

-- after a step of a slot that wasn't spent
pub unspent_of : (fs : ℕ) (slots : List SlotNow) (s : ℕ) (slot new : SlotNow) (step : SlotStep) → AreOf fs slots → s < length slots
    → slot ≡ get_or slots s slot → new.view ≡ slot_after slot.view step → slot.spent ≡ false → AreOf fs (set slots s new)
unfolding slot_after
unspent_of fs slots s slot new step are below is after unspent = still_of fs slots s new are
    (λ _. ap (λ (v : SlotView). v.fs) after ∙ is_of fs slots s slot below is are unspent)

-- after want of memory in a step
pub spent_of : (fs : ℕ) (slots : List SlotNow) (s : ℕ) (slot new : SlotNow) → AreOf fs slots → s < length slots
    → slot ≡ get_or slots s slot → IsKeptOrSpent slot new → AreOf fs (set slots s new)
spent_of fs slots s slot new are below is (inl same) = still_of fs slots s new are
    (λ unspent. ap (λ (it : SlotNow). it.view.fs) same ∙ is_of fs slots s slot below is are (sym (ap (λ (it : SlotNow). it.spent) same) ∙ unspent))
spent_of fs slots s slot new are below is (inr spent) = still_of fs slots s new are
    (λ unspent. absurd (false≢true (sym unspent ∙ spent.spent)))

pub is_here : (fs : ℕ) (slots : List SlotNow) (s : ℕ) (slot : SlotNow) (image : Option Image) → AreOf fs slots → s < length slots
    → slot ≡ get_or slots s slot → slot.spent ≡ false → IfSome image (MayBeOffered slot.view.fs) → IfSome image (MayBeOffered fs)
is_here fs slots s slot image are below is unspent offered =
    subst (λ n. IfSome image (MayBeOffered n)) (is_of fs slots s slot below is are unspent) offered

-- one more slot without a part
pub one_more : (fs n : ℕ) (slots : List SlotNow) (new : SlotNow) → map view_of slots ≡ replicate n (no_part fs) → new.view ≡ no_part fs
    → map view_of (slots ++ new ∷ []) ≡ replicate (n + 1) (no_part fs)
one_more fs n slots new so_far is =
    map_push view_of slots new ∙ ap (λ rows. rows ++ new.view ∷ []) so_far ∙ ap (λ (v : SlotView). replicate n (no_part fs) ++ v ∷ []) is
    ∙ replicate_more n (no_part fs)

-- slots without a part are of their file system
pub no_parts_of : (fs n : ℕ) (slots : List SlotNow) → map view_of slots ≡ replicate n (no_part fs) → AreOf fs slots
no_parts_of fs n slots is = record {
  each = λ k d below unspent.
      let many : length slots ≡ n = sym (length-map slots view_of) ∙ ap length is ∙ length-replicate n (no_part fs) in
      let view : (get_or slots k d).view ≡ no_part fs =
      sym (get_or-map view_of slots k d (no_part fs) below) ∙ ap (λ rows. get_or rows k (no_part fs)) is ∙ get_or-replicate n k (no_part fs) (no_part fs) (omega (arith, below, many))
      in ap (λ (v : SlotView). v.fs) view;
}

pub first_of : (fs n s : ℕ) (slots : List SlotNow) (new : SlotNow) → map view_of slots ≡ replicate n (no_part fs) → new.view ≡ first_slot fs
    → AreOf fs (set slots s new)
first_of fs n s slots new is first = still_of fs slots s new (no_parts_of fs n slots is) (λ _. ap (λ (v : SlotView). v.fs) first)

first_is : (fs n s : ℕ) (slots : List SlotNow) (new : SlotNow) → map view_of slots ≡ replicate n (no_part fs) → new.view ≡ first_slot fs
    → map view_of (set slots s new) ≡ first_slots n fs s
first_is fs n s slots new is first =
    map-set view_of slots s new ∙ ap (λ rows. set rows s new.view) is ∙ ap (set (replicate n (no_part fs)) s) first

pub slots_first : (fs n at s : ℕ) (slots : List SlotNow) (new : SlotNow) → s ≡ at → map view_of slots ≡ replicate n (no_part fs) → new.view ≡ first_slot fs
    → ◌≡◌ {A = SlotsNow} (record { fs = fs; views = map view_of (set slots s new) }) (record { fs = fs; views = first_slots n fs at })
slots_first fs n at s slots new here is first =
    ap (λ (views : List SlotView). record { fs = fs; views = views }) (first_is fs n s slots new is first ∙ ap (first_slots n fs) here)

-- what the steps of slots go by
pub ruleset of_slots = (slot_within, slot_past, after_within, after_past)
