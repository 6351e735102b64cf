-- Laws of the definitions, in the code's parts.
use Rattle.std.proofs.Common.{◌≡◌, ℕ, suc, ◌+◌, ◌-◌, ◌<◌, ◌≤◌, List, [], Option, Some, None, refl, ap, sym, ◌∙◌, arith}
use Rattle.std.specs.Prelude.{unwrap_or}
use Rattle.std.proofs.lemmas.Option.{none-some, same_Some}
use Rattle.nm_types.specs.declared.table.HeldRow.{HeldRow}
use Rattle.nm_script.specs.declared.script.Head.{Head}
use Rattle.nm_slot.specs.declared.answers.Accept.{Accept}
use Rattle.nm_slot.specs.declared.answers.Accept.TheVariants as accept
use Rattle.nm_slot.specs.declared.answers.Enter.{Enter}
use Rattle.nm_slot.specs.declared.answers.Enter.TheVariants as enter
use Rattle.nm_slot.specs.declared.phase.Phase.{Phase as SlotPhase}
use Rattle.nm_slot.specs.Answers.{accept_answer, enter_answer}
use Rattle.nm_slot.specs.Shown.{table_answer, table_at}
use Rattle.nm_slot.specs.SlotNow.{Offer, Own, Stage, SlotView, phase_of}
use Rattle.nm_slot.specs.SlotNow.Stage.{Away, Here}
use Rattle.nm_slot.specs.SlotNow.SlotStep.{Accepting, Entering}
use Rattle.nm_short.specs.Files.{accepted_in, sent_answer, delivered, accept_told, sent_on}
use Rattle.nm_short.specs.Tables.{FileTables, SentTo, KnockedTo, knocks_to, slot_in, stepped, accept_to, delivers_to, stage_table, shown_table, shower}

table_same : (stage : Stage) (own : Own) (held : Option Offer) → own.held ≡ held → stage_table stage held ≡ table_at stage own
table_same (Here doing state) own held is = refl
table_same Away own None is = rw is refl
table_same Away own (Some offer) is = rw is refl

-- what the server shows that shows it
shown_is : (f : FileTables) (at server : ℕ) (its_phase : SlotPhase) (table : Option (List HeldRow)) → at ≡ f.at → its_phase ≡ phase_of (slot_in f at)
    → server ≡ shower f its_phase → table ≡ table_answer (slot_in f server) → unwrap_or table [] ≡ shown_table f
unfolding shown_table table_answer
shown_is f at server its_phase table here phased showing is =
    let there : server ≡ shower f (phase_of (slot_in f f.at)) = showing ∙ ap (shower f) (phased ∙ ap (λ s. phase_of (slot_in f s)) here) in
    let v : SlotView = slot_in f (shower f (phase_of (slot_in f f.at))) in
    ap (λ it. unwrap_or it []) (is ∙ ap (λ s. table_answer (slot_in f s)) there ∙ sym (table_same v.stage v.own v.own.held refl))

pub shown_some : (f : FileTables) (at server : ℕ) (its_phase : SlotPhase) (given : Option (List HeldRow)) (table : List HeldRow) → at ≡ f.at → its_phase ≡ phase_of (slot_in f at)
    → server ≡ shower f its_phase → given ≡ table_answer (slot_in f server) → given ≡ Some table → table ≡ shown_table f
shown_some f at server its_phase given table here phased showing is some =
    ap (λ it. unwrap_or it []) (sym some) ∙ shown_is f at server its_phase given here phased showing is

pub shown_none : (f : FileTables) (at server : ℕ) (its_phase : SlotPhase) (given : Option (List HeldRow)) (table : List HeldRow) → at ≡ f.at → its_phase ≡ phase_of (slot_in f at)
    → server ≡ shower f its_phase → given ≡ table_answer (slot_in f server) → given ≡ None → table ≡ [] → table ≡ shown_table f
shown_none f at server its_phase given table here phased showing is none empty =
    empty ∙ ap (λ it. unwrap_or it []) (sym none) ∙ shown_is f at server its_phase given here phased showing is

accept_is : (head : Head) (f : FileTables) (sent : SentTo) (a : Accept) → accept_told head (accepted_in f sent a) (Some a) ≡ accept_to head f sent a
unfolding accept_told accept_to
accept_is head f sent accept.Held = refl
accept_is head f sent (accept.Old known) = refl
accept_is head f sent accept.Live = refl

-- what is printed of a delivery, by its answer and what it leaves
pub delivers_is : (head : Head) (f : FileTables) (offer : Option SentTo)
    → accept_told head (delivered f offer) (sent_answer f offer) ≡ delivers_to head f offer
unfolding accept_told delivered sent_answer delivers_to
delivers_is head f None = refl
delivers_is head f (Some sent) =
    accept_is head (stepped f sent.dest (Accepting sent.offer [] (accept_answer (slot_in f sent.dest) sent.offer.number))) sent
    (accept_answer (slot_in f sent.dest) sent.offer.number)

-- a knock that was answered so
knocked_by : ℕ → FileTables → ℕ → Enter → KnockedTo
knocked_by n f s a = elim a [
  | enter.Moved dest ↦ knocks_to n (stepped f s (Entering (enter.Moved dest))) dest
  | enter.Entered pass ↦ record { file = stepped f s (Entering (enter.Entered pass)); server = s; door = Some (enter.Entered pass) }
  | enter.Full passes ↦ record { file = stepped f s (Entering (enter.Full passes)); server = s; door = Some (enter.Full passes) }
  | enter.Delay ↦ record { file = stepped f s (Entering enter.Delay); server = s; door = Some enter.Delay }
  | enter.Unknown ↦ record { file = stepped f s (Entering enter.Unknown); server = s; door = Some enter.Unknown }
]

knock_is : (n : ℕ) (f : FileTables) (s : ℕ) (a : Enter) → a ≡ enter_answer (slot_in f s) → knocks_to (suc n) f s ≡ knocked_by n f s a
unfolding knocks_to knocked_by
knock_is n f s a is = ap (knocked_by n f s) (sym is)

-- A door that sends on, and one that doesn't.
by_sent_on : (n : ℕ) (f : FileTables) (s dest : ℕ) (a : Enter) → sent_on a ≡ Some dest
    → knocked_by n f s a ≡ knocks_to n (stepped f s (Entering a)) dest
unfolding knocked_by
by_sent_on n f s dest (enter.Moved to) on = ap (λ d. knocks_to n (stepped f s (Entering (enter.Moved to))) d) (same_Some to dest on)
by_sent_on n f s dest (enter.Entered pass) on = absurd (none-some dest on)
by_sent_on n f s dest (enter.Full passes) on = absurd (none-some dest on)
by_sent_on n f s dest enter.Delay on = absurd (none-some dest on)
by_sent_on n f s dest enter.Unknown on = absurd (none-some dest on)

by_let_in : (n : ℕ) (f : FileTables) (s : ℕ) (a : Enter) → sent_on a ≡ None
    → ◌≡◌ {A = KnockedTo} (record { file = stepped f s (Entering a); server = s; door = Some a }) (knocked_by n f s a)
unfolding knocked_by
by_let_in n f s (enter.Moved to) ends = absurd (none-some to (sym ends))
by_let_in n f s (enter.Entered pass) ends = refl
by_let_in n f s (enter.Full passes) ends = refl
by_let_in n f s enter.Delay ends = refl
by_let_in n f s enter.Unknown ends = refl

-- one more knock of those that are left
pub knocked_on : (limit i : ℕ) (f new : FileTables) (s dest : ℕ) (a : Enter) (whole : KnockedTo) → i < limit → a ≡ enter_answer (slot_in f s) → sent_on a ≡ Some dest
    → new ≡ stepped f s (Entering a) → knocks_to (limit - i) f s ≡ whole → knocks_to (limit - (i + 1)) new dest ≡ whole
knocked_on limit i f new s dest a whole below is on after so_far =
    let left : limit - i ≡ suc (limit - (i + 1)) = omega (arith, below) in
    ap (λ it. knocks_to (limit - (i + 1)) it dest) after ∙ sym (knock_is (limit - (i + 1)) f s a is ∙ by_sent_on (limit - (i + 1)) f s dest a on) ∙ ap (λ n. knocks_to n f s) (sym left) ∙ so_far

pub knocked_in : (limit i : ℕ) (f new : FileTables) (s : ℕ) (a : Enter) (whole : KnockedTo) → i < limit → a ≡ enter_answer (slot_in f s) → sent_on a ≡ None
    → new ≡ stepped f s (Entering a) → knocks_to (limit - i) f s ≡ whole → ◌≡◌ {A = KnockedTo} (record { file = new; server = s; door = Some a }) whole
knocked_in limit i f new s a whole below is ends after so_far =
    let left : limit - i ≡ suc (limit - (i + 1)) = omega (arith, below) in
    ap (λ it. record { file = it; server = s; door = Some a }) after ∙ by_let_in (limit - (i + 1)) f s a ends ∙ sym (knock_is (limit - (i + 1)) f s a is) ∙ ap (λ n. knocks_to n f s) (sym left) ∙ so_far

pub knocked_out : (limit i : ℕ) (f : FileTables) (s : ℕ) (whole : KnockedTo) → limit ≤ i
    → knocks_to (limit - i) f s ≡ whole → ◌≡◌ {A = KnockedTo} (record { file = f; server = s; door = None }) whole
unfolding knocks_to
knocked_out limit i f s whole past so_far =
    let none : limit - i ≡ 0 = omega (arith, past) in
    ap (λ n. knocks_to n f s) (sym none) ∙ so_far
