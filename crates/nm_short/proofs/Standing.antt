-- What the servers have of a file system stands for the list of their steps, and one more step keeps that.
use Rattle.std.proofs.Common.{◌≡◌, ◌≢◌, ◌<◌, ◌≤◌, ℕ, Bool, true, false, length, get_or, set, Option, Some, None, refl, sym, subst, ap, ◌∙◌, arith, ⊎_elim}
use Rattle.std.specs.Prelude.{option_map}
use Rattle.std.proofs.lemmas.Bool.{cases_eq, cases_lt}
use Rattle.std.proofs.lemmas.List.{get_or-set_same, get_or-set_other, get_or_past, length-set}
use Rattle.std.proofs.lemmas.Option.{unwrap_or-slice_get}
use Rattle.nm_slot.specs.declared.answers.Install.TheVariants as install
use Rattle.nm_slot.specs.Changes.{slot_after}
use Rattle.nm_slot.specs.History.{IsHistory, MayCome, slot_now, own_now, tables_now}
use Rattle.nm_slot.specs.Moves.{Move, Sent, no_move, move_now, is_handed, latest_offer, latest_handed}
use Rattle.nm_slot.specs.Moves.Fate.{NotBegun}
use Rattle.nm_slot.specs.Phases.{Moment, phase_now}
use Rattle.nm_slot.specs.SlotNow.{Offer, SlotStep}
use Rattle.nm_slot.specs.SlotNow.HandedOver.{Committed, Again}
use Rattle.nm_slot.specs.SlotNow.SlotStep.{Imaging, Committing, Installing}
use Rattle.nm_slot.proofs.HistoryFacts.{begins_now, facts_of}
use Rattle.nm_slot.proofs.SlotsFollow.{own_slot, other_slots}
use Rattle.nm_short.specs.ShortRun.{FileNow, at_server, did, source}
use Rattle.nm_short.specs.Tables.{FileTables, SentTo, HandedTo, slot_in, stepped, no_part}
use Rattle.nm_short.proofs.HistoryFacts.{also_of}
use Rattle.nm_short.proofs.HolderFree.{same_source, is_installing}
use Rattle.nm_short.proofs.MovesKept.{dest_kept, dest_within, GoesBelow}

-- ---- what stands for what

-- what was sent, with where its move goes
abbrev pub sent_as : (ℕ → Move) → Sent → SentTo
sent_as move x = record { source = x.source; dest = (move x.offer.number).dest; offer = x.offer }

abbrev pub handed_as : (ℕ → Move) → ℕ → HandedTo
handed_as move number = record { dest = (move number).dest; number = number }

-- The tables stand for the steps of so many servers, which came as they may.
pub record Stands (n : ℕ) (f : FileNow) (t : FileTables) : Type 0 where
  pub fs : t.fs ≡ f.home.fs
  pub first : t.first ≡ f.home.first
  pub history : IsHistory f.home f.moments
  pub count : length t.slots ≡ n
  pub slots : (s : ℕ) → slot_in t s ≡ at_server f s
  pub at : t.at ≡ source f
  pub within : t.at < n
  pub dests : (k : ℕ) → (move_now f.moments k).dest < n
  pub offer : t.offer ≡ option_map (sent_as (move_now f.moments)) (latest_offer f.moments)
  pub handed : t.handed ≡ option_map (handed_as (move_now f.moments)) (latest_handed f.moments)

-- one more step of a file system
abbrev pub moment : ℕ → SlotStep → Moment
moment s step = record { server = s; step = step }

abbrev pub Comes : FileNow → ℕ → SlotStep → Type 0
Comes f s step = MayCome f.home f.moments (moment s step)

-- ---- slots

-- A server past the last had no part in the file system, and the step leaves it so.
abbrev pub IsKeptOutside : FileTables → ℕ → SlotStep → Type 0
IsKeptOutside t s step = length t.slots ≤ s → slot_after (no_part t.fs) step ≡ no_part t.fs

slot_get : (t : FileTables) (s : ℕ) → slot_in t s ≡ get_or t.slots s (no_part t.fs)
unfolding slot_in
slot_get t s = unwrap_or-slice_get t.slots s (no_part t.fs)

pub slot_outside : (t : FileTables) (s : ℕ) → length t.slots ≤ s → slot_in t s ≡ no_part t.fs
slot_outside t s past = slot_get t s ∙ get_or_past t.slots s (no_part t.fs) past

slot_there : (t : FileTables) (s : ℕ) (step : SlotStep) → IsKeptOutside t s step → slot_in (stepped t s step) s ≡ slot_after (slot_in t s) step
unfolding stepped
slot_there t s step kept = slot_get (stepped t s step) s ∙ ⊎_elim
    (λ (below : s < length t.slots). get_or-set_same t.slots s (slot_after (slot_in t s) step) (no_part t.fs) below)
    (λ (past : length t.slots ≤ s). get_or_past (set t.slots s (slot_after (slot_in t s) step)) s (no_part t.fs) (omega (arith, length-set t.slots s (slot_after (slot_in t s) step)))
    ∙ sym (kept past) ∙ ap (λ v. slot_after v step) (sym (slot_outside t s past)))
    (cases_lt s (length t.slots))

slot_elsewhere : (t : FileTables) (s r : ℕ) (step : SlotStep) → r ≢ s → slot_in (stepped t s step) r ≡ slot_in t r
unfolding stepped
slot_elsewhere t s r step ne = slot_get (stepped t s step) r ∙ get_or-set_other t.slots s r (slot_after (slot_in t s) step) (no_part t.fs) ne ∙ sym (slot_get t r)

slots_follow : (n : ℕ) (f : FileNow) (t : FileTables) (s : ℕ) (step : SlotStep) → Stands n f t → Comes f s step → IsKeptOutside t s step
    → (r : ℕ) → slot_in (stepped t s step) r ≡ at_server (did f s step) r
slots_follow n f t s step stands comes kept r = ⊎_elim
    (λ (e : r ≡ s). subst (λ q. slot_in (stepped t s step) q ≡ at_server (did f s step) q) (sym e)
    (slot_there t s step kept ∙ ap (λ v. slot_after v step) (stands.slots s) ∙ own_slot f.home f.moments (moment s step) (comes, stands.history)))
    (λ (ne : r ≢ s). slot_elsewhere t s r step ne ∙ stands.slots r ∙ sym (other_slots f.home f.moments (moment s step) (comes, stands.history) r ne))
    (cases_eq r s)

-- ---- what was sent

sent_same : (move move' : ℕ → Move) (sent : Option Sent) → ((x : Sent) → sent ≡ Some x → (move' x.offer.number).dest ≡ (move x.offer.number).dest)
    → option_map (sent_as move) sent ≡ option_map (sent_as move') sent
sent_same move move' None same = refl
sent_same move move' (Some x) same = ap (λ d. Some (record { source = x.source; dest = d; offer = x.offer })) (sym (same x refl))

handed_same : (move move' : ℕ → Move) (told : Option ℕ) → ((k : ℕ) → told ≡ Some k → (move' k).dest ≡ (move k).dest)
    → option_map (handed_as move) told ≡ option_map (handed_as move') told
handed_same move move' None same = refl
handed_same move move' (Some k) same = ap (λ d. Some (record { dest = d; number = k })) (sym (same k refl))

pub offered_began : (m : Move) (offer : Offer) → m.offer ≡ Some offer → m ≢ no_move
offered_began m offer e none = let made : None ≡ Some offer = sym (ap (λ (x : Move). x.offer) none) ∙ e in cc

handed_began : (m : Move) → is_handed m.fate ≡ true → m ≢ no_move
handed_began m e none = let over : is_handed NotBegun ≡ true = sym (ap (λ (x : Move). is_handed x.fate) none) ∙ e in cc

-- where a move goes that began before the step
pub goes_same : (n : ℕ) (f : FileNow) (t : FileTables) (s : ℕ) (step : SlotStep) → Stands n f t → Comes f s step
    → (k : ℕ) → move_now f.moments k ≢ no_move → (move_now (did f s step).moments k).dest ≡ (move_now f.moments k).dest
unfolding move_now slot_now
goes_same n f t s step stands comes =
    let has = facts_of f.home f.moments stands.history in
    dest_kept f.home.fs (phase_now f.home.first f.moments) (begins_now f.moments) (move_now f.moments) (own_now f.home.first f.moments) (tables_now f.home f.moments) s step
    comes.answered has

pub offer_stays : (n : ℕ) (f : FileNow) (t : FileTables) (s : ℕ) (step : SlotStep) → Stands n f t → Comes f s step
    → t.offer ≡ option_map (sent_as (move_now (did f s step).moments)) (latest_offer f.moments)
offer_stays n f t s step stands comes =
    let also = also_of f.home f.moments stands.history in
    stands.offer ∙ sent_same (move_now f.moments) (move_now (did f s step).moments) (latest_offer f.moments)
    (λ x e. goes_same n f t s step stands comes x.offer.number (offered_began (move_now f.moments x.offer.number) x.offer (also.was_sent x e).offer))

pub handed_stays : (n : ℕ) (f : FileNow) (t : FileTables) (s : ℕ) (step : SlotStep) → Stands n f t → Comes f s step
    → t.handed ≡ option_map (handed_as (move_now (did f s step).moments)) (latest_handed f.moments)
handed_stays n f t s step stands comes =
    let also = also_of f.home f.moments stands.history in
    stands.handed ∙ handed_same (move_now f.moments) (move_now (did f s step).moments) (latest_handed f.moments)
    (λ k e. goes_same n f t s step stands comes k (handed_began (move_now f.moments k) (also.was_told k e)))

-- ---- one more step

dests_within : (n : ℕ) (f : FileNow) (t : FileTables) (s : ℕ) (step : SlotStep) → Stands n f t → GoesBelow n step
    → (k : ℕ) → (move_now (did f s step).moments k).dest < n
unfolding move_now
dests_within n f t s step stands below k = dest_within n s k step (move_now f.moments k) below (stands.dests k)

-- the tables after a step, with who has the file system and what was sent
abbrev pub with_sent : FileTables → ℕ → Option SentTo → Option HandedTo → FileTables
with_sent t at offer handed = record t { at = at; offer = offer; handed = handed }

pub stands_by : (n : ℕ) (f : FileNow) (t : FileTables) (s : ℕ) (step : SlotStep) (at : ℕ) (offer : Option SentTo) (handed : Option HandedTo)
    → Stands n f t → Comes f s step → IsKeptOutside t s step → GoesBelow n step
    → at ≡ source (did f s step) → at < n
    → offer ≡ option_map (sent_as (move_now (did f s step).moments)) (latest_offer (did f s step).moments)
    → handed ≡ option_map (handed_as (move_now (did f s step).moments)) (latest_handed (did f s step).moments)
    → Stands n (did f s step) (with_sent (stepped t s step) at offer handed)
unfolding slot_in stepped
stands_by n f t s step at offer handed stands comes kept below has within sent told = record {
  fs = stands.fs;
  first = stands.first;
  history = (comes, stands.history);
  count = length-set t.slots s (slot_after (slot_in t s) step) ∙ stands.count;
  slots = slots_follow n f t s step stands comes kept;
  at = has;
  within = within;
  dests = dests_within n f t s step stands below;
  offer = sent;
  handed = told;
}

-- the source stays where no move is installed
pub source_stays : (f : FileNow) (s : ℕ) (step : SlotStep) → is_installing step ≡ false → source f ≡ source (did f s step)
unfolding phase_now
source_stays f s step e = sym (same_source (phase_now f.home.first f.moments) s step e)

-- the steps that send nothing, and by which no other server has the file system
abbrev pub is_plain : SlotStep → Bool
is_plain (Imaging (Some offer)) = false
is_plain (Committing number (Committed parties)) = false
is_plain (Committing number Again) = false
is_plain (Installing number ends install.Now) = false
is_plain _ = true

plain_installs : (step : SlotStep) → is_plain step ≡ true → is_installing step ≡ false
plain_installs (Imaging (Some offer)) e = cc
plain_installs (Committing number (Committed parties)) e = cc
plain_installs (Committing number Again) e = cc
plain_installs (Installing number ends install.Now) e = cc
plain_installs _ e = refl

plain_sends : (f : FileNow) (s : ℕ) (step : SlotStep) → is_plain step ≡ true → latest_offer (did f s step).moments ≡ latest_offer f.moments
unfolding latest_offer
plain_sends f s (Imaging (Some offer)) e = cc
plain_sends f s _ e = refl

plain_tells : (f : FileNow) (s : ℕ) (step : SlotStep) → is_plain step ≡ true → latest_handed (did f s step).moments ≡ latest_handed f.moments
unfolding latest_handed
plain_tells f s (Committing number (Committed parties)) e = cc
plain_tells f s (Committing number Again) e = cc
plain_tells f s _ e = refl

pub plain_stands : (n : ℕ) (f : FileNow) (t : FileTables) (s : ℕ) (step : SlotStep)
    → Stands n f t → Comes f s step → IsKeptOutside t s step → GoesBelow n step → is_plain step ≡ true
    → Stands n (did f s step) (stepped t s step)
unfolding stepped
plain_stands n f t s step stands comes kept below plain =
    stands_by n f t s step t.at t.offer t.handed stands comes kept below
    (stands.at ∙ source_stays f s step (plain_installs step plain)) stands.within
    (offer_stays n f t s step stands comes ∙ ap (option_map (sent_as (move_now (did f s step).moments))) (sym (plain_sends f s step plain)))
    (handed_stays n f t s step stands comes ∙ ap (option_map (handed_as (move_now (did f s step).moments))) (sym (plain_tells f s step plain)))
