-- The phase and the table that are read off what the servers have.
use Rattle.std.proofs.Common.{◌≡◌, ℕ, [], Option, Some, None, refl, sym, ap, ◌∙◌, eq-eqb}
use Rattle.std.specs.Prelude.{unwrap_or}
use Rattle.nm_rules.specs.Held.{held_table}
use Rattle.nm_rules.specs.Seen.{Seen}
use Rattle.nm_slot.specs.declared.phase.Phase.{Phase as SlotPhase}
use Rattle.nm_slot.specs.declared.phase.Phase.TheVariants as slot_phase
use Rattle.nm_slot.specs.History.{slot_now, own_now, tables_now}
use Rattle.nm_slot.specs.Moves.{Move, move_now}
use Rattle.nm_slot.specs.Phases.{Phase, source_of}
use Rattle.nm_slot.specs.Phases.Phase.{At, Closing, Frozen, Passing}
use Rattle.nm_slot.specs.SlotNow.{Offer, Left, Own, SlotView, phase_of, phase_away}
use Rattle.nm_slot.proofs.Facts.{Facts}
use Rattle.nm_slot.proofs.HistoryFacts.{begins_now, facts_of}
use Rattle.nm_short.specs.ShortRun.{FileNow, at_server, source, phase_of_file}
use Rattle.nm_short.specs.Tables.{FileTables, phase_by, phase_in, slot_in, shower, shown_table, table_of, offer_table}
use Rattle.nm_short.proofs.HistoryFacts.{also_of}
use Rattle.nm_short.proofs.StepWords.{LeftStands, slot_by, went_to}
use Rattle.nm_short.proofs.Standing.{Stands}

-- ---- the phase

phase_passing : (q dest number known epoch : ℕ) (held : Option Offer) (left : Option Left) → held ≡ None → went_to left ≡ Some dest → known ≡ number
    → phase_by q (phase_away held left epoch) known ≡ Passing q dest number
phase_passing q dest number known epoch (Some offer) left free went latest = cc
phase_passing q dest number known epoch None None free went latest = cc
phase_passing q dest number known epoch None (Some left) free went latest =
    let same : left.dest ≡ dest = cc in
    rw (same, latest) refl

-- what the server has that has the file system, or handed it over last, tells the phase
phase_told : (fs begins : ℕ) (p : Phase) (move : ℕ → Move) (own : ℕ → Own) (t : Seen) → Facts p begins move own t → (own (source_of p)).held ≡ None → LeftStands p own
    → phase_by (source_of p) (phase_of (slot_by fs p t own (source_of p))) (own (source_of p)).known ≡ p
unfolding phase_of
phase_told fs begins (At q) move own t facts free left = rw (eq-eqb q q refl) refl
phase_told fs begins (Closing q dest number) move own t facts free left = rw (eq-eqb q q refl) refl
phase_told fs begins (Frozen q dest number) move own t facts free left = rw (eq-eqb q q refl) refl
phase_told fs begins (Passing q dest number) move own t facts free left =
    phase_passing q dest number (own q).known (own q).epoch (own q).held (own q).left free left (facts.agreed.numbers.holder ∙ sym facts.offers.latest)

pub phase_same : (n : ℕ) (f : FileNow) (t : FileTables) → Stands n f t → phase_in t ≡ phase_of_file f
unfolding phase_in slot_now
phase_same n f t stands =
    let has = facts_of f.home f.moments stands.history in
    let also = also_of f.home f.moments stands.history in
    ap (λ s. phase_by s (phase_of (slot_in t s)) (slot_in t s).own.known) stands.at
    ∙ ap (λ (v : SlotView). phase_by (source f) (phase_of v) v.own.known) (stands.slots (source f))
    ∙ phase_told f.home.fs (begins_now f.moments) (phase_of_file f) (move_now f.moments) (own_now f.home.first f.moments) (tables_now f.home f.moments) has also.free also.left

-- ---- the table

-- the server that shows it
abbrev shows : ℕ → SlotPhase → ℕ
shows at (slot_phase.Gone dest epoch) = dest
shows at _ = at

shower_at : (t : FileTables) (phase : SlotPhase) → shower t phase ≡ shows t.at phase
unfolding shower
shower_at t (slot_phase.Gone dest epoch) = refl
shower_at t _ = refl

shows_passing : (q dest epoch : ℕ) (held : Option Offer) (left : Option Left) → held ≡ None → went_to left ≡ Some dest
    → shows q (phase_away held left epoch) ≡ dest
shows_passing q dest epoch (Some offer) left free went = cc
shows_passing q dest epoch None None free went = cc
shows_passing q dest epoch None (Some left) free went = cc

table_told : (fs begins : ℕ) (p : Phase) (move : ℕ → Move) (own : ℕ → Own) (t : Seen) → Facts p begins move own t → (own (source_of p)).held ≡ None → LeftStands p own
    → unwrap_or (table_of (slot_by fs p t own (shows (source_of p) (phase_of (slot_by fs p t own (source_of p)))))) [] ≡ held_table t
unfolding phase_of
table_told fs begins (At q) move own t facts free left = rw (eq-eqb q q refl, eq-eqb q q refl) refl
table_told fs begins (Closing q dest number) move own t facts free left = rw (eq-eqb q q refl, eq-eqb q q refl) refl
table_told fs begins (Frozen q dest number) move own t facts free left = rw (eq-eqb q q refl, eq-eqb q q refl) refl
table_told fs begins (Passing q dest number) move own t facts free left =
    ap (λ r. unwrap_or (offer_table (own r).held) []) (shows_passing q dest (own q).epoch (own q).held (own q).left free left)
    ∙ ap (λ held. unwrap_or (offer_table held) []) facts.offers.ready

pub table_same : (n : ℕ) (f : FileNow) (t : FileTables) → Stands n f t → shown_table t ≡ held_table (tables_now f.home f.moments)
unfolding shown_table slot_now
table_same n f t stands =
    let has = facts_of f.home f.moments stands.history in
    let also = also_of f.home f.moments stands.history in
    ap (λ s. unwrap_or (table_of (slot_in t s)) []) (shower_at t (phase_of (slot_in t t.at)))
    ∙ ap (λ s. unwrap_or (table_of (slot_in t (shows s (phase_of (slot_in t s))))) []) stands.at
    ∙ ap (λ (v : SlotView). unwrap_or (table_of (slot_in t (shows (source f) (phase_of v)))) []) (stands.slots (source f))
    ∙ ap (λ (v : SlotView). unwrap_or (table_of v) []) (stands.slots (shows (source f) (phase_of (at_server f (source f)))))
    ∙ table_told f.home.fs (begins_now f.moments) (phase_of_file f) (move_now f.moments) (own_now f.home.first f.moments) (tables_now f.home f.moments) has also.free also.left
