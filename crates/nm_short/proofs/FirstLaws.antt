-- At first the tables stand for no steps.
use Rattle.std.proofs.Common.{◌≡◌, ◌≢◌, ◌<◌, ◌≤◌, ◌+◌, ℕ, false, List, [], ◌∷◌, length, get_or, replicate, None, refl, sym, subst, ◌∙◌, arith, eq-eqb, ne_eqb, ⊎_elim}
use Rattle.std.specs.List.{All}
use Rattle.std.proofs.lemmas.Bool.{cases_eq, cases_lt}
use Rattle.std.proofs.lemmas.List.{get_or-set_same, get_or-set_other, get_or-replicate, get_or_past, length-set, length-replicate}
use Rattle.std.proofs.lemmas.List.Elements.{All-head, All-tail}
use Rattle.std.proofs.lemmas.Option.{unwrap_or-slice_get}
use Rattle.nm_rules.specs.Seen.{seen}
use Rattle.nm_script.specs.Grammar.{IsHead}
use Rattle.nm_script.specs.declared.script.FsRow.{FsRow}
use Rattle.nm_script.specs.declared.script.Head.{Head}
use Rattle.nm_slot.specs.History.{slot_now, own_now, entries_now}
use Rattle.nm_slot.specs.Moves.{move_now, latest_offer, latest_handed}
use Rattle.nm_slot.specs.Phases.{phase_now}
use Rattle.nm_short.specs.Known.{knows_nothing}
use Rattle.nm_short.specs.ShortRun.{FileNow, at_server, files_from}
use Rattle.nm_short.specs.Tables.{FileTables, slot_in, no_part, first_slot, first_slots, tables_at_first, tables_of_head}
use Rattle.nm_short.proofs.LineLaws.{RunStands}
use Rattle.nm_short.proofs.Several.{AllStand}
use Rattle.nm_short.proofs.Standing.{Stands}

-- before any step
abbrev file_at_first : ℕ → ℕ → FileNow
file_at_first fs at = record { home = record { fs = fs; grants = false; first = at }; moments = [] }

abbrev table_at_first : ℕ → ℕ → ℕ → FileTables
table_at_first n fs at = record { fs = fs; first = at; slots = first_slots n fs at; at = at; offer = None; handed = None }

served_at_first : (fs at : ℕ) → at_server (file_at_first fs at) at ≡ first_slot fs
unfolding slot_now phase_now own_now entries_now seen
served_at_first fs at = rw (eq-eqb at at refl) refl

away_at_first : (fs at s : ℕ) → s ≢ at → at_server (file_at_first fs at) s ≡ no_part fs
unfolding slot_now phase_now own_now entries_now seen
away_at_first fs at s ne = rw (ne_eqb s at ne) refl

no_part_at : (n fs s : ℕ) → get_or (replicate n (no_part fs)) s (no_part fs) ≡ no_part fs
no_part_at n fs s = ⊎_elim
    (λ (below : s < n). get_or-replicate n s (no_part fs) (no_part fs) below)
    (λ (past : n ≤ s). get_or_past (replicate n (no_part fs)) s (no_part fs) (omega (arith, length-replicate n (no_part fs), past)))
    (cases_lt s n)

slot_at_first : (n fs at s : ℕ) → at < n → slot_in (table_at_first n fs at) s ≡ at_server (file_at_first fs at) s
unfolding slot_in
slot_at_first n fs at s below =
    unwrap_or-slice_get (first_slots n fs at) s (no_part fs) ∙ ⊎_elim
    (λ (e : s ≡ at). subst (λ r. get_or (first_slots n fs at) r (no_part fs) ≡ at_server (file_at_first fs at) r) (sym e)
    (get_or-set_same (replicate n (no_part fs)) at (first_slot fs) (no_part fs) (omega (arith, length-replicate n (no_part fs), below))
    ∙ sym (served_at_first fs at)))
    (λ (ne : s ≢ at). get_or-set_other (replicate n (no_part fs)) at s (first_slot fs) (no_part fs) ne ∙ no_part_at n fs s ∙ sym (away_at_first fs at s ne))
    (cases_eq s at)

stands_at_first : (n fs at : ℕ) → at < n → Stands n (file_at_first fs at) (table_at_first n fs at)
unfolding phase_now move_now latest_offer latest_handed
stands_at_first n fs at below = record {
  fs = refl;
  first = refl;
  history = tt;
  count = length-set (replicate n (no_part fs)) at (first_slot fs) ∙ length-replicate n (no_part fs);
  slots = λ s. slot_at_first n fs at s below;
  at = refl;
  within = below;
  dests = λ k. omega (arith, below);
  offer = refl;
  handed = refl;
}

all_at_first : (n fs : ℕ) (rows : List FsRow) → All (λ row. row.at < n) rows → AllStand n (files_from fs rows) (tables_at_first n fs rows)
all_at_first n fs [] all = tt
all_at_first n fs (row ∷ rows) all =
    (stands_at_first n fs row.at (All-head (λ row. row.at < n) row rows all), all_at_first n (fs + 1) rows (All-tail (λ row. row.at < n) row rows all))

pub run_at_first : (head : Head) → IsHead head
    → RunStands (length head.servers) (record { files = files_from 0 head.file_systems; known = knows_nothing }) (tables_of_head head)
run_at_first head fits = record { files = all_at_first (length head.servers) 0 head.file_systems fits.at; known = refl }
