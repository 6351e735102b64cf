-- In which eras a server has seen an instance in a file system, read off the steps so far, the newest first.
use Rattle.std.specs.Prelude.{◌≢◌, ◌≤◌, ◌==◌, ◌&&◌, not, max, ℕ, Bool, List, [], ◌∷◌, Option, Some, None, if◌then◌else◌}
use Rattle.nm_types.specs.declared.leases.LeasePass.{LeasePass}
use Rattle.nm_types.specs.Parties.{Party, same_party}
use Rattle.nm_slot.specs.declared.answers.Answer.TheVariants as answer
use Rattle.nm_slot.specs.declared.answers.Install.TheVariants as install
use Rattle.nm_slot.specs.declared.answers.Swept.TheVariants as sweep
use Rattle.nm_slot.specs.Answers.{is_past}
use Rattle.nm_slot.specs.Eras.{era_in}
use Rattle.nm_slot.specs.History.{Home, own_now}
use Rattle.nm_slot.specs.Phases.{Moment}
use Rattle.nm_slot.specs.SlotNow.{Own, SlotStep}
use Rattle.nm_slot.specs.SlotNow.SlotStep.{Applying, Sweeping, Installing}

abbrev pub greater_if : Bool → ℕ → ℕ → ℕ
greater_if its era before = if its then max before era else before

abbrev pub seen_by : Party → Option LeasePass → ℕ → ℕ
seen_by party None before = before
seen_by party (Some lease) before = greater_if (same_party party lease.instance) lease.era before

-- It was seen by each of its calls that was carried out, by each of its eras that ended, and by the leases that came with an offer
-- that was installed.
abbrev pub seen_with : Party → Own → SlotStep → ℕ → ℕ
seen_with party own (Applying epoch lease call verdict ends (answer.Done place reply)) before = seen_by party lease before
seen_with party own (Sweeping its era ends sweep.Ended) before = greater_if (same_party party its) era before
seen_with party own (Sweeping its era ends sweep.PutOff) before = greater_if (same_party party its) era before
seen_with party own (Sweeping its era ends sweep.Nothing) before = greater_if (same_party party its) era before
seen_with party own (Installing number ends install.Now) before = max before (era_in party own.brought)
seen_with party own _ before = before

-- the greatest era in which it was seen at a server, 0 before the first
unfoldable pub seen_at : Home → List Moment → ℕ → Party → ℕ
seen_at home [] s party = 0
seen_at home (x ∷ earlier) s party =
    if x.server == s then seen_with party (own_now home.first earlier s) x.step (seen_at home earlier s party) else seen_at home earlier s party

abbrev pub ended_if : Bool → ℕ → Option ℕ → Option ℕ
ended_if its era before = if its then Some era else before

-- An era of it ended by a sweep, unless a later one was seen before.
abbrev pub ended_with : Party → Own → SlotStep → Option ℕ → Option ℕ
ended_with party own (Sweeping its era ends sweep.Ended) before = ended_if (same_party party its) era before
ended_with party own (Sweeping its era ends sweep.PutOff) before = ended_if (same_party party its) era before
ended_with party own (Sweeping its era ends sweep.Nothing) before = ended_if (same_party party its && not (is_past its era own)) era before
ended_with party own _ before = before

-- the latest era of it that ended at a server
unfoldable pub ended_at : Home → List Moment → ℕ → Party → Option ℕ
ended_at home [] s party = None
ended_at home (x ∷ earlier) s party =
    if x.server == s then ended_with party (own_now home.first earlier s) x.step (ended_at home earlier s party) else ended_at home earlier s party

-- A call in the name of a lease is of no earlier era of its instance than the greatest seen, and not of one that ended.
pub record IsTimely (home : Home) (h : List Moment) (s : ℕ) (lease : LeasePass) : Type 0 where
  pub latest : seen_at home h s lease.instance ≤ lease.era
  pub stands : ended_at home h s lease.instance ≢ Some lease.era
