-- What stays true of the state that a slot has.
use Rattle.std.proofs.Common.{Bool, true, false, cond, ◌≡◌, ◌≤◌, ◌+◌, ◌^◌, ℕ, refl, ap, arith, length, List, [], ◌∷◌, sym, inr, subst, Ok, Option, Some, None, ◌∙◌}
use Rattle.std.specs.Prelude.{not, filter}
use Rattle.nm_rules.proofs.RowLimit.{length-filter}
use Rattle.nm_rules.specs.Answer.{answer_to}
use Rattle.nm_rules.specs.Past.{words}
use Rattle.nm_rules.specs.Seqids.{owners_after}
use Rattle.nm_rules.specs.Shares.{opens_after}
use Rattle.nm_rules.specs.Seen.{Seen, after, after_words}
use Rattle.nm_types.specs.declared.calls.Event.{Event}
use Rattle.nm_types.specs.declared.calls.Reply.{Reply}
use Rattle.nm_rules.proofs.HolderLaws.{rows_grow}
use Rattle.nm_types.specs.Parties.{Party, same_party}
use Rattle.nm_types.specs.declared.owners.OwnerRow.{OwnerRow}
use Rattle.nm_types.specs.declared.rows.OpenRow.{OpenRow}
use Rattle.nm_types.specs.declared.leases.LeasePass.{LeasePass}
use Rattle.nm_types.specs.declared.calls.Call.{Call}
use Rattle.nm_types.specs.declared.calls.Verdict.{Verdict}
use Rattle.nm_types.specs.declared.calls.Event.TheVariants.{Asked, Ended}
use Rattle.nm_slot.specs.Answers.{applied, is_offer_of, ends_before, ends_abandoned, abandon_ends}
use Rattle.nm_slot.specs.Changes.{slot_after, stage_ended}
use Rattle.nm_slot.specs.Eras.{after_ends, ends_late, has_ended, row_of}
use Rattle.nm_slot.specs.declared.eras.EraRow.{EraRow}
use Rattle.nm_slot.specs.declared.answers.Answer.TheVariants as answer
use Rattle.nm_slot.specs.declared.answers.Begin.TheVariants as begin
use Rattle.nm_slot.specs.declared.stage.Doing.TheVariants as kept_doing
use Rattle.nm_slot.specs.declared.stage.Stage.{Stage as KeptStage}
use Rattle.nm_slot.specs.SlotNow.{Stage, Offer, Own, SlotView, SlotNow, phase_of}
use Rattle.nm_slot.specs.SlotNow.SlotStep.{Applying}
use Rattle.nm_slot.specs.SlotNow.Stage.{Away, Here}
use Rattle.nm_slot.specs.Kept.{IsKept, Goes, IsReplyAt, MayBegin, IsKeptOrSpent, Took, TookIt, took_by, held_of, rows_in, rows_of, IsReady, IsHeldWell, IsStaged, IsNumbered, count_moving, called_view, stage_of, holders_at, is_serving}
use Rattle.nm_slot.specs.declared.stage.Doing.{Doing as KeptDoing}
use Rattle.nm_slot.specs.declared.stage.Stage.TheVariants as kept_stage
use Rattle.nm_state.specs.State.{StateNow, Applies, ended}
use Rattle.nm_slot.specs.declared.image.Image.{Image}

fs_after : (s : Seen) (event : Event) (reply : Reply) → (after s event reply).fs ≡ s.fs
unfolding after_words
fs_after s event reply = refl

-- A state stays of its file system, and with room for two holders more there is room after the next entry.
pub ready_after : (fs before room : ℕ) (s : Seen) (event : Event) (reply : Reply) (first later : Bool)
    → IsReady fs before (record { seen = s; spent = first }) → rows_in s + 2 ≤ room
    → IsReady fs room (record { seen = after s event reply; spent = later })
ready_after fs before room s event reply first later ready more = record {
  fs = fs_after s event reply ∙ ready.fs;
  room = omega (arith, more, rows_grow s event reply);
}

-- The end of an instance makes no further holder.
opens_ended : (s : Seen) (party : Party) → (after s (Ended party) (answer_to s (Ended party))).opens ≡ filter (λ row. not (same_party party row.owner.instance)) s.opens
unfolding after_words words opens_after
opens_ended s party = refl

owners_ended : (s : Seen) (party : Party)
    → (after s (Ended party) (answer_to s (Ended party))).owners ≡ filter (λ row. not (same_party party row.owner.instance)) s.owners
unfolding after_words words owners_after
owners_ended s party = refl

rows_fall : (s : Seen) (party : Party) → rows_in (after s (Ended party) (answer_to s (Ended party))) ≤ rows_in s
rows_fall s party =
    rw (opens_ended s party, owners_ended s party)
    (omega (arith, length-filter (λ (row : OpenRow). not (same_party party row.owner.instance)) s.opens, length-filter (λ (row : OwnerRow). not (same_party party row.owner.instance)) s.owners))

ready_ended : (fs room : ℕ) (s : StateNow) (party : Party) → IsReady fs room s → IsReady fs room (ended s party)
ready_ended fs room s party ready = record {
  fs = fs_after s.seen (Ended party) (answer_to s.seen (Ended party)) ∙ ready.fs;
  room = omega (arith, ready.room, rows_fall s.seen party);
}

-- a state with which something else is done
pub staged_turned : (fs room epoch : ℕ) (doing next : KeptDoing) (state : StateNow)
    → IsStaged fs room epoch (kept_stage.Here doing state) → (IsNumbered epoch doing → IsNumbered epoch next) → IsStaged fs room epoch (kept_stage.Here next state)
staged_turned fs room epoch doing next state staged numbered = record { facts = (staged.facts.0, numbered staged.facts.1) }

-- a state after an entry
pub staged_after : (fs before room epoch : ℕ) (doing : KeptDoing) (old new : StateNow) (event : Event) (reply : Reply)
    → IsStaged fs before epoch (kept_stage.Here doing old) → rows_in old.seen + 2 ≤ room → old.spent ≡ false
    → new ≡ record { seen = after old.seen event reply; spent = false }
    → IsStaged fs room epoch (kept_stage.Here doing new)
staged_after fs before room epoch doing old new event reply staged more unspent it = record {
  facts = (λ _. rw it (ready_after fs before room old.seen event reply old.spent false (staged.facts.0 unspent) more), staged.facts.1);
}

pub stage_applied : (stage : KeptStage) (doing : KeptDoing) (old new : StateNow) (event : Event) (reply : Reply)
    → stage ≡ kept_stage.Here doing old → Applies old event (Ok reply) new → (fs before room epoch : ℕ)
    → IsStaged fs before epoch stage → rows_of stage + 2 ≤ room → IsStaged fs room epoch (kept_stage.Here doing new)
stage_applied stage doing old new event reply it applies fs before room epoch staged more =
    staged_after fs before room epoch doing old new event reply (subst (λ s. IsStaged fs before epoch s) it staged)
    (subst (λ s. rows_of s + 2 ≤ room) it more) applies.0 applies.2

-- a state in which an instance has ended
pub staged_ended : (fs room epoch : ℕ) (doing : KeptDoing) (old new : StateNow) (party : Party)
    → IsStaged fs room epoch (kept_stage.Here doing old) → new ≡ ended old party → IsStaged fs room epoch (kept_stage.Here doing new)
staged_ended fs room epoch doing old new party staged it = record {
  facts = (λ unspent. rw it (ready_ended fs room old party (staged.facts.0 (sym (ap (λ (s : StateNow). s.spent) it) ∙ unspent))), staged.facts.1);
}

pub stage_ended_kept : (stage : KeptStage) (doing : KeptDoing) (old new : StateNow) (party : Party) → stage ≡ kept_stage.Here doing old
    → new ≡ ended old party → (fs room epoch : ℕ) → IsStaged fs room epoch stage → IsStaged fs room epoch (kept_stage.Here doing new)
stage_ended_kept stage doing old new party here it fs room epoch staged =
    staged_ended fs room epoch doing old new party (subst (λ s. IsStaged fs room epoch s) here staged) it

pub stage_ended_rows : (stage : KeptStage) (doing : KeptDoing) (old new : StateNow) (party : Party) → stage ≡ kept_stage.Here doing old
    → new ≡ ended old party → rows_of (kept_stage.Here doing new) ≤ rows_of stage
stage_ended_rows stage doing old new party here it = rw (here, it) (rows_fall old.seen party)

-- the ends of several make no further holder, and the state stays of its file system
pub rows_fall_all : (parties : List Party) (s : Seen) → rows_in (after_ends parties s) ≤ rows_in s
rows_fall_all [] s = omega arith
rows_fall_all (party ∷ parties) s = omega (arith, rows_fall s party, rows_fall_all parties (after s (Ended party) (answer_to s (Ended party))))

pub fs_after_all : (parties : List Party) (s : Seen) → (after_ends parties s).fs ≡ s.fs
fs_after_all [] s = refl
fs_after_all (party ∷ parties) s =
    fs_after_all parties (after s (Ended party) (answer_to s (Ended party))) ∙ fs_after s (Ended party) (answer_to s (Ended party))

pub stage_all_kept : (stage : KeptStage) (doing : KeptDoing) (old new : StateNow) (parties : List Party) → stage ≡ kept_stage.Here doing old
    → new.seen ≡ after_ends parties old.seen → new.spent ≡ old.spent → (fs room epoch : ℕ) → IsStaged fs room epoch stage
    → IsStaged fs room epoch (kept_stage.Here doing new)
stage_all_kept stage doing old new parties here seen spent fs room epoch staged =
    let its : IsStaged fs room epoch (kept_stage.Here doing old) = subst (λ s. IsStaged fs room epoch s) here staged in
    record { facts = (λ unspent. ready (its.facts.0 (sym spent ∙ unspent)), its.facts.1) }
  where
    ready : IsReady fs room old → IsReady fs room new
    ready its = record {
      fs = ap (λ (s : Seen). s.fs) seen ∙ fs_after_all parties old.seen ∙ its.fs;
      room = rw seen (omega (arith, its.room, rows_fall_all parties old.seen));
    }

-- a state that is spent
pub staged_spent : (fs before room epoch : ℕ) (doing : KeptDoing) (old new : StateNow)
    → IsStaged fs before epoch (kept_stage.Here doing old) → new.spent ≡ true → IsStaged fs room epoch (kept_stage.Here doing new)
staged_spent fs before room epoch doing old new staged spent = record { facts = (λ unspent. cc, staged.facts.1) }

-- the answer of a call that goes on to the state
pub goes_done : (epoch : ℕ) (lease : Option LeasePass) (stage : Stage) (own : Own) (call : Call) (verdict : Verdict) (reply : Reply) (place : ℕ)
    → Goes epoch lease stage own → IsReplyAt (stage_ended (ends_before lease stage own.eras) stage) (Asked call verdict) reply
    → place ≡ own.count + length (ends_before lease stage own.eras) + 1
    → answer.Done place reply ≡ applied epoch lease call verdict stage own
goes_done epoch lease Away own call verdict reply place goes told it = elim goes [ ]
goes_done epoch lease (Here doing state) own call verdict reply place goes told it = rw (it, told) (sym (goes.0 call verdict))

-- what a call leaves that is carried out
pub called_after : (v : SlotView) (at : ℕ) (lease : Option LeasePass) (call : Call) (verdict : Verdict) (reply : Reply) (place : ℕ)
    → place ≡ v.own.count + length (ends_before lease v.stage v.own.eras) + 1
    → called_view v lease (Asked call verdict) reply ≡ slot_after v (Applying at lease call verdict (ends_before lease v.stage v.own.eras) (answer.Done place reply))
unfolding slot_after
called_after v at lease call verdict reply place it = rw it refl

-- a slot with another stage, and another count of entries
pub kept_with : (fs epoch count later passes before room : ℕ) (list more : List Party) (old new : KeptStage)
    → IsKept fs epoch count passes before list old → IsStaged fs room epoch new → more ≡ list → count_moving new later ≤ 2 ^ 63
    → IsKept fs epoch later passes room more new
kept_with fs epoch count later passes before room list more old new kept staged same few =
    record { stage = staged; count = few; passes = kept.passes; empty = same ∙ kept.empty }

-- no entries go with a state that is served
pub serving_count : (stage : KeptStage) (count : ℕ) → is_serving (stage_of stage) ≡ true → count_moving stage count ≤ 2 ^ 63
serving_count (kept_stage.Away held) count serves = omega arith
serving_count (kept_stage.Here kept_doing.Serves state) count serves = omega arith
serving_count (kept_stage.Here (kept_doing.Closes dest number) state) count serves = cc
serving_count (kept_stage.Here (kept_doing.Froze dest number) state) count serves = cc

-- there may be more room
pub staged_wider : (fs before room epoch : ℕ) (stage : KeptStage) → before ≤ room → IsStaged fs before epoch stage → IsStaged fs room epoch stage
staged_wider fs before room epoch (kept_stage.Away None) wide staged = record { facts = staged.facts }
staged_wider fs before room epoch (kept_stage.Away (Some image)) wide staged = record {
  facts = (record { offered = staged.facts.0.offered; unspent = staged.facts.0.unspent; room = omega (arith, wide, staged.facts.0.room) }, staged.facts.1);
}
staged_wider fs before room epoch (kept_stage.Here doing state) wide staged = record {
  facts = (λ unspent. record { fs = (staged.facts.0 unspent).fs; room = omega (arith, wide, (staged.facts.0 unspent).room) }, staged.facts.1);
}

-- whose rows end late, among those who hold something
pub late_holders : (stage : Stage) (rows : List EraRow) → filter (λ party. has_ended (row_of party rows)) (holders_at stage) ≡ ends_abandoned rows stage
unfolding ends_late
late_holders Away rows = refl
late_holders (Here doing state) rows = refl

-- what the late ends leave
pub late_after : (old : SlotNow) (stage : Stage) (held : Option Offer) (count : ℕ) (due : List Party) → due ≡ abandon_ends old.view
    → stage ≡ stage_ended due old.view.stage → held ≡ old.view.own.held → count ≡ old.view.own.count + length due
    → record old.view { stage = stage; own = record old.view.own { held = held; count = count } }
    ≡ record old.view {
      stage = stage_ended (abandon_ends old.view) old.view.stage;
      own = record old.view.own { count = old.view.own.count + length (abandon_ends old.view) };
    }
late_after old stage held count due ends it same many = rw (it, same, many, ends) refl

-- an offer that is installed
pub installed_staged : (fs before room : ℕ) (image : Image) (new : StateNow) (parties : List Party) → IsHeldWell fs before image
    → new.seen ≡ after_ends parties image.state.seen → before ≤ room → IsStaged fs room image.epoch (kept_stage.Here kept_doing.Serves new)
installed_staged fs before room image new parties well it wide = record {
  facts = (
    (λ unspent. record {
      fs = ap (λ (s : Seen). s.fs) it ∙ fs_after_all parties image.state.seen ∙ well.offered.state;
      room = rw it (omega (arith, wide, well.room, rows_fall_all parties image.state.seen));
    }),
    record { number = omega arith; epoch = well.offered.epoch },
  );
}

-- the count of a stage is at most the slot's
pub carried_count : (stage : KeptStage) (count : ℕ) → count ≤ 2 ^ 63 → count_moving stage count ≤ 2 ^ 63
carried_count (kept_stage.Away held) count few = omega arith
carried_count (kept_stage.Here kept_doing.Serves state) count few = omega arith
carried_count (kept_stage.Here (kept_doing.Closes dest number) state) count few = few
carried_count (kept_stage.Here (kept_doing.Froze dest number) state) count few = few

-- a move that begins has a number
pub begins_numbered : (epoch its count dest number : ℕ) → MayBegin its count (begin.Begun number) → epoch ≡ its → IsNumbered epoch (kept_doing.Closes dest number)
begins_numbered epoch its count dest number may same = record { number = may.0; epoch = omega (arith, may.1, same) }

-- a slot whose state is spent in a call, and that remembers and does what it did
pub spent_by : (old new : SlotNow) → new.spent ≡ true → new.view.own ≡ old.view.own → phase_of new.view ≡ phase_of old.view → IsKeptOrSpent old new
spent_by old new spent own phase = inr (record { spent = spent; own = own; phase = phase })

-- an offer that was taken
pub took_some : (number : ℕ) (old : KeptStage) (image : Image) (new : KeptStage) → Took number old (Some image) new → TookIt number old (Some image) new
took_some number old image new took = by_test (is_offer_of number (held_of old)) took
  where
    by_test : (b : Bool) → took_by b number old (Some image) new → TookIt number old (Some image) new
    by_test true it = it
    by_test false it = let none : Some image ≡ None = it.none in cc
