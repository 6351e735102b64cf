-- Loops over instances: what the rest of the list makes of the rows so far is what the whole list makes of the first ones.
use Rattle.std.proofs.Common.{◌≡◌, ◌<◌, ◌≤◌, ℕ, ◌+◌, List, ◌∷◌, Option, Some, None, ap, sym, ◌∙◌, length, drop, get_or}
use Rattle.std.specs.Option.{option_or}
use Rattle.std.proofs.lemmas.List.{at_drop_more, at_drop_all}
use Rattle.nm_types.specs.Parties.{Party}
use Rattle.nm_roll.specs.Records.{RollNow, change_first}
use Rattle.nm_roll.specs.Leases.{is_instance}
use Rattle.nm_roll.specs.Moves.{Reserved, settled_row, gone_row, all_settled, all_gone, with_record, with_records, refusal_at, refusal_among}
use Rattle.nm_types.specs.declared.leases.LeasePass.{LeasePass}
use Rattle.nm_roll.specs.declared.records.StringRow.{StringRow}

pub settled_on : (clock fs : ℕ) (passes : List LeasePass) (at : ℕ) (pass : LeasePass) (rows next all : List StringRow)
    → at < length passes → pass ≡ get_or passes at pass
    → next ≡ change_first (is_instance pass.instance) (settled_row clock fs) rows
    → all_settled clock fs (drop at passes) rows ≡ all → all_settled clock fs (drop (at + 1) passes) next ≡ all
unfolding all_settled
settled_on clock fs passes at pass rows next all within there is before =
    ap (λ (r : List StringRow). all_settled clock fs (drop (at + 1) passes) r) is
    ∙ (ap (λ (p : LeasePass). all_settled clock fs (p ∷ drop (at + 1) passes) rows) there
    ∙ (sym (at_drop_more (λ (rest : List LeasePass). all_settled clock fs rest rows) passes at pass within) ∙ before))

pub settled_out : (clock fs : ℕ) (passes : List LeasePass) (at : ℕ) (rows all : List StringRow)
    → length passes ≤ at → all_settled clock fs (drop at passes) rows ≡ all → rows ≡ all
unfolding all_settled
settled_out clock fs passes at rows all past before =
    sym (at_drop_all (λ (rest : List LeasePass). all_settled clock fs rest rows) passes at past) ∙ before

pub gone_on : (lease clock fs : ℕ) (parties : List Party) (at : ℕ) (party : Party) (rows next all : List StringRow)
    → at < length parties → party ≡ get_or parties at party
    → next ≡ change_first (is_instance party) (gone_row lease clock fs) rows
    → all_gone lease clock fs (drop at parties) rows ≡ all → all_gone lease clock fs (drop (at + 1) parties) next ≡ all
unfolding all_gone
gone_on lease clock fs parties at party rows next all within there is before =
    ap (λ (r : List StringRow). all_gone lease clock fs (drop (at + 1) parties) r) is
    ∙ (ap (λ (p : Party). all_gone lease clock fs (p ∷ drop (at + 1) parties) rows) there
    ∙ (sym (at_drop_more (λ (rest : List Party). all_gone lease clock fs rest rows) parties at party within) ∙ before))

pub gone_out : (lease clock fs : ℕ) (parties : List Party) (at : ℕ) (rows all : List StringRow)
    → length parties ≤ at → all_gone lease clock fs (drop at parties) rows ≡ all → rows ≡ all
unfolding all_gone
gone_out lease clock fs parties at rows all past before =
    sym (at_drop_all (λ (rest : List Party). all_gone lease clock fs rest rows) parties at past) ∙ before

pub records_on : (parties : List Party) (at : ℕ) (party : Party) (r next all : RollNow)
    → at < length parties → party ≡ get_or parties at party → next ≡ with_record r party
    → with_records r (drop at parties) ≡ all → with_records next (drop (at + 1) parties) ≡ all
unfolding with_records
records_on parties at party r next all within there is before =
    ap (λ (now : RollNow). with_records now (drop (at + 1) parties)) is
    ∙ (ap (λ (p : Party). with_records r (p ∷ drop (at + 1) parties)) there
    ∙ (sym (at_drop_more (λ (rest : List Party). with_records r rest) parties at party within) ∙ before))

pub records_out : (parties : List Party) (at : ℕ) (r all : RollNow)
    → length parties ≤ at → with_records r (drop at parties) ≡ all → r ≡ all
unfolding with_records
records_out parties at r all past before = sym (at_drop_all (λ (rest : List Party). with_records r rest) parties at past) ∙ before

-- the next instance decides, or those behind it
refusals_step : (parties : List Party) (at : ℕ) (party : Party) (r : RollNow) (all : Option Reserved)
    → at < length parties → party ≡ get_or parties at party → refusal_among r (drop at parties) ≡ all
    → option_or (refusal_at r party) (refusal_among (with_record r party) (drop (at + 1) parties)) ≡ all
unfolding refusal_among
refusals_step parties at party r all within there before =
    ap (λ (p : Party). refusal_among r (p ∷ drop (at + 1) parties)) there
    ∙ (sym (at_drop_more (λ (rest : List Party). refusal_among r rest) parties at party within) ∙ before)

pub refusals_on : (parties : List Party) (at : ℕ) (party : Party) (r next : RollNow) (all : Option Reserved)
    → at < length parties → party ≡ get_or parties at party → next ≡ with_record r party → None ≡ refusal_at r party
    → refusal_among r (drop at parties) ≡ all → refusal_among next (drop (at + 1) parties) ≡ all
refusals_on parties at party r next all within there is none before =
    ap (λ (now : RollNow). refusal_among now (drop (at + 1) parties)) is
    ∙ (ap (λ (o : Option Reserved). option_or o (refusal_among (with_record r party) (drop (at + 1) parties))) none
    ∙ refusals_step parties at party r all within there before)

pub refusals_stop : (parties : List Party) (at : ℕ) (party : Party) (r : RollNow) (refusal : Reserved) (all : Option Reserved)
    → at < length parties → party ≡ get_or parties at party → Some refusal ≡ refusal_at r party
    → refusal_among r (drop at parties) ≡ all → Some refusal ≡ all
refusals_stop parties at party r refusal all within there some before =
    ap (λ (o : Option Reserved). option_or o (refusal_among (with_record r party) (drop (at + 1) parties))) some
    ∙ refusals_step parties at party r all within there before

pub refusals_out : (parties : List Party) (at : ℕ) (r : RollNow) (all : Option Reserved)
    → length parties ≤ at → refusal_among r (drop at parties) ≡ all → None ≡ all
unfolding refusal_among
refusals_out parties at r all past before = sym (at_drop_all (λ (rest : List Party). refusal_among r rest) parties at past) ∙ before
