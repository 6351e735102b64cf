use Rattle.std.proofs.Common.{◌<◌, length, rules}
use Rattle.std.specs.Vec.{vec_capacity}
use Rattle.nm_rules.specs.Holders.{gathered, opener_of}
use Rattle.nm_state.proofs.HolderLemmas.{listed_rises, listed_none, listed_more, listed_full}
use Rattle.nm_state.proofs.holders.gather_openers.Goals as goal

pub loop-at-init : goal.loop-at-init
loop-at-init c = listed_none opener_of c.args.rows.now c.args.list.now.items _

pub put-requires : goal.put-requires
put-requires c = listed_rises opener_of _ _ _ _ _ _ c.requires c.loop-at.invariant

pub loop-at-preserved : goal.loop-at-preserved
loop-at-preserved c =
    listed_more opener_of c.args.rows.now c.loop-at.at c.index-rows-at.result c.args.list.now.items c.loop-at.list.items c.put.new.list.items _ _ _ c.loop-at-test.true c.loop-at.auto.at
    c.loop-at.invariant c.in_ok-put.ensures.ok c.put.ensures.capacity

pub returns-in_err-put-clause-full : goal.returns-in_err-put-clause-full
returns-in_err-put-clause-full c =
    let full : vec_capacity c.args.list.now < length (gathered opener_of c.args.rows.now c.args.list.now.items) =
    listed_full opener_of c.args.rows.now c.loop-at.at c.index-rows-at.result c.args.list.now.items c.loop-at.list.items _ _ c.loop-at-test.true c.loop-at.auto.at c.loop-at.invariant c.in_err-put.ensures.full in
    search rules
