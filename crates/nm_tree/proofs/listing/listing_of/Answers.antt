use Rattle.std.proofs.Common.{map}
use Rattle.nm_rules.specs.Files.{listed}
use Rattle.nm_tree.specs.Answers.{listed_as}
use Rattle.nm_tree.proofs.CallLemmas.{listed_more, listed_all}
use Rattle.nm_tree.proofs.listing.listing_of.Goals as goal

pub loop-row-preserved : goal.loop-row-preserved
loop-row-preserved c =
    rw c.in_ok-list_row.ensures
    (listed_more c.args.dir c.args.after c.loop-row.listing (map listed_as (listed c.args.dir c.args.after c.args.rows.now)) c.args.rows.now c.loop-row.row-index c.row-item.result
    c.loop-row-test.true c.row-item.is c.loop-row.invariant)

pub returns : goal.returns
returns c = listed_all c.args.dir c.args.after c.loop-row.listing _ c.args.rows.now c.loop-row.row-index c.loop-row-test.false c.loop-row.invariant
