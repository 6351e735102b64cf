use Rattle.std.proofs.Common.{◌≡◌, ◌<◌, ◌≤◌, true, false, rules, subst}
use Rattle.std.proofs.lemmas.List.{drop_all}
use Rattle.nm_rules.specs.Files.{entry_size, is_listed}
use Rattle.nm_state.specs.Pages.{IsFront}
use Rattle.nm_state.proofs.PageLemmas.{front_end, front_full, front_skip, front_take}
use Rattle.nm_state.proofs.listing.page.Goals as goal

pub loop-row-preserved-then-not-is_listed : goal.loop-row-preserved-then-not-is_listed
loop-row-preserved-then-not-is_listed c =
    let other : is_listed c.args.dir c.args.cookie c.row-item.result ≡ false = search rules in
    front_skip c.args.dir c.args.cookie c.args.asks c.args.room c.args.rows.now c.loop-row.entries c.loop-row.left c.loop-row.row-index c.row-item.result
    c.loop-row-test.true c.row-item.is other c.loop-row.invariant

pub returns-then-left-size : goal.returns-then-left-size
returns-then-left-size c =
    let its : is_listed c.args.dir c.args.cookie c.row-item.result ≡ true = search rules in
    let past : c.loop-row.left < entry_size c.args.asks c.row-item.result = rw (← c.entry_size-size.ensures) c.if-left-size.true in
    front_full c.args.dir c.args.cookie c.args.asks c.args.room c.args.rows.now c.loop-row.entries c.loop-row.left c.loop-row.row-index c.row-item.result
    c.loop-row-test.true c.row-item.is its past c.loop-row.invariant

pub loop-row-preserved : goal.loop-row-preserved
loop-row-preserved c =
    let its : is_listed c.args.dir c.args.cookie c.row-item.result ≡ true = search rules in
    let within : entry_size c.args.asks c.row-item.result ≤ c.loop-row.left = rw (← c.entry_size-size.ensures) c.if-left-size.false in
    rw (c.in_ok-push.ensures.ok, c.in_ok-entry_of.ensures, c.entry_size-size.ensures)
    (front_take c.args.dir c.args.cookie c.args.asks c.args.room c.args.rows.now c.loop-row.entries c.loop-row.left c.loop-row.row-index c.row-item.result
    c.loop-row-test.true c.row-item.is its within c.loop-row.invariant)

pub returns : goal.returns
returns c =
    front_end c.args.dir c.args.cookie c.args.asks c.args.room c.args.rows.now c.loop-row.entries c.loop-row.left
    (subst (λ rest. IsFront c.args.dir c.args.cookie c.args.asks c.args.room c.args.rows.now c.loop-row.entries c.loop-row.left rest)
    (drop_all c.loop-row.row-index c.args.rows.now c.loop-row-test.false) c.loop-row.invariant)
