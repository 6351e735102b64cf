use Rattle.std.proofs.lemmas.Result.{err_from_is_err_and}
use Rattle.nm_results.proofs.EntryLaws.{entry_taken, entries_ended, entry_missing, entries_past}
use Rattle.nm_results.proofs.directories.take_entries.Goals as goal

pub returns-in_err-entry : goal.returns-in_err-entry
returns-in_err-entry c =
    let p = err_from_is_err_and c.from_residual.result c.from_residual.ensures.1 in
    rw (p.1, p.2) (entry_missing c.args.number c.loop.counter c.loop.entries c.loop.cursor c.args.cursor.now c.in_err-entry.field-0.0 c.loop-test.true c.in_err-entry.ensures c.loop.invariant)

pub returns-in-None : goal.returns-in-None
returns-in-None c =
    entries_ended c.args.number c.loop.counter c.loop.entries c.loop.cursor c.take_next.new.cursor c.args.cursor.now c.in_ok-entry.field-0
    c.loop-test.true c.in-None.is c.in_ok-entry.ensures c.loop.invariant

pub loop-preserved : goal.loop-preserved
loop-preserved c =
    entry_taken c.args.number c.loop.counter c.loop.entries c.push.new.self c.loop.cursor c.take_next.new.cursor c.args.cursor.now c.in-Some.entry c.in_ok-entry.field-0
    c.loop-test.true c.in-Some.is c.in_ok-push-in-Some.ensures.ok c.in_ok-entry.ensures c.loop.invariant

pub returns : goal.returns
returns c =
    entries_past c.args.number c.loop.counter c.loop.entries c.loop.cursor c.args.cursor.now c.place.result c.loop-test.false c.place.ensures c.loop.invariant
