use Rattle.std.proofs.Common.{arith}
use Rattle.nm_journal.specs.Journals.{left_of, halved}
use Rattle.nm_journal.proofs.JournalLemmas.{halved_on, halved_done, halved_out}
use Rattle.nm_journal.proofs.journal.left_of.Goals as goal

pub returns-then-left-most-clause-value : goal.returns-then-left-most-clause-value
unfolding left_of
returns-then-left-most-clause-value c =
    halved_done c.loop-time._time c.loop-time.left c.args.most (halved 64 c.args.count c.args.most) c.loop-time-test.true c.if-left-most.true c.loop-time.invariant.0

pub loop-time-preserved : goal.loop-time-preserved
loop-time-preserved c = (
  halved_on c.loop-time._time c.loop-time.left c.args.most (halved 64 c.args.count c.args.most) c.loop-time-test.true c.if-left-most.false c.loop-time.invariant.0,
  omega (arith, c.loop-time.invariant.1),
)

pub returns-clause-value : goal.returns-clause-value
unfolding left_of
returns-clause-value c =
    halved_out c.loop-time._time c.loop-time.left c.args.most (halved 64 c.args.count c.args.most) c.loop-time-test.false c.loop-time.invariant.0
