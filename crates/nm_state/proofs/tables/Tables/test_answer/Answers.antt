use Rattle.std.proofs.Common.{Some, None, ◌∙◌}
use Rattle.nm_state.proofs.LockLemmas.{test_as, test_denied_answer, test_free_answer, test_front_answer, test_nobody, test_range}
use Rattle.nm_state.proofs.tables.Tables.test_answer.Goals as goal

pub returns-in_default : goal.returns-in_default
returns-in_default c =
    test_as c.args.self.now c.args.caller None c.args.file c.args.args.now c.args.verdict _ c.in_default.is
    (c.reply.ensures ∙ test_nobody c.args.self.now c.args.file c.args.args.now c.args.verdict)

pub returns-in-Some-test_front : goal.returns-in-Some-test_front
returns-in-Some-test_front c =
    test_as c.args.self.now c.args.caller (Some c.in-Some.party) c.args.file c.args.args.now c.args.verdict _ c.in-Some.is
    (c.reply-in-Some-test_front.ensures
    ∙ test_front_answer c.args.self.now c.in-Some.party c.args.file c.args.args.now c.args.verdict c.in-Some-test_front.status c.in-Some-test_front.ensures)

pub test_barrier-requires : goal.test_barrier-requires
test_barrier-requires c = test_range c.args.self.now c.args.file c.args.args.now c.args.verdict c.in_default-test_front.ensures

pub returns-in-None : goal.returns-in-None
returns-in-None c =
    test_as c.args.self.now c.args.caller (Some c.in-Some.party) c.args.file c.args.args.now c.args.verdict _ c.in-Some.is
    (c.reply-in-None.ensures
    ∙ test_free_answer c.args.self.now c.in-Some.party c.args.file c.args.args.now c.args.verdict c.in_ok-test_barrier.field-0
    c.in_default-test_front.ensures c.in_ok-test_barrier.ensures c.in-None.is)

pub returns-in_ok-denied-in-Some-2 : goal.returns-in_ok-denied-in-Some-2
returns-in_ok-denied-in-Some-2 c =
    test_as c.args.self.now c.args.caller (Some c.in-Some.party) c.args.file c.args.args.now c.args.verdict _ c.in-Some.is
    (c.reply-in-Some-2.ensures
    ∙ test_denied_answer c.args.self.now c.in-Some.party c.args.file c.args.args.now c.args.verdict c.in_ok-test_barrier.field-0 c.in-Some-2.held c.in_ok-denied-in-Some-2.denied
    c.in_default-test_front.ensures c.in_ok-test_barrier.ensures c.in-Some-2.is c.in_ok-denied-in-Some-2.ensures)
