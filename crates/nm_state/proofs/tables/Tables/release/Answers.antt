use Rattle.nm_state.proofs.LockLemmas.{release_goes, release_nobody, release_refused}
use Rattle.nm_state.proofs.tables.Tables.release.Goals as goal

pub returns-in_default : goal.returns-in_default
returns-in_default c = rw c.reply.ensures (release_nobody c.args.self.now c.args.caller c.args.file c.args.args.now c.args.verdict c.in_default.is)

pub returns-in-Some-release_stop : goal.returns-in-Some-release_stop
returns-in-Some-release_stop c =
    rw c.reply-in-Some-release_stop.ensures
    (release_refused c.args.self.now c.args.caller c.in-Some.party c.args.file c.args.args.now c.args.verdict c.in-Some-release_stop.status c.in-Some.is
    c.in-Some-release_stop.ensures)

pub returns : goal.returns
returns c =
    rw (c.reply-2.ensures, c.drop_locker.ensures)
    (release_goes c.args.self.now c.args.caller c.in-Some.party c.args.file c.args.args.now c.args.verdict c.in_ok-owner.owner c.in-Some.is
    c.in_ok-owner.ensures c.in_default-release_stop.ensures)
