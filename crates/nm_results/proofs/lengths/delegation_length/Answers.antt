use Rattle.nm_results.proofs.LengthLaws.{none_measured, reads_measured, writes_measured}
use Rattle.nm_results.proofs.lengths.delegation_length.Goals as goal

pub returns-in-None : goal.returns-in-None
returns-in-None c = none_measured c.args.value.now c.in-None.is

pub returns-in-Read : goal.returns-in-Read
returns-in-Read c = reads_measured c.args.value.now c.in-Read.stateid c.stateid_length.result c.both.result c.in-Read.is c.both.ensures c.stateid_length.ensures

pub returns-in-Write : goal.returns-in-Write
returns-in-Write c = writes_measured c.args.value.now c.in-Write.stateid c.stateid_length-in-Write.result c.both-in-Write.result c.in-Write.is c.both-in-Write.ensures c.stateid_length-in-Write.ensures
