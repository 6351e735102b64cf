use Rattle.nm_rpc.proofs.FeedLaws.{fed_append}
use Rattle.nm_rpc.proofs.WholeLaws.{refused_fed}
use Rattle.nm_rpc.proofs.stream_laws.cutting_changes_nothing.Goals as goal

pub returns-clause-cut : goal.returns-clause-cut
returns-clause-cut c = fed_append

pub returns-clause-stays : goal.returns-clause-stays
returns-clause-stays c = refused_fed
