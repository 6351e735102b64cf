use Rattle.nm_rules.proofs.SeqidLaws.{seqids_apart}
use Rattle.nm_rules.proofs.laws.seqids_are_apart.Goals as goal

pub returns : goal.returns
returns c fs grants es owner newer older n legal at_newer at_older less = seqids_apart fs grants es owner newer older n legal at_newer at_older less
