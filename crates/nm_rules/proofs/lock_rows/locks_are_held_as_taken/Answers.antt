use Rattle.nm_rules.proofs.LegalLocks.{byte-seen}
use Rattle.nm_rules.proofs.lock_rows.locks_are_held_as_taken.Goals as goal

pub returns : goal.returns
returns c fs grants es legal owner file byte = byte-seen fs grants es owner file byte legal
