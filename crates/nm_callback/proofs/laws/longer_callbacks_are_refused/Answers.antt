use Rattle.nm_callback.proofs.ReadLaws.{longer_is_refused}
use Rattle.nm_callback.proofs.laws.longer_callbacks_are_refused.Goals as goal

pub returns : goal.returns
returns c call bytes more is known some = longer_is_refused call bytes more is known some
