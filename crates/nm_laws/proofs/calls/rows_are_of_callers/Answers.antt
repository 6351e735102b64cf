use Rattle.nm_laws.proofs.Callers.{callers-seen}
use Rattle.nm_laws.proofs.calls.rows_are_of_callers.Goals as goal

pub returns : goal.returns
returns c fs grants es call verdict party legal has = callers-seen fs grants es call verdict party legal has
