use Rattle.nm_journal.proofs.JournalLemmas.{legal_with, seen_with}
use Rattle.nm_journal.proofs.laws.journals_are_legal.Goals as goal

pub returns-clause-legal : goal.returns-clause-legal
returns-clause-legal c fs grants es xs legal are = legal_with fs grants es xs legal are

pub returns-clause-stands : goal.returns-clause-stands
returns-clause-stands c fs grants es xs = seen_with fs grants es xs
