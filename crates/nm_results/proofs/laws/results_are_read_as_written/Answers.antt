use Rattle.nm_results.specs.Results.{results_bytes}
use Rattle.nm_results.proofs.ResultLaws.{results_again}
use Rattle.nm_results.proofs.WrittenLaws.{results_written, results_fit, read_fits}
use Rattle.nm_results.proofs.laws.results_are_read_as_written.Goals as goal

pub returns-clause-spelled : goal.returns-clause-spelled
returns-clause-spelled c = results_written

pub returns-clause-read : goal.returns-clause-read
returns-clause-read c v fits = results_again v (results_bytes v) (results_written v fits)

pub returns-clause-condition : goal.returns-clause-condition
returns-clause-condition c = results_fit

pub returns-clause-once_read : goal.returns-clause-once_read
returns-clause-once_read c = read_fits
