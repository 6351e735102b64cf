use Rattle.nm_script.proofs.ScriptLaws.{found, sound, few, only, one}
use Rattle.nm_script.proofs.read.read_script.Goals as goal

pub returns-clause-found : goal.returns-clause-found
returns-clause-found c = found c.args.bytes.now c.read_source.result c.read_source.ensures

pub returns-clause-only : goal.returns-clause-only
returns-clause-only c = only c.args.bytes.now c.read_source.result c.read_source.ensures

pub returns-clause-sound : goal.returns-clause-sound
returns-clause-sound c = sound c.args.bytes.now c.read_source.result c.read_source.ensures

pub returns-clause-few_lines : goal.returns-clause-few_lines
returns-clause-few_lines c = few c.args.bytes.now c.read_source.result c.read_source.ensures

pub returns-clause-one : goal.returns-clause-one
returns-clause-one c = one c.args.bytes.now
