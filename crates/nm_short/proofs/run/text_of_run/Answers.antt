use Rattle.std.proofs.Common.{◌∙◌}
use Rattle.nm_short.proofs.FileFirst.{clients_are_short}
use Rattle.nm_short.proofs.RunLaws.{text_of_script}
use Rattle.nm_short.proofs.run.text_of_run.Goals as goal

pub text_of_lines-requires : goal.text_of_lines-requires
text_of_lines-requires c = record {
  short = clients_are_short c.args.script.now c.requires;
  few = c.requires.head.file_systems;
}

pub returns : goal.returns
returns c = c.in_ok-text_of_lines.ensures ∙ text_of_script c.args.script.now c.requires
