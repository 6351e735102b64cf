use Rattle.std.proofs.Common.{sym, ◌∙◌}
use Rattle.std.proofs.lemmas.Bool.{false≢true}
use Rattle.nm_script.specs.Text.{usage_text_of}
use Rattle.nm_cmd.proofs.replay.replay.Goals as goal

pub returns-in-Ok-clause-usage : goal.returns-in-Ok-clause-usage
unfolding usage_text_of
returns-in-Ok-clause-usage g c = λ e. (sym c.if-not-is_replay.ensures, c.in-Ok.ensures.wrote)

pub returns-in-Err-clause-write_fault : goal.returns-in-Err-clause-write_fault
unfolding usage_text_of
returns-in-Err-clause-write_fault g c = λ e. record {
  risen = c.in-Err.ensures.failed;
  usage = λ k. c.in-Err.ensures.part;
  part = λ k. absurd (false≢true (c.if-not-is_replay.ensures ∙ k));
}
