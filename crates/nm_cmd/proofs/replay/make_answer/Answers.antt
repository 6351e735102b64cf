use Rattle.std.proofs.Common.{◌≡◌, Ok, Err}
use Rattle.nm_script.specs.declared.script.ScriptFault.TheVariants.{At}
use Rattle.nm_script.specs.Reading.{script_at}
use Rattle.nm_cmd.proofs.ReplayLaws.{refused_is}
use Rattle.nm_cmd.proofs.replay.make_answer.Goals as goal

pub returns-in_ok-fault_text-in-Err-At : goal.returns-in_ok-fault_text-in-Err-At
returns-in_ok-fault_text-in-Err-At c =
    let exact : script_at c.args.bytes.now ≡ Err (At c.in-Err-At.line c.in-Err-At.why) = rw c.in-Err-At.field-0-is at c.in-Err-At.ensures.exact in
    refused_is c.args.bytes.now c.in-Err-At.line c.in-Err-At.why c.in_ok-fault_text-in-Err-At.field-0.items exact
    (λ s is. let told : Ok s ≡ Err (At c.in-Err-At.line c.in-Err-At.why) = rw c.in-Err-At.field-0-is at (c.in-Err-At.ensures.only s is) in cc)
    c.in_ok-fault_text-in-Err-At.ensures
