use Rattle.std.proofs.Common.{◌≡◌, ap, sym, ◌∙◌}
use Rattle.std.specs.Prelude.{option_copied}
use Rattle.nm_slot.specs.Passes.{PassNow}
use Rattle.nm_slot.specs.SlotNow.{SlotNow}
use Rattle.nm_slot.proofs.DoorLemmas.{strays}
use Rattle.nm_slot.proofs.slot.Slot.stop_called.Goals as goal

pub returns-then-is_astray : goal.returns-then-is_astray
returns-then-is_astray c =
    let its : c.pass.inside.epoch ≡ c.args.pass.now.epoch = ap (λ (p : PassNow). p.epoch) c.pass.view_is in
    let here : c.self.inside.epoch ≡ c.args.self.now.view.own.epoch = ap (λ (s : SlotNow). s.view.own.epoch) c.self.view_is in
    rw (its, here) (strays c.args.pass.now.epoch (option_copied c.args.lease) c.args.self.now.view.own (sym c.is_astray.ensures ∙ c.if-is_astray.true))
