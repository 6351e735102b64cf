use Rattle.std.proofs.Common.{◌<◌}
use Rattle.std.proofs.lemmas.List.Elements.{All-from_recursion}
use Rattle.nm_attrs.proofs.MaskLaws.{bits_small}
use Rattle.nm_attrs.proofs.writing.fattr_of.Goals as goal

pub mask_of_attrs-requires : goal.mask_of_attrs-requires
mask_of_attrs-requires c = rw c.items.ensures (All-from_recursion (λ a. a.bit < 64) c.args.attrs.now (bits_small c.args.attrs.now c.requires))
