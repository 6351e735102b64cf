use Rattle.std.proofs.Common.{◌<◌, ◌^◌, subst, arith}
use Rattle.std.proofs.lemmas.List.{get_or_default}
use Rattle.std.proofs.Math.Facts.{Fits-lt-pow}
use Rattle.nm_results.proofs.LengthLaws.{bitmap_measured}
use Rattle.nm_results.proofs.lengths.bitmap_length.Goals as goal

pub returns : goal.returns
returns c =
    bitmap_measured c.args.words.now (omega arith) (λ k d lt. subst (λ n. n < 2 ^ 32) (get_or_default c.args.words.now k 0 d lt) (Fits-lt-pow (c.type_inv.words k)))
