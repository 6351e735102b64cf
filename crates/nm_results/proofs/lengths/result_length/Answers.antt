use Rattle.std.proofs.Common.{refl}
use Rattle.nm_results.proofs.LengthLaws.{result_measured}
use Rattle.nm_results.proofs.lengths.result_length.Goals as goal

pub returns : goal.returns
returns c =
    result_measured c.args.value.now c.value_length.result c.both.result (c.if-not-has_its_arm.ensures.0 refl) c.both.ensures c.value_length.ensures
