use Rattle.std.proofs.Common.{◌≤◌, length, arith}
use Rattle.oci_names.specs.Algorithms.{all}
use Rattle.cosign_pull.proofs.LayerTexts.{all_served, served_next}
use Rattle.cosign_pull.proofs.part.used_algorithms.Goals as goal

pub loop-algorithm-preserved : goal.loop-algorithm-preserved
loop-algorithm-preserved c = served_next c.loop-algorithm.used c.in_ok-used.used c.args.descriptors.now c.loop-algorithm.algorithm-index _ c.loop-algorithm-test.true c.in_ok-used.ensures.one c.in_ok-used.ensures.others c.loop-algorithm.invariant

pub returns : goal.returns
returns c =
    let end : length all ≤ c.loop-algorithm.algorithm-index = c.loop-algorithm-test.false in
    all_served c.loop-algorithm.used c.args.descriptors.now (λ k a lt. c.loop-algorithm.invariant k a (omega (arith, lt, end)))
