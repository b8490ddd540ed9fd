use Rattle.std.proofs.Common.{arith}
use Rattle.small_levels.proofs.FallParts.{coefficients_all}
use Rattle.small_levels.proofs.falls.fall_coefficients.Goals as goal

pub returns : goal.returns
returns c =
    coefficients_all c.args.f.now c.args.next.now c.loop-v.all.items c.longest-places.result c.loop-v.v (omega (arith, c.longest-places.ensures.least, c.len.ensures)) c.longest-places.ensures.each
    (omega arith) c.loop-v-test.false (omega (arith, c.loop-v.auto.v-end)) c.loop-v.invariant.count c.loop-v.invariant.each
