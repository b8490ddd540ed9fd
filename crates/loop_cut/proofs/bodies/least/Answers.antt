use Rattle.loop_cut.proofs.Lists.{least_more, least_whole}
use Rattle.loop_cut.proofs.bodies.least.Goals as goal

pub loop-n-preserved : goal.loop-n-preserved
loop-n-preserved c =
    λ xs h. least_more xs c.args.numbers.now c.loop-n.n-index c.loop-n.least c.lower-least.result c.loop-n-test.true (c.loop-n.invariant xs h) (λ zs k. c.lower-least.ensures zs k)

pub returns : goal.returns
returns c = λ xs h. least_whole xs c.args.numbers.now c.loop-n.n-index c.loop-n.least c.loop-n-test.false (c.loop-n.invariant xs h)
