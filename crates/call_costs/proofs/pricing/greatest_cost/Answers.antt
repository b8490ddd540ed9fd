use Rattle.std.proofs.Common.{refl, ◌∙◌, arith}
use Rattle.call_costs.specs.Knowing.{cost_in}
use Rattle.call_costs.proofs.Sums.{most_is, greatest_step, greatest_end}
use Rattle.call_costs.proofs.pricing.greatest_cost.Goals as goal

pub loop-m-preserved : goal.loop-m-preserved
loop-m-preserved c =
    greatest_step (cost_in c.args.known.now) c.args.methods.now c.loop-m.m-index _ (record { class = 0; member = 0 }) c.loop-m.most c.known_cost.result c.max-most.result _
    c.loop-m-test.true refl c.known_cost.ensures (c.max-most.ensures ∙ most_is c.loop-m.most c.known_cost.result) c.loop-m.invariant

pub returns : goal.returns
returns c = greatest_end (cost_in c.args.known.now) c.args.methods.now c.loop-m.m-index c.loop-m.most _ (omega arith) c.loop-m.invariant
