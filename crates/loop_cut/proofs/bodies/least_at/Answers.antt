use Rattle.std.proofs.Common.{ℕ, List, ◌++◌, subst}
use Rattle.loop_cut.specs.inside.Gathered.{IsLeastOf, part_at}
use Rattle.loop_cut.proofs.Lists.{least_next, least_all}
use Rattle.loop_cut.proofs.bodies.least_at.Goals as goal

pub loop-pc-preserved : goal.loop-pc-preserved
loop-pc-preserved c =
    least_next (part_at c.args.floors.now c.args.blocks.now c.args.numbers.now) c.args.places.now c.loop-pc.pc-index c.loop-pc.lowest c.least-lowest.result c.loop-pc-test.true c.loop-pc.invariant
    (λ ys h. subst (λ (l : List ℕ). IsLeastOf (ys ++ l) c.least-lowest.result) c.part_at.ensures (c.least-lowest.ensures ys h))

pub returns : goal.returns
returns c =
    least_all (part_at c.args.floors.now c.args.blocks.now c.args.numbers.now) c.args.places.now c.loop-pc.pc-index c.loop-pc.lowest c.loop-pc-test.false c.loop-pc.invariant
