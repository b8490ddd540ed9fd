use Rattle.std.proofs.Common.{arith}
use Rattle.base_relations.proofs.Assembling.{lengths_small, size_is}
use Rattle.base_relations.proofs.unfolding.sizes.Goals as goal

pub overflow_cast-result : goal.overflow_cast-result
overflow_cast-result c =
    let small = lengths_small _ c.args.r.now c.args.node c.lengths.result.now c.nodes-nodes.ensures.scoped.scoped c.lengths.ensures in
    omega arith

pub returns-clause-is : goal.returns-clause-is
returns-clause-is c = size_is c.args.r.now c.args.node c.lengths.result.now c.lengths.ensures

pub returns-clause-small : goal.returns-clause-small
returns-clause-small c = lengths_small _ c.args.r.now c.args.node c.lengths.result.now c.nodes-nodes.ensures.scoped.scoped c.lengths.ensures
