use Rattle.std.proofs.Common.{◌≡◌, take, map}
use Rattle.relations.specs.declared.direct.Called.{Called}
use Rattle.base_relations.specs.Direct.{AreNamed}
use Rattle.base_relations.proofs.unfolding.called_of.Given as goal

abbrev pub invariant-loop-node : goal.invariant-loop-node
invariant-loop-node l = record {
  numbers : map (λ (c : Called). c.node) l.called ≡ take l.node-index l.nodes;
  names : AreNamed l.r l.called;
}
