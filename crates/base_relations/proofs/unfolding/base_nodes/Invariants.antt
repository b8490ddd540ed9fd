use Rattle.std.proofs.Common.{◌≡◌, ◌≤◌, ℕ, length, slice_index_or, None}
use Rattle.base_relations.specs.Direct.{AreBasesTo}
use Rattle.base_relations.proofs.unfolding.base_nodes.Given as goal

abbrev pub invariant-loop-node : goal.invariant-loop-node
invariant-loop-node l = record {
  count : length l.bases.items ≡ length l.fn.bases.items;
  rest : (k : ℕ) → l.node ≤ k → slice_index_or l.bases.items k None ≡ slice_index_or l.fn.bases.items k None;
  made : AreBasesTo l.r l.fn.bases.items l.nodes.items l.node;
}
