use Rattle.std.proofs.Common.{◌≡◌, ℕ, length, slice_index_or, None}
use Rattle.base_relations.specs.Direct.{CallsOf}
use Rattle.base_relations.specs.inside.Plans.{AreEdgesTo}
use Rattle.base_relations.proofs.unfolding.base_graph.Given as goal

abbrev pub invariant-loop-a : goal.invariant-loop-a
invariant-loop-a l = record {
  nodes : length l.g ≡ length l.bases;
  edges : AreEdgesTo (λ (x : ℕ) (y : ℕ). CallsOf (slice_index_or l.bases x None) y) (length l.bases) l.g l.a;
}
