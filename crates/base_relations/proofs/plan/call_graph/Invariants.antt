use Rattle.std.proofs.Common.{◌≡◌, ℕ, length}
use Rattle.base_relations.specs.Unfolding.{Calls, ways_at}
use Rattle.base_relations.specs.inside.Plans.{AreEdgesTo}
use Rattle.base_relations.proofs.plan.call_graph.Given as goal

abbrev pub invariant-loop-a : goal.invariant-loop-a
invariant-loop-a l = record {
  nodes : length l.g ≡ length l.ways;
  edges : AreEdgesTo (λ (x : ℕ) (y : ℕ). Calls (ways_at l.ways x) y) (length l.ways) l.g l.a;
}
