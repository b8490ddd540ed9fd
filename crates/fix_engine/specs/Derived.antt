use Rattle.std.specs.Prelude.{◌≡◌, ℕ, ◌<◌, Some}
use Rattle.fix_engine.specs.Order.{Order}
use Rattle.fix_engine.specs.Problem.{Problem}
use Rattle.fix_engine.specs.Solution.{carried}

-- What can be derived at a point: its start, and the join of what is derived there with what an edge
-- into it makes of facts that are derived where the edge reads them.
pub data IsDerived {Fact : Type 0} (order : Order Fact) (p : Problem Fact) : ℕ → Fact → Type 0 where
  start : (k : ℕ) → k < p.points → IsDerived order p k (p.start k)
  joins : (e : ℕ) (s : ℕ → Fact) (fact : Fact) → e < p.edges → IsDerived order p (p.source e) (s (p.source e)) → ((q : ℕ) → p.also e ≡ Some q → IsDerived order p q (s q)) → IsDerived order p (p.goal e) fact → IsDerived order p (p.goal e) (order.join fact (carried p s e))
