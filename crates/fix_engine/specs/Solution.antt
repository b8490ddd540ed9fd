use Rattle.std.specs.Prelude.{ℕ, ◌<◌, ◌==◌, if◌then◌else◌, List, slice_get, unwrap_or, option_map}
use Rattle.std.proofs.Common.{zero, suc}
use Rattle.fix_engine.specs.Order.{Order, Below}
use Rattle.fix_engine.specs.Problem.{Problem}

-- what an edge makes of the facts at its points
abbrev pub carried : {Fact : Type 0} → Problem Fact → (ℕ → Fact) → ℕ → Fact
carried p s e = p.transfer e (s (p.source e)) (option_map s (p.also e))

-- A fact for each point, above the start there and above what each edge into the point makes.
pub record IsSolution {Fact : Type 0} (order : Order Fact) (p : Problem Fact) (s : ℕ → Fact) : Type 0 where
  pub facts : (k : ℕ) → k < p.points → p.IsFact k (s k)
  pub starts : (k : ℕ) → k < p.points → Below order (p.start k) (s k)
  pub edges : (e : ℕ) → e < p.edges → Below order (carried p s e) (s (p.goal e))

-- The solution that lies below every solution, at each point.
pub record IsLeast {Fact : Type 0} (order : Order Fact) (p : Problem Fact) (s : ℕ → Fact) : Type 0 where
  pub solution : IsSolution order p s
  pub least : (t : ℕ → Fact) → IsSolution order p t → (k : ℕ) → k < p.points → Below order (s k) (t k)

-- a list of facts as the fact at each point; past its end the start
abbrev pub at_points : {Fact : Type 0} → Problem Fact → List Fact → ℕ → Fact
at_points p facts k = unwrap_or (slice_get facts k) (p.start k)

-- the start at a point, joined with what each of the first n edges makes, of those that lead to it
abbrev pub gathered : {Fact : Type 0} → Order Fact → Problem Fact → (ℕ → Fact) → ℕ → ℕ → Fact
gathered order p s k zero = p.start k
gathered order p s k (suc n) = (if p.goal n == k then order.join (gathered order p s k n) (carried p s n) else gathered order p s k n)
