use Rattle.std.specs.Prelude.{◌≡◌, ◌⊎◌, ℕ, ◌+◌, ◌*◌, ◌<◌, ◌≤◌, List, [], ◌∷◌, length, Contains, slice_index}
use Rattle.fix_engine.specs.Order.{Order, Below}
use Rattle.fix_engine.specs.Problem.{Problem}
use Rattle.fix_engine.specs.Lawful.{IsChain}
use Rattle.fix_engine.specs.Solution.{IsSolution, at_points, carried}
use Rattle.fix_engine.specs.Derived.{IsDerived}

-- a rising chain at a point that ends in this fact and can still rise so often at most
pub record IsRising {Fact : Type 0} (order : Order Fact) (P : Fact → Type 0) (height : ℕ) (fact : Fact) (room : ℕ) : Type 0 where
  pub before : List Fact
  pub chain : IsChain order P (fact ∷ before)
  pub enough : height ≤ length (fact ∷ before) + room

-- Facts on the way to the least solution: each is a fact of its point, derived, and between the start
-- there and every solution.
pub record IsOnTheWay {Fact : Type 0} (order : Order Fact) (p : Problem Fact) (facts : List Fact) : Type 0 where
  pub count : length facts ≡ p.points
  pub are_facts : (k : ℕ) → k < p.points → p.IsFact k (at_points p facts k)
  pub derived : (k : ℕ) → k < p.points → IsDerived order p k (at_points p facts k)
  pub starts : (k : ℕ) → k < p.points → Below order (p.start k) (at_points p facts k)
  pub below : (t : ℕ → Fact) → IsSolution order p t → (k : ℕ) → k < p.points → Below order (at_points p facts k) (t k)

-- the fact at an edge's goal is above what the edge makes
abbrev pub IsMet : {Fact : Type 0} → Order Fact → Problem Fact → List Fact → ℕ → Type 0
IsMet order p facts e = Below order (carried p (at_points p facts) e) (at_points p facts (p.goal e))

-- each edge is met, or waits
abbrev pub MetOrWaits : {Fact : Type 0} → Order Fact → Problem Fact → List Fact → List ℕ → Type 0
MetOrWaits order p facts waiting = (e : ℕ) → e < p.edges → IsMet order p facts e ⊎ Contains waiting e

-- how many visits the rises that are left can still ask for
abbrev pub visits_left : List ℕ → List (List ℕ) → ℕ
visits_left [] rows = 0
visits_left (room ∷ rooms) [] = 0
visits_left (room ∷ rooms) (row ∷ rows) = room * length row + visits_left rooms rows

-- Facts that came by rising chains, and so can rise only so often that no more than n visits follow.
pub record EndsWithin {Fact : Type 0} (order : Order Fact) (p : Problem Fact) (rows : List (List ℕ)) (facts : List Fact) (waiting : List ℕ) (n : ℕ) : Type 0 where
  -- how often the fact at each point can still rise
  pub rooms : List ℕ
  pub count : length rooms ≡ p.points
  pub rising : (k : ℕ) → k < p.points → IsRising order (p.IsFact k) p.height (at_points p facts k) (slice_index rooms k)
  pub visits : length waiting + visits_left rooms rows ≤ n
