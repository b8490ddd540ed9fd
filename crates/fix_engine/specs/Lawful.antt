use Rattle.std.specs.Prelude.{◌≡◌, ◌≢◌, ℕ, ◌<◌, ◌≤◌, List, [], ◌∷◌, length, Option, Some}
use Rattle.fix_engine.specs.Order.{Order, Below}
use Rattle.fix_engine.specs.Problem.{Problem, Both}

-- the test is a partial order on the facts that are in P
pub record IsOrder {Fact : Type 0} (order : Order Fact) (P : Fact → Type 0) : Type 0 where
  pub reflexive : (a : Fact) → P a → Below order a a
  pub antisymmetric : (a b : Fact) → P a → P b → Below order a b → Below order b a → a ≡ b
  pub transitive : (a b c : Fact) → P a → P b → P c → Below order a b → Below order b c → Below order a c

-- the join of two facts in P is in P, and is their least upper bound there
pub record IsJoin {Fact : Type 0} (order : Order Fact) (P : Fact → Type 0) : Type 0 where
  pub closed : (a b : Fact) → P a → P b → P (order.join a b)
  pub left : (a b : Fact) → P a → P b → Below order a (order.join a b)
  pub right : (a b : Fact) → P a → P b → Below order b (order.join a b)
  pub least : (a b c : Fact) → P a → P b → P c → Below order a c → Below order b c → Below order (order.join a b) c

-- facts in P, from the last down, each strictly above the next
abbrev pub IsChain : {Fact : Type 0} → Order Fact → (Fact → Type 0) → List Fact → Type 0
IsChain order P [] = Unit {0}
IsChain order P (a ∷ []) = P a
IsChain order P (a ∷ b ∷ rest) = P a × Below order b a × (b ≢ a) × IsChain order P (b ∷ rest)

-- What a problem owes, of its facts alone: at each point the test is an order, the join is the least
-- upper bound, and no rising chain is longer than the height; edges end at points, make facts of
-- facts, and keep the order.
pub record IsLawful {Fact : Type 0} (order : Order Fact) (p : Problem Fact) : Type 0 where
  pub alike : (k : ℕ) (a b : Fact) → k < p.points → p.IsFact k a → p.IsFact k b → order.Alike a b
  pub ordered : (k : ℕ) → k < p.points → IsOrder order (p.IsFact k)
  pub joined : (k : ℕ) → k < p.points → IsJoin order (p.IsFact k)
  pub height : (k : ℕ) (chain : List Fact) → k < p.points → IsChain order (p.IsFact k) chain → length chain ≤ p.height
  pub source : (e : ℕ) → e < p.edges → p.source e < p.points
  pub also : (e q : ℕ) → e < p.edges → p.also e ≡ Some q → q < p.points
  pub goal : (e : ℕ) → e < p.edges → p.goal e < p.points
  pub start : (k : ℕ) → k < p.points → p.IsFact k (p.start k)
  pub transfer : (e : ℕ) (a : Fact) (b : Option Fact) → e < p.edges → p.IsFact (p.source e) a → Both p.IsFact (p.also e) b → p.IsFact (p.goal e) (p.transfer e a b)
  pub monotone : (e : ℕ) (a c : Fact) (b d : Option Fact) → e < p.edges → p.IsFact (p.source e) a → p.IsFact (p.source e) c → Both p.IsFact (p.also e) b → Both p.IsFact (p.also e) d → Below order a c → Both (Below order) b d → Below order (p.transfer e a b) (p.transfer e c d)
