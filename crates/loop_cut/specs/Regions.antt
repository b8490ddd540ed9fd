-- Regions of what a root reaches: that of each loop, and that of no loop. Seen from a region, each loop directly inside is
-- one point. (Loops with one entry: Aho, Lam, Sethi and Ullman, Compilers, 9.6.)
use Rattle.std.specs.Prelude.{◌≡◌, ◌≢◌, ◌⊎◌, ℕ, Option, Some, None, List, [], ◌∷◌, Contains}
use Rattle.graph_core.specs.Graphs.{HasEdge}
use Rattle.graph_core.specs.Loops.{HasLoop, IsInLoop}
use Rattle.graph_loops.specs.Nesting.{IsInnermost, IsParent}
use Rattle.loop_cut.specs.declared.point.Point.{Point}
use Rattle.loop_cut.specs.declared.point.Point.TheVariants as points

-- an edge leads from the loop of h to x, which is outside
abbrev pub IsExit : List (List ℕ) → ℕ → ℕ → ℕ → Type 0
IsExit g root h x = (IsInLoop g root h x → ⊥) × ((a : ℕ) × IsInLoop g root h a × HasEdge g a x)

-- the point is one of the region: a node that lies in no loop inside it, or a loop directly inside it
abbrev pub IsPointIn : List (List ℕ) → ℕ → Option ℕ → Point → Type 0
IsPointIn g root region (points.Block a) = IsInnermost g root a region
IsPointIn g root region (points.Loop h) = HasLoop g root h × IsParent g root h region

-- the node belongs to the point
abbrev pub IsOf : List (List ℕ) → ℕ → Point → ℕ → Type 0
IsOf g root (points.Block a) x = x ≡ a
IsOf g root (points.Loop h) x = IsInLoop g root h x

-- an edge leads from the point to x: from a loop, out of it
abbrev pub LeadsTo : List (List ℕ) → ℕ → Point → ℕ → Type 0
LeadsTo g root (points.Block a) x = HasEdge g a x
LeadsTo g root (points.Loop h) x = IsExit g root h x

-- an edge leads from a point to x, within the region in which x lies
pub record ComesFrom (g : List (List ℕ)) (root x : ℕ) (p : Point) : Type 0 where
  pub region : Option ℕ
  pub lies : IsInnermost g root x region
  pub point : IsPointIn g root region p
  pub leads : LeadsTo g root p x

-- two points lead to x
pub record IsJoin (g : List (List ℕ)) (root x : ℕ) : Type 0 where
  pub one : Point
  pub other : Point
  pub apart : one ≢ other
  pub from_one : ComesFrom g root x one
  pub from_other : ComesFrom g root x other

-- the root, the entry of a loop, or a join
abbrev pub IsHead : List (List ℕ) → ℕ → ℕ → Type 0
IsHead g root x = (x ≡ root) ⊎ (HasLoop g root x ⊎ IsJoin g root x)

-- ---- walks in a region

-- the node at which the point is come to
abbrev pub place_of : Point → ℕ
place_of (points.Block a) = a
place_of (points.Loop h) = h

-- an edge leads from a point to another point of the region
pub record StepsTo (g : List (List ℕ)) (root : ℕ) (region : Option ℕ) (p q : Point) : Type 0 where
  pub node : ℕ
  pub point : IsPointIn g root region q
  pub leads : LeadsTo g root p node
  pub lies : IsOf g root q node

-- the point is the entry of the region's loop
abbrev pub IsEntryOf : Option ℕ → Point → Type 0
IsEntryOf None q = ⊥
IsEntryOf (Some h) q = q ≡ points.Block h

-- from a point of the region to each next one, and never to the region's entry
abbrev pub Walks : List (List ℕ) → ℕ → Option ℕ → Point → List Point → Type 0
Walks g root region p [] = Unit {0}
Walks g root region p (q ∷ rest) = StepsTo g root region p q × (IsEntryOf region q → ⊥) × Walks g root region q rest

-- no point stands in the list twice
abbrev pub AreOnce : List Point → Type 0
AreOnce [] = Unit {0}
AreOnce (p ∷ rest) = (Contains rest p → ⊥) × AreOnce rest
