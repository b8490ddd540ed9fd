-- Cost expressions at other sizes: each divided expression is replaced by its cap.
use Rattle.std.specs.Prelude.{◌*◌, ◌≤◌, List, [], ◌∷◌, ◌++◌, Option, Some, None}
use Rattle.bound_terms.specs.Terms.{Floored, Term, Number, Floor, Total, Product, Greatest, Power, Geometric, Terms, none, more}
use Rattle.node_forms.specs.Parts.{Cap, cap_of}

abbrev mutual
  -- each divided expression is replaced
  pub replaced : (Floored → Floored) → Term → Term
  replaced f (Number n) = Number n
  replaced f (Floor n) = Floor (f n)
  replaced f (Total ts) = Total (all_replaced f ts)
  replaced f (Product ts) = Product (all_replaced f ts)
  replaced f (Greatest ts) = Greatest (all_replaced f ts)
  replaced f (Power b n) = Power b (f n)
  replaced f (Geometric b n) = Geometric b (f n)

  pub all_replaced : (Floored → Floored) → Terms → Terms
  all_replaced f none = none
  all_replaced f (more t ts) = more (replaced f t) (all_replaced f ts)

abbrev mutual
  -- the divided expressions of a term
  pub floors_of : Term → List Floored
  floors_of (Number n) = []
  floors_of (Floor n) = n ∷ []
  floors_of (Total ts) = all_floors ts
  floors_of (Product ts) = all_floors ts
  floors_of (Greatest ts) = all_floors ts
  floors_of (Power b n) = n ∷ []
  floors_of (Geometric b n) = n ∷ []

  pub all_floors : Terms → List Floored
  all_floors none = []
  all_floors (more t ts) = floors_of t ++ all_floors ts

abbrev mutual
  -- each base and each divisor is at least 1
  pub IsProper : Term → Type 0
  IsProper (Number n) = Unit {0}
  IsProper (Floor n) = 1 ≤ n.divisor
  IsProper (Total ts) = AreProper ts
  IsProper (Product ts) = AreProper ts
  IsProper (Greatest ts) = AreProper ts
  IsProper (Power b n) = (1 ≤ b) × (1 ≤ n.divisor)
  IsProper (Geometric b n) = (1 ≤ b) × (1 ≤ n.divisor)

  pub AreProper : Terms → Type 0
  AreProper none = Unit {0}
  AreProper (more t ts) = IsProper t × AreProper ts

-- the cap u over s of an expression that is divided by d: u divided by s * d
abbrev pub capped_by : Option Cap → Floored → Floored
capped_by None n = n
capped_by (Some c) n = record { expression = c.cap; divisor = c.divisor * n.divisor }

abbrev pub capped : List Cap → Term → Term
capped caps t = replaced (λ (n : Floored). capped_by (cap_of caps n.expression) n) t
