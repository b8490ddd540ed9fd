-- The closed form of a node (Albert, Arenas, Genaim and Puebla, Closed-form upper bounds in static cost analysis, 2011: the
-- number of nodes of an evaluation tree times what one costs).
use Rattle.std.specs.Prelude.{ℕ, zero, suc, ℤ, pos, ◌+ℤ◌, List, [], ◌∷◌}
use Rattle.lin_rows.specs.Linear.{Linear}
use Rattle.bound_terms.specs.Terms.{Floored, Term, Floor, Total, Product, Greatest, Power, Geometric, terms}
use Rattle.rankings.specs.Rankings.{raised}
use Rattle.node_forms.specs.Costs.{Costs}

-- f + c and the drop d
pub record Ranking : Type 0 where
  pub f : Linear
  pub c : ℤ
  pub d : ℕ

-- how many visits there are at most, one after another: f(x) + c + d divided by d
abbrev pub height_of : Ranking → Floored
height_of r = record { expression = raised r.f (r.c +ℤ pos r.d); divisor = r.d }

-- the greatest of costs
abbrev pub largest : List Term → Term
largest costs = Greatest (terms costs)

abbrev pub two_parts : Term → Term → Term
two_parts a b = Total (terms (a ∷ b ∷ []))

abbrev pub times_cost : Term → List Term → Term
times_cost t costs = Product (terms (t ∷ largest costs ∷ []))

-- n * visit + last for one self call, geo(b, n) * visit + pow(b, n) * last for more, last for none
abbrev pub form_by : ℕ → Costs → Floored → Term
form_by zero costs n = largest costs.last
form_by (suc zero) costs n = two_parts (times_cost (Floor n) costs.visit) (largest costs.last)
form_by (suc (suc b)) costs n = two_parts (times_cost (Geometric (suc (suc b)) n) costs.visit) (times_cost (Power (suc (suc b)) n) costs.last)

abbrev pub form_of : Costs → Floored → Term
form_of costs n = form_by costs.calls costs n
