use Rattle.std.proofs.Common.{◌≡◌, ℕ, ◌<◌, ◌∙◌, replicate, arith, sym, refl}
use Rattle.std.proofs.lemmas.List.{get_or-replicate}
use Rattle.cost_model.specs.Costs.{cost_at}
use Rattle.cost_model.proofs.model.CostModel+EachOne.counting.Goals as goal

-- each cost is 1
one : (n op : ℕ) → op < n → cost_at (replicate n 1) op ≡ 1
one n op known = get_or-replicate n op 1 0 known

pub new-requires-clause-small : goal.new-requires-clause-small
new-requires-clause-small c = record { whole = refl; small = λ op known. omega (arith, one 202 op (omega arith)) }

pub new-requires-clause-answered : goal.new-requires-clause-answered
new-requires-clause-answered c = λ op known. (tt, λ cost is. is ∙ sym (one 202 op (omega arith)))
