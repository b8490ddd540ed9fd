use Rattle.std.proofs.Common.{◌≡◌, map, drop}
use Rattle.bound_forms.specs.Monomials.{gathered, monomial_product}
use Rattle.bound_forms.specs.Coded.{coded, coded_form}
use Rattle.bound_forms.proofs.products.put_row.Given as goal

abbrev pub invariant-loop-n : goal.invariant-loop-n
invariant-loop-n l = gathered (coded_form l.gathering) (map (monomial_product (coded l.m)) (coded_form (drop l.n-index l.q))) ≡ gathered (coded_form l.initial.gathering) (map (monomial_product (coded l.m)) (coded_form l.q))
