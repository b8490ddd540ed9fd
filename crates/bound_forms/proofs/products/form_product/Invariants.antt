use Rattle.std.proofs.Common.{◌≡◌, drop}
use Rattle.bound_forms.specs.Monomials.{gathered, products, form_product}
use Rattle.bound_forms.specs.Coded.{coded_form}
use Rattle.bound_forms.proofs.products.form_product.Given as goal

abbrev pub invariant-loop-m : goal.invariant-loop-m
invariant-loop-m l = gathered (coded_form l.gathering) (products (coded_form (drop l.m-index l.p)) (coded_form l.q)) ≡ form_product (coded_form l.p) (coded_form l.q)
