-- The normal form of a bound, by those of its parts.
use Rattle.std.specs.Prelude.{List, [], ◌∷◌}
use Rattle.std.specs.List.{flat_map}
use Rattle.bound_terms.specs.Terms.{Term, Number, Floor, Total, Product, Greatest, Power, Geometric, Terms, none, more}
use Rattle.bound_forms.specs.Monomials.{Form, constant, total_form, product_form}
use Rattle.bound_forms.specs.Lowest.{floor_form, power_form, geometric_form}
use Rattle.bound_forms.specs.Maxima.{greatest_form, pruned, operands_of}

abbrev mutual
  pub form : Term → Form
  form (Number n) = constant n
  form (Floor n) = floor_form n
  form (Total ts) = total_form (forms ts)
  form (Product ts) = product_form (forms ts)
  form (Greatest ts) = greatest_form (pruned [] (flat_map operands_of (forms ts)))
  form (Power b n) = power_form b n
  form (Geometric b n) = geometric_form b n

  pub forms : Terms → List Form
  forms none = []
  forms (more t ts) = form t ∷ forms ts
