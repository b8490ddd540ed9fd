-- What is answered meets what normal forms promise.
use Rattle.std.specs.Prelude.{Result, Ok, Err, ℤ, List, ◌≡◌, IfOk}
use Rattle.std.proofs.Common.{sym, ◌∙◌, ap, subst}
use Rattle.bound_terms.specs.declared.bound.Bound.{Bound}
use Rattle.bound_terms.specs.Bounds.{term_of}
use Rattle.bound_terms.specs.Terms.{Term}
use Rattle.bound_terms.specs.Values.{value_of}
use Rattle.bound_forms.specs.declared.fault.BoundFault.{BoundFault}
use Rattle.bound_forms.specs.Normal.{IsNormal}
use Rattle.bound_forms.specs.Needed.{IsNormalized, itself}
use Rattle.bound_normal.specs.Held.{IsHeldTerm}
use Rattle.bound_normal.proofs.Shaping.{forms_are_normal}
use Rattle.bound_normal.proofs.Values.{forms_keep_values}

pub is_normal : (r : Result Bound BoundFault) (t : Term) → IsHeldTerm t → IsNormalized r t → IfOk r (λ b. IsNormal (term_of b))
is_normal (Ok b) t held h = subst IsNormal (sym h.0) (forms_are_normal t held (h.1 t itself))
is_normal (Err e) t held h = tt

pub keeps_value : (r : Result Bound BoundFault) (t : Term) → IsHeldTerm t → IsNormalized r t → IfOk r (λ b. (sizes : List ℤ) → value_of sizes (term_of b) ≡ value_of sizes t)
keeps_value (Ok b) t held h = λ sizes. ap (value_of sizes) h.0 ∙ forms_keep_values t held h.1 sizes
keeps_value (Err e) t held h = tt
