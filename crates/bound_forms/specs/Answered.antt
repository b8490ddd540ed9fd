-- What is answered for a form, and for an expression in lowest terms: the limit is passed exactly where it isn't made.
use Rattle.std.specs.Prelude.{ℕ, ◌<◌, ◌≤◌, ◌≡◌, nat_le, true, List, length, map, All, Result, Ok, Err}
use Rattle.std.specs.List.{list_any}
use Rattle.std.specs.Global.{Vec}
use Rattle.bound_terms.specs.declared.bound.Bound.{Bound}
use Rattle.bound_terms.specs.Terms.{Floored}
use Rattle.bound_forms.specs.declared.fault.BoundFault.{BoundFault}
use Rattle.bound_forms.specs.declared.fault.BoundFault.TheVariants.{Monomials, Coefficient, Memory}
use Rattle.bound_forms.specs.Monomials.{Monomial, Form, form_term}
use Rattle.bound_forms.specs.Coded.{coded_form}
use Rattle.bound_forms.specs.Limits.{most_monomials, past_limit, has_many, has_great, Keeps}

-- the form itself keeps both limits; of its atoms nothing is said
pub record IsSmall (p : Form) : Type 0 where
  pub few : length p ≤ most_monomials
  pub small : All (λ (m : Monomial). m.coefficient < past_limit) p

-- what it has too many of, or too great
abbrev pub Passes : BoundFault → Form → Type 0
Passes Monomials p = most_monomials < length p
Passes Coefficient p = list_any (λ (m : Monomial). nat_le past_limit m.coefficient) p ≡ true
Passes Memory p = Unit {0}

-- the form is made, or what it passes is answered
abbrev pub Makes : Result (Vec (ℕ × List Bound)) BoundFault → Form → Type 0
Makes (Ok f) p = (coded_form f.items ≡ p) × IsSmall p
Makes (Err e) p = Passes e p

-- the form is made and keeps both limits with its atoms, or passes the one that is answered
abbrev pub MakesWhole : Result (Vec (ℕ × List Bound)) BoundFault → Form → Type 0
MakesWhole (Ok f) p = (coded_form f.items ≡ p) × Keeps p
MakesWhole (Err Monomials) p = has_many (form_term p) ≡ true
MakesWhole (Err Coefficient) p = has_great (form_term p) ≡ true
MakesWhole (Err Memory) p = Unit {0}

abbrev pub coded_forms : List (Vec (ℕ × List Bound)) → List Form
coded_forms fs = map (λ (f : Vec (ℕ × List Bound)). coded_form f.items) fs

-- an expression whose divisor keeps the limit
abbrev pub GivesLowest : Result Floored BoundFault → Floored → Type 0
GivesLowest (Ok m) n = (m ≡ n) × (m.divisor < past_limit)
GivesLowest (Err Monomials) n = ⊥
GivesLowest (Err Coefficient) n = past_limit ≤ n.divisor
GivesLowest (Err Memory) n = Unit {0}
