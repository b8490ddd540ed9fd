-- What is answered for a bound: its normal form, or a limit that is passed.
use Rattle.std.specs.Prelude.{◌≡◌, true, [], Result, Ok, Err}
use Rattle.bound_terms.specs.Terms.{Term, Total, Product, Greatest, Terms}
use Rattle.bound_terms.specs.Laws.{IsPart}
use Rattle.bound_terms.specs.declared.bound.Bound.{Bound}
use Rattle.bound_terms.specs.Bounds.{term_of}
use Rattle.bound_forms.specs.declared.fault.BoundFault.{BoundFault}
use Rattle.bound_forms.specs.declared.fault.BoundFault.TheVariants.{Monomials, Coefficient, Memory}
use Rattle.bound_forms.specs.Monomials.{form_term}
use Rattle.bound_forms.specs.Forms.{form}
use Rattle.bound_forms.specs.Limits.{has_many, has_great, Keeps}

-- a term is the other, or a part of it that stands beside no factor 0
pub data Needs (u : Term) : Term → Type 0 where
  itself : Needs u u
  in_total : {v : Term} {ts : Terms} → IsPart v ts → Needs u v → Needs u (Total ts)
  in_product : {v : Term} {ts : Terms} → ¬ (form (Product ts) ≡ []) → IsPart v ts → Needs u v → Needs u (Product ts)
  in_greatest : {v : Term} {ts : Terms} → IsPart v ts → Needs u v → Needs u (Greatest ts)

-- the forms of all that it needs keep both limits
abbrev pub NeedsKeep : Term → Type 0
NeedsKeep t = (u : Term) → Needs u t → Keeps (form u)

-- the form is answered where it keeps both limits with those that it is made of, and a limit where one of these passes it
abbrev pub IsNormalized : Result Bound BoundFault → Term → Type 0
IsNormalized (Ok b) t = (term_of b ≡ form_term (form t)) × NeedsKeep t
IsNormalized (Err Monomials) t = (u : Term) × Needs u t × (has_many (form_term (form u)) ≡ true)
IsNormalized (Err Coefficient) t = (u : Term) × Needs u t × (has_great (form_term (form u)) ≡ true)
IsNormalized (Err Memory) t = Unit {0}
