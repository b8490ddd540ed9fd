-- How a form that is gathered passes a limit.
use Rattle.std.specs.Prelude.{ℕ, ◌<◌, ◌≤◌, ◌≡◌, List, Option, None, Result, Ok, Err}
use Rattle.bound_terms.specs.declared.bound.Bound.{Bound}
use Rattle.bound_forms.specs.declared.fault.BoundFault.{BoundFault}
use Rattle.bound_forms.specs.declared.fault.BoundFault.TheVariants.{Monomials, Coefficient, Memory}
use Rattle.bound_forms.specs.Monomials.{Form}
use Rattle.bound_forms.specs.Coded.{coded_form}
use Rattle.bound_forms.specs.Limits.{most_monomials, past_limit}
use Rattle.bound_forms.specs.Answered.{Passes}

-- a number that keeps the limit is answered
abbrev pub Limited : Result ℕ BoundFault → ℕ → Type 0
Limited (Ok r) n = (r ≡ n) × (n < past_limit)
Limited (Err Monomials) n = ⊥
Limited (Err Coefficient) n = past_limit ≤ n
Limited (Err Memory) n = ⊥

-- there is room for what stands there, and for another one below the limit
abbrev pub HasRoom : {A B : Type 0} → Result A BoundFault → ℕ → Option B → Type 0
HasRoom (Ok a) n found = found ≡ None → n < most_monomials
HasRoom (Err Monomials) n found = (found ≡ None) × (most_monomials ≤ n)
HasRoom (Err Coefficient) n found = ⊥
HasRoom (Err Memory) n found = ⊥

-- the form has become p, or what p passes is answered
abbrev pub Puts : {A : Type 0} → Result A BoundFault → List (ℕ × List Bound) → Form → Type 0
Puts (Ok a) now p = coded_form now ≡ p
Puts (Err e) now p = Passes e p
