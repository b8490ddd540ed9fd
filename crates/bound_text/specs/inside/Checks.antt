-- A form, against a text.
use Rattle.std.specs.Prelude.{ℕ, ◌≡◌, ◌≤◌, List, length, Result, Ok, Err}
use Rattle.bound_terms.specs.Terms.{Term}
use Rattle.bound_terms.specs.Bounds.{term_of}
use Rattle.bound_terms.specs.Texts.{text_of}
use Rattle.bound_terms.specs.declared.bound.Bound.{Bound}
use Rattle.bound_text.specs.declared.fault.ReadFault.{ReadFault}
use Rattle.bound_text.specs.declared.fault.ReadFault.TheVariants.{At, Memory}

-- the term whose text it is, or that it isn't its text
abbrev pub Checks : List ℕ → Term → Result Bound ReadFault → Type 0
Checks text t (Ok b) = (term_of b ≡ t) × (text_of t ≡ text)
Checks text t (Err (At offset)) = ¬ (text_of t ≡ text) × (offset ≤ length text)
Checks text t (Err Memory) = Unit {0}
