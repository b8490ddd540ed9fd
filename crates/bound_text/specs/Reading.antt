-- What is answered for a text.
use Rattle.std.specs.Prelude.{ℕ, ◌≡◌, ◌≤◌, List, length, Result, Ok, Err}
use Rattle.bound_terms.specs.Terms.{Term}
use Rattle.bound_terms.specs.Bounds.{term_of}
use Rattle.bound_terms.specs.Texts.{text_of}
use Rattle.bound_terms.specs.declared.bound.Bound.{Bound}
use Rattle.bound_forms.specs.Normal.{IsNormal}
use Rattle.bound_text.specs.declared.fault.ReadFault.{ReadFault}
use Rattle.bound_text.specs.declared.fault.ReadFault.TheVariants.{At, Memory}

-- the text of no normal form
abbrev pub IsNoForm : List ℕ → Type 0
IsNoForm text = (t : Term) → IsNormal t → ¬ (text_of t ≡ text)

-- the normal form whose text it is, or that it is the text of none
abbrev pub Reads : List ℕ → Result Bound ReadFault → Type 0
Reads text (Ok b) = IsNormal (term_of b) × (text_of (term_of b) ≡ text)
Reads text (Err (At offset)) = IsNoForm text × (offset ≤ length text)
Reads text (Err Memory) = Unit {0}
