-- Laws of the forms that bounds have.
use Rattle.std.specs.Prelude.{ℕ, ◌≡◌, ℤ, List, ◌++◌}
use Rattle.bound_terms.specs.Terms.{Floored, Term}
use Rattle.bound_terms.specs.Texts.{floored_text, text_of}
use Rattle.bound_terms.specs.Values.{value_of}
use Rattle.bound_forms.specs.Monomials.{atom_key, form_term}
use Rattle.bound_forms.specs.Forms.{form}
use Rattle.bound_forms.specs.Limits.{Keeps}
use Rattle.bound_forms.specs.Needed.{NeedsKeep}
use Rattle.bound_forms.specs.Normal.{IsLowest, IsNormal, IsAtom}
use Rattle.bound_normal.specs.Held.{IsHeldTerm}

-- the form of what the machine holds meets each condition of a normal form, where it keeps the limits
abbrev pub FormsAreNormal : Type 0
FormsAreNormal = (t : Term) → IsHeldTerm t → Keeps (form t) → IsNormal (form_term (form t))

-- texts tell divided expressions in lowest terms apart, whatever follows them
abbrev pub ExpressionsAreRead : Type 0
ExpressionsAreRead = (n m : Floored) (behind behind_other : List ℕ) → IsLowest n → IsLowest m → floored_text n ++ behind ≡ floored_text m ++ behind_other → (n ≡ m) × (behind ≡ behind_other)

-- two normal forms with one text are one, and so are two atoms with one key
abbrev pub TextsTell : Type 0
TextsTell = (t u : Term) → IsNormal t → IsNormal u → text_of t ≡ text_of u → t ≡ u

abbrev pub KeysTell : Type 0
KeysTell = (a b : Term) → IsAtom a → IsAtom b → atom_key a ≡ atom_key b → a ≡ b

-- the form of what the machine holds has its value at all sizes, where what it needs keeps the limits
abbrev pub FormsKeepValues : Type 0
FormsKeepValues = (t : Term) → IsHeldTerm t → NeedsKeep t → (sizes : List ℤ) → value_of sizes (form_term (form t)) ≡ value_of sizes t

-- the form of a normal form is itself
abbrev pub NormalFormsStay : Type 0
NormalFormsStay = (t : Term) → IsNormal t → form_term (form t) ≡ t

-- and all that it needs keeps the limits
abbrev pub NormalFormsKeep : Type 0
NormalFormsKeep = (t : Term) → IsNormal t → NeedsKeep t
