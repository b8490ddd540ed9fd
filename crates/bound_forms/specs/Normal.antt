-- What a normal form is.
use Rattle.std.specs.Prelude.{ℕ, ◌≡◌, ◌<◌, ◌≤◌, ◌^◌, ◌++◌, false, List, [], ◌∷◌, length, map, All, FitsSigned, unsigned_abs}
use Rattle.std.specs.Int.{w128, ◌∣◌}
use Rattle.std.specs.declared.cmp.Ordering.TheVariants.{Less, Greater}
use Rattle.bound_terms.specs.Terms.{Floored, Term, Number, Floor, Total, Product, Greatest, Power, Geometric, Terms, none, more}
use Rattle.bound_forms.specs.Monomials.{Form, atom_order, atoms_order}
use Rattle.bound_forms.specs.Lowest.{trimmed}
use Rattle.bound_forms.specs.Maxima.{covers, listed, form_of, operands_of}
use Rattle.bound_forms.specs.Limits.{most_monomials, past_limit}

-- ---- atoms
-- the machine holds an expression and its divisor
pub record IsHeld (n : Floored) : Type 0 where
  pub coefficients : All (FitsSigned w128) n.expression.coefficients
  pub constant : FitsSigned w128 n.expression.constant
  pub variables : length n.expression.coefficients < 2 ^ 32
  pub positive : 1 ≤ n.divisor

-- an expression that depends on a size, with a divisor that has nothing in common with all of it
pub record IsLowest (n : Floored) : Type 0 where
  pub held : IsHeld n
  pub depends : 0 < length n.expression.coefficients
  pub last_is_used : trimmed n.expression.coefficients ≡ n.expression.coefficients
  pub nothing_common : (g : ℕ) → g ∣ n.divisor → g ∣ unsigned_abs n.expression.constant → All (λ c. g ∣ unsigned_abs c) n.expression.coefficients → g ≡ 1
  pub within_limit : n.divisor < past_limit

-- powers, and sums of them, of a base that is at least 2
pub record IsRaised (b : ℕ) (n : Floored) : Type 0 where
  pub base : 2 ≤ b
  pub held : b < 2 ^ 128
  pub exponent : IsLowest n

-- a maximum of two or more forms, none of them a maximum alone, and none with another that has at least its coefficient on
-- each monomial
pub record IsFlat (ps : List Form) : Type 0 where
  pub several : 2 ≤ length ps
  pub flat : All (λ p. operands_of p ≡ p ∷ []) ps
  pub needed : (before behind : List Form) (p : Form) → ps ≡ before ++ p ∷ behind → All (λ q. covers q p ≡ false) (before ++ behind)

-- ---- monomials and sums
-- each goes before the next; so no two have atoms with the same keys
abbrev pub Rising : Form → Type 0
Rising [] = Unit {0}
Rising (m ∷ []) = Unit {0}
Rising (m ∷ n ∷ p) = (atoms_order m.atoms n.atoms ≡ Less) × Rising (n ∷ p)

-- none goes after the next; equal ones may follow each other
abbrev pub NotFalling : List Term → Type 0
NotFalling [] = Unit {0}
NotFalling (a ∷ []) = Unit {0}
NotFalling (a ∷ b ∷ rest) = ¬ (atom_order a b ≡ Greater) × NotFalling (b ∷ rest)

-- a coefficient and its atoms, multiplied out
pub record IsMonomial (c : ℕ) (atoms : List Term) : Type 0 where
  pub positive : 1 ≤ c
  pub within_limit : c < past_limit
  pub in_order : NotFalling atoms

pub record IsSum (p : Form) : Type 0 where
  pub in_order : Rising p
  pub few : length p ≤ most_monomials

abbrev mutual
  -- a sum of monomials
  pub IsNormal : Term → Type 0
  IsNormal (Total ts) = AreMonomials ts × IsSum (form_of (Total ts))
  IsNormal t = ⊥

  pub AreNormal : Terms → Type 0
  AreNormal none = Unit {0}
  AreNormal (more t ts) = IsNormal t × AreNormal ts

  -- products of a number and atoms
  pub AreMonomials : Terms → Type 0
  AreMonomials none = Unit {0}
  AreMonomials (more t ts) = IsProduct t × AreMonomials ts

  pub IsProduct : Term → Type 0
  IsProduct (Product ts) = IsScaled ts
  IsProduct t = ⊥

  pub IsScaled : Terms → Type 0
  IsScaled (more (Number c) ts) = IsMonomial c (listed ts) × AreAtoms ts
  IsScaled ts = ⊥

  pub AreAtoms : Terms → Type 0
  AreAtoms none = Unit {0}
  AreAtoms (more t ts) = IsAtom t × AreAtoms ts

  pub IsAtom : Term → Type 0
  IsAtom (Floor n) = IsLowest n
  IsAtom (Greatest ts) = AreNormal ts × IsFlat (map form_of (listed ts))
  IsAtom (Geometric b n) = IsRaised b n
  IsAtom (Power b n) = IsRaised b n
  IsAtom t = ⊥
