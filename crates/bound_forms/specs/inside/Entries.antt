-- A map's entries as a form.
use Rattle.std.specs.Prelude.{ℕ, ◌+◌, ◌<◌, ◌≡◌, Option, Some, None, List, length, map}
use Rattle.std.specs.Global.{Vec}
use Rattle.std.specs.Ordering.{nat_cmp, ordering_then}
use Rattle.std.specs.Cmp.Lexicographic.{slice_cmp}
use Rattle.std.specs.declared.cmp.Ordering.{Ordering}
use Rattle.bound_terms.specs.declared.bound.Bound.{Bound}
use Rattle.bound_terms.specs.Bounds.{term_of}
use Rattle.bound_forms.specs.Monomials.{Monomial, Form, atom_key}
use Rattle.bound_forms.specs.Coded.{coded, coded_form}
use Rattle.bound_forms.specs.Limits.{past_limit}

-- how many atoms there are, and their keys
abbrev pub Key : Type 0
Key = ℕ × Vec (Vec ℕ)

abbrev pub Scaled : Type 0
Scaled = ℕ × Vec Bound

abbrev pub Entry : Type 0
Entry = Key × Scaled

abbrev pub key_order : Key → Key → Ordering
key_order k l = ordering_then (nat_cmp k.0 l.0) (slice_cmp (λ (x y : Vec ℕ). slice_cmp nat_cmp x.items y.items) k.1.items l.1.items)

-- the keys are those of the atoms
abbrev pub AreKeys : List (Vec ℕ) → List Bound → Type 0
AreKeys keys atoms = map (λ (k : Vec ℕ). k.items) keys ≡ map atom_key (map term_of atoms)

pub record IsKeyed (e : Entry) : Type 0 where
  pub count : e.0.0 ≡ length e.0.1.items
  pub keys : AreKeys e.0.1.items e.1.1.items
  pub small : e.1.0 < past_limit

abbrev pub entry_value : Entry → ℕ × List Bound
entry_value e = (e.1.0, e.1.1.items)

abbrev pub entries_values : List Entry → List (ℕ × List Bound)
entries_values es = map entry_value es

abbrev pub entry_monomial : Entry → Monomial
entry_monomial e = coded (entry_value e)

abbrev pub entries_form : List Entry → Form
entries_form es = coded_form (entries_values es)

-- a coefficient with the one that was there
abbrev pub with_old : ℕ → Option Scaled → ℕ
with_old c None = c
with_old c (Some old) = c + old.0
