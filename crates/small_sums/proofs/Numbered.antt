-- The numbers of rows that are added.
use Rattle.std.specs.Prelude.{◌≡◌, ℕ, ◌<◌, ◌≤◌}
use Rattle.std.proofs.Common.{arith, subst}
use Rattle.lin_rows.specs.Proving.{AreRowNumbers}
use Rattle.small_sums.specs.declared.term.Term.{Term}
use Rattle.small_sums.specs.declared.term.Terms.{Terms}
use Rattle.small_sums.specs.declared.term.Terms.TheVariants.{One, Two}
use Rattle.small_sums.specs.Terms.{term_of, multipliers_of}

-- a number is one of so many rows
abbrev pub IsWithin : ℕ → Term → Type 0
IsWithin count t = (0 < t.number) × (t.number ≤ count)

pub one_within : (count : ℕ) (terms : Terms) (a : Term) → terms ≡ One a → AreRowNumbers count (multipliers_of terms) → IsWithin count a
one_within count terms a e h = (subst (λ (t : Terms). AreRowNumbers count (multipliers_of t)) e h).each 0 (term_of a) (omega arith)

pub first_within : (count : ℕ) (terms : Terms) (a b : Term) → terms ≡ Two a b → AreRowNumbers count (multipliers_of terms) → IsWithin count a
first_within count terms a b e h = (subst (λ (t : Terms). AreRowNumbers count (multipliers_of t)) e h).each 0 (term_of a) (omega arith)

pub last_within : (count : ℕ) (terms : Terms) (a b : Term) → terms ≡ Two a b → AreRowNumbers count (multipliers_of terms) → IsWithin count b
last_within count terms a b e h = (subst (λ (t : Terms). AreRowNumbers count (multipliers_of t)) e h).each 1 (term_of a) (omega arith)
