-- The rows of a small sum as multipliers.
use Rattle.std.specs.Prelude.{ℕ, pos, Bool, if◌then◌else◌, [], ◌∷◌}
use Rattle.q128.specs.Fraction.{Fraction, whole}
use Rattle.lin_rows.specs.Proving.{Multipliers}
use Rattle.small_sums.specs.declared.term.Term.{Term}
use Rattle.small_sums.specs.declared.term.Terms.{Terms}
use Rattle.small_sums.specs.declared.term.Terms.TheVariants.{Zero, One, Two}

abbrev pub factor_of : Bool → Fraction
factor_of twice = whole (if twice then pos 2 else pos 1)

abbrev pub term_of : Term → ℕ × Fraction
term_of t = (t.number, factor_of t.twice)

abbrev pub multipliers_of : Terms → Multipliers
multipliers_of Zero = []
multipliers_of (One a) = term_of a ∷ []
multipliers_of (Two a b) = term_of a ∷ term_of b ∷ []
