-- What a sum that was tried is.
use Rattle.std.specs.Prelude.{◌≡◌, ℕ, zero, suc, ◌<◌, ◌≤◌, ℤ, Bool, true, false, List, length, Ok, slice_index_or}
use Rattle.std.proofs.Common.{arith, refl, sym, ap, ◌∙◌, subst, inl, inr}
use Rattle.std.proofs.lemmas.List.{length-map}
use Rattle.q128.specs.Fraction.{Fraction, whole, IsLowest}
use Rattle.lin_rows.specs.Linear.{Linear}
use Rattle.lin_rows.specs.Combining.{Combination, zeros, rows_added, HasCoefficients}
use Rattle.lin_rows.specs.Rows.{lins, longest_of}
use Rattle.lin_rows.specs.declared.row.Row.{Row}
use Rattle.small_sums.specs.declared.term.Terms.{Terms}
use Rattle.small_sums.specs.declared.term.Terms.TheVariants.{Zero, One, Two}
use Rattle.small_sums.specs.Sums.{IsFactor, IsSmallSum}
use Rattle.small_sums.specs.Terms.{factor_of, multipliers_of}
use Rattle.small_sums.specs.inside.Search.{AreTerms, IsSumOf}
use Rattle.small_sums.proofs.Matches.{whole_constant}

is_factor : (twice : Bool) → IsFactor (factor_of twice)
is_factor true = inr refl
is_factor false = inl refl

pub few_terms : (terms : Terms) → length (multipliers_of terms) ≤ 2
few_terms Zero = omega arith
few_terms (One a) = omega arith
few_terms (Two a b) = omega arith

factors_at : (terms : Terms) (k : ℕ) (d : ℕ × Fraction) → k < length (multipliers_of terms) → IsFactor (slice_index_or (multipliers_of terms) k d).1
factors_at Zero k d lt = absurd (omega (arith, lt))
factors_at (One a) zero d lt = is_factor a.twice
factors_at (One a) (suc k) d lt = absurd (omega (arith, lt))
factors_at (Two a b) zero d lt = is_factor a.twice
factors_at (Two a b) (suc zero) d lt = is_factor b.twice
factors_at (Two a b) (suc (suc k)) d lt = absurd (omega (arith, lt))

pub small_terms : (rows : List Linear) (terms : Terms) (s : Combination) → AreTerms (length rows) terms → rows_added rows (zeros (longest_of rows)) (multipliers_of terms) ≡ Ok s → IsSmallSum rows 2 (multipliers_of terms) s
small_terms rows terms s are e = record { few = few_terms terms; rising = are.rising; numbers = are.numbers; factors = factors_at terms; counts = e }

pub tried : (rows : List Row) (goal : Linear) (terms : Terms) (before s : Combination) (z : ℤ) → before ≡ zeros (longest_of (lins rows)) → AreTerms (length rows) terms → rows_added (lins rows) before (multipliers_of terms) ≡ Ok s → HasCoefficients s goal → IsLowest s.constant → z ≡ s.constant.num
    → IsSumOf (lins rows) goal terms (record { terms = terms; constant = z })
tried rows goal terms before s z fresh are e same low is =
    let counts : rows_added (lins rows) (zeros (longest_of (lins rows))) (multipliers_of terms) ≡ Ok s = ap (λ (b : Combination). rows_added (lins rows) b (multipliers_of terms)) (sym fresh) ∙ e in
    let numbered : AreTerms (length (lins rows)) terms = subst (λ (n : ℕ). AreTerms n terms) (sym (length-map rows (λ (r : Row). r.lin))) are in
    record {
      same = refl;
      sum = s;
      matching = record { small = small_terms (lins rows) terms s numbered counts; same = same };
      constant = ap whole is ∙ whole_constant (lins rows) terms s counts low;
    }
