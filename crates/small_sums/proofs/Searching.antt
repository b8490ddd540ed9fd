-- The steps of the search.
use Rattle.std.specs.Prelude.{◌≡◌, ℕ, ◌+◌, ◌*◌, ◌<◌, ◌≤◌, ℤ, ◌+ℤ◌, List, length, Option, Some, None, MatchOption}
use Rattle.std.proofs.Common.{arith, refl, sym, subst, get_or, ⊎_elim}
use Rattle.std.proofs.lemmas.Bool.{cases_lt}
use Rattle.q128.specs.Fraction.{Fraction, whole, IsAtMost}
use Rattle.lin_rows.specs.Linear.{Linear}
use Rattle.lin_rows.specs.Combining.{Combination}
use Rattle.small_sums.specs.declared.term.Terms.TheVariants.{Zero, One}
use Rattle.small_sums.specs.declared.term.Sum.{Sum}
use Rattle.small_sums.specs.Sums.{IsMatch, IsLeastMatch, HasNoMatch}
use Rattle.small_sums.specs.Terms.{multipliers_of}
use Rattle.small_sums.specs.Keys.{digits, IsResidue}
use Rattle.small_sums.specs.Places.{term_at, digits_at}
use Rattle.small_sums.specs.inside.Search.{AreKeys, IsFound, Covers, CoversTerms, CoversKey, CoversFront, Keeps, IsSearched}
use Rattle.small_sums.proofs.Behind.{keep_terms}
use Rattle.small_sums.proofs.Matches.{all_covered}

module _ (rows : List Linear) (goal : Linear) (cs : List ℤ) (total : ℕ) (read : cs ≡ goal.coefficients) (residue : IsResidue (digits cs) total) where
  goal_residue : IsResidue (digits goal.coefficients) total
  goal_residue = subst (λ (xs : List ℤ). IsResidue (digits xs) total) read residue

  pub searched_first : (first best : Option Sum) → IsFound rows goal best → CoversTerms rows goal first Zero → Keeps first best → CoversKey rows goal best None total → IsSearched rows goal best 0
  searched_first first best found zero keeps covers = record {
    found = found;
    zero = keep_terms rows goal first best Zero keeps zero;
    one = λ place lt e. covers.each place lt (subst (λ (z : ℤ). IsResidue z total) e goal_residue) (One (term_at place)) refl;
    two = λ front lt. absurd (omega (arith, lt));
  }

  module _ (keys : List ℕ) (are : AreKeys rows keys) (best now : Option Sum) (front part key : ℕ) (inside : front < length keys) (there : part ≡ get_or keys front 0)
      (rest_is : (z x y : ℤ) (rest : ℕ) → IsResidue z total → IsResidue x part → IsResidue y rest → z ≡ x +ℤ y → rest ≡ key) where
    front_covered : CoversKey rows goal now (Some front) key → CoversFront rows goal now front
    front_covered covers = record {
      each = λ place lt e t follow.
          let within : place < length keys = omega (arith, lt, are.count) in
          let own : IsResidue (digits_at rows front) part = subst (λ (r : ℕ). IsResidue (digits_at rows front) r) (sym there) (are.each front inside) in
          let other = are.each place within in
          let same : get_or keys place 0 ≡ key = rest_is (digits goal.coefficients) (digits_at rows front) (digits_at rows place) (get_or keys place 0) goal_residue own other e in
          covers.each place lt (subst (λ (r : ℕ). IsResidue (digits_at rows place) r) same other) t follow;
    }

    keep_front : (f : ℕ) → Keeps best now → CoversFront rows goal best f → CoversFront rows goal now f
    keep_front f keeps covers = record { each = λ place lt e t follow. keep_terms rows goal best now t keeps (covers.each place lt e t follow) }

    pub searched_more : IsSearched rows goal best front → (IsFound rows goal best → IsFound rows goal now) → Keeps best now → CoversKey rows goal now (Some front) key → IsSearched rows goal now (front + 1)
    searched_more searched found keeps covers = record {
      found = found searched.found;
      zero = keep_terms rows goal best now Zero keeps searched.zero;
      one = λ place lt e. keep_terms rows goal best now (One (term_at place)) keeps (searched.one place lt e);
      two = λ f lt. ⊎_elim (λ less. keep_front f keeps (searched.two f less))
          (λ le.
          let same : f ≡ front = omega (arith, lt, le) in
          subst (λ (g : ℕ). CoversFront rows goal now g) (sym same) (front_covered covers)) (cases_lt f front);
    }

-- ---- the answer
answer : (rows : List Linear) (goal : Linear) (best : Option Sum) → IsFound rows goal best → ((m : List (ℕ × Fraction)) (s : Combination) → IsMatch rows goal m s → Covers best s.constant)
    → MatchOption best (HasNoMatch rows goal) (λ f. (s : Combination) × IsLeastMatch rows goal (multipliers_of f.terms) s × (whole f.constant ≡ s.constant))
answer rows goal None found covers = λ m s h. covers m s h
answer rows goal (Some f) found covers = (found.0, record { matching = found.1; least = λ n u h. subst (λ (x : Fraction). IsAtMost x u.constant) found.2 (covers n u h) }, found.2)

pub searched_answer : (rows : List Linear) (goal : Linear) (best : Option Sum) (n : ℕ) → 2 * length rows ≤ n → IsSearched rows goal best n
    → MatchOption best (HasNoMatch rows goal) (λ f. (s : Combination) × IsLeastMatch rows goal (multipliers_of f.terms) s × (whole f.constant ≡ s.constant))
searched_answer rows goal best n all searched = answer rows goal best searched.found (all_covered rows goal best n all searched)
