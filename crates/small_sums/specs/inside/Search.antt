-- What the search for a least sum keeps. Each row has two places, once and twice.
use Rattle.std.specs.Prelude.{◌≡◌, ℕ, suc, ◌*◌, ◌/◌, ◌<◌, ℤ, pos, ◌+ℤ◌, ◌*ℤ◌, List, length, slice_index, Option, Some, None, if◌then◌else◌}
use Rattle.q128.specs.Fraction.{Fraction, whole, IsAtMost}
use Rattle.lin_rows.specs.Linear.{Linear, row_at}
use Rattle.lin_rows.specs.Combining.{Combination}
use Rattle.small_sums.specs.declared.term.Term.{Term}
use Rattle.small_sums.specs.declared.term.Terms.{Terms}
use Rattle.small_sums.specs.declared.term.Terms.TheVariants.{Zero, One, Two}
use Rattle.small_sums.specs.declared.term.Sum.{Sum}
use Rattle.std.specs.List.Sorted.{IsStrictlyIncreasing}
use Rattle.lin_rows.specs.Proving.{AreRowNumbers}
use Rattle.small_sums.specs.Sums.{IsMatch, numbers_of}
use Rattle.small_sums.specs.Terms.{multipliers_of}
use Rattle.small_sums.specs.Keys.{digits, IsResidue}
use Rattle.small_sums.specs.Places.{term_at, digits_at}

-- the keys of the places of the first n rows
pub record AreKeysTo (n : ℕ) (rows : List Linear) (keys : List ℕ) : Type 0 where
  pub count : length keys ≡ 2 * n
  pub each : (place : ℕ) → place < length keys → IsResidue (digits_at rows place) (slice_index keys place)

-- the keys of all places
abbrev pub AreKeys : List Linear → List ℕ → Type 0
AreKeys rows keys = AreKeysTo (length rows) rows keys

-- the rows of a place behind those of another place, or of none
abbrev pub Follow : Option ℕ → ℕ → Terms → Type 0
Follow None place terms = terms ≡ One (term_at place)
Follow (Some front) place terms = (front / 2 < place / 2) × (terms ≡ Two (term_at front) (term_at place))

-- the rows are there, and in the order of their numbers
pub record AreTerms (count : ℕ) (terms : Terms) : Type 0 where
  pub numbers : AreRowNumbers count (multipliers_of terms)
  pub rising : IsStrictlyIncreasing (numbers_of (multipliers_of terms))

-- f is the sum of the rows, which is a match
pub record IsSumOf (rows : List Linear) (goal : Linear) (terms : Terms) (f : Sum) : Type 0 where
  pub same : f.terms ≡ terms
  pub sum : Combination
  pub matching : IsMatch rows goal (multipliers_of terms) sum
  pub constant : whole f.constant ≡ sum.constant

-- the constant of a row, once or twice, and of the sum of rows
abbrev pub constant_in : List Linear → Term → ℤ
constant_in rows t = (if t.twice then pos 2 else pos 1) *ℤ (row_at rows t.number).constant

abbrev pub constant_sum : List Linear → Terms → ℤ
constant_sum rows Zero = pos 0
constant_sum rows (One a) = constant_in rows a
constant_sum rows (Two a b) = constant_in rows a +ℤ constant_in rows b

-- ---- the best sum so far
-- it is a match
abbrev pub IsFound : List Linear → Linear → Option Sum → Type 0
IsFound rows goal None = Unit {0}
IsFound rows goal (Some f) = (s : Combination) × IsMatch rows goal (multipliers_of f.terms) s × (whole f.constant ≡ s.constant)

-- its constant is at most c
abbrev pub Covers : Option Sum → Fraction → Type 0
Covers None c = ⊥
Covers (Some f) c = IsAtMost (whole f.constant) c

-- each match with these rows has at least its constant
pub record CoversTerms (rows : List Linear) (goal : Linear) (best : Option Sum) (terms : Terms) : Type 0 where
  pub each : (s : Combination) → IsMatch rows goal (multipliers_of terms) s → Covers best s.constant

-- what one is at most, the other is too
pub record Keeps (before now : Option Sum) : Type 0 where
  pub each : (c : Fraction) → Covers before c → Covers now c

-- each match with the rows of a place of the key behind those of another place, or of none
pub record CoversKey (rows : List Linear) (goal : Linear) (best : Option Sum) (front : Option ℕ) (key : ℕ) : Type 0 where
  pub each : (place : ℕ) → place < 2 * length rows → IsResidue (digits_at rows place) key → (t : Terms) → Follow front place t → CoversTerms rows goal best t

-- each match with the rows of another place behind those of this one
pub record CoversFront (rows : List Linear) (goal : Linear) (best : Option Sum) (front : ℕ) : Type 0 where
  pub each : (place : ℕ) → place < 2 * length rows → digits goal.coefficients ≡ digits_at rows front +ℤ digits_at rows place → (t : Terms) → Follow (Some front) place t → CoversTerms rows goal best t

-- what is covered when the first n places were taken as fronts
pub record IsSearched (rows : List Linear) (goal : Linear) (best : Option Sum) (n : ℕ) : Type 0 where
  pub found : IsFound rows goal best
  pub zero : CoversTerms rows goal best Zero
  pub one : (place : ℕ) → place < 2 * length rows → digits goal.coefficients ≡ digits_at rows place → CoversTerms rows goal best (One (term_at place))
  pub two : (front : ℕ) → front < n → CoversFront rows goal best front

-- the places of a key that are visited, from the last one on
abbrev pub IsPast : Option ℕ → ℕ → Type 0
IsPast None place = Unit {0}
IsPast (Some p) place = p < place

-- the place that is next has the key
abbrev pub IsAt : List ℕ → ℕ → Option ℕ → Type 0
IsAt keys key None = Unit {0}
IsAt keys key (Some p) = (p < length keys) × (slice_index keys p ≡ key)

-- how many places are left at most
abbrev pub left_of : Option ℕ → ℕ
left_of None = 0
left_of (Some p) = suc p

-- the rows of the visited places are covered
pub record IsVisited (rows : List Linear) (keys : List ℕ) (goal : Linear) (best : Option Sum) (front : Option ℕ) (key : ℕ) (at : Option ℕ) : Type 0 where
  pub next : IsAt keys key at
  pub each : (place : ℕ) → place < length keys → slice_index keys place ≡ key → IsPast at place → (t : Terms) → Follow front place t → CoversTerms rows goal best t
