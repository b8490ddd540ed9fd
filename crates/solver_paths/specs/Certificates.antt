-- What the last choice of a path says: a point of the rows, or multipliers that contradict them (Farkas' lemma; Schrijver,
-- section 7.3), with the numbers that are made for it and for its check; and what an operation that is too wide belongs to.
use Rattle.std.specs.Prelude.{◌≡◌, ◌≢◌, ◌↔◌, ℕ, ◌<◌, ◌≤◌, pos, List, length, map, Option, Some, None, Err, Contains, AllPairs}
use Rattle.q128.specs.Fraction.{Fraction, whole}
use Rattle.q128.specs.Rule.{sub_rule}
use Rattle.q128.specs.declared.q.QOp.TheVariants.{Sub}
use Rattle.q128.specs.declared.q.TooWide.{TooWide}
use Rattle.lin_rows.specs.Linear.{Linear, row_at}
use Rattle.lin_rows.specs.Proving.{Multipliers, AreRowNumbers}
use Rattle.lin_rows.specs.Combining.{zeros, rows_added, value_made}
use Rattle.solver_paths.specs.Choices.{variable_count, row_number, first_choice, IsRow, Dictionary, IsDictionary, basic_value}
use Rattle.solver_paths.specs.Pivots.{IsPivot, MeetsAll, IsStuck}
use Rattle.solver_paths.specs.Making.{IsTooWide, PivotMakes}
use Rattle.solver_paths.specs.Paths.{Path}

-- the values of the variables where each chosen number is 0
abbrev pub coordinates_of : List Linear → List ℕ → Dictionary → List Fraction
coordinates_of rows choice d = map (basic_value choice d) (first_choice rows)

-- a factor of a row in the contradiction that r makes: 1 for r itself, and for a chosen row its coefficient other than 0
-- with the sign changed
pub data IsFactor (rows : List Linear) (choice : List ℕ) (d : Dictionary) (r n : ℕ) (q : Fraction) : Type 0 where
  own : n ≡ r → q ≡ whole (pos 1) → IsFactor rows choice d r n q
  chosen : Contains choice n → (d.coefficient r n).num ≢ pos 0 → sub_rule (whole (pos 0)) (d.coefficient r n) ≡ Some q → IsFactor rows choice d r n q

-- the multipliers of the contradiction, in the order of the rows
pub record IsFarkas (rows : List Linear) (choice : List ℕ) (d : Dictionary) (r : ℕ) (m : Multipliers) : Type 0 where
  pub rising : AllPairs (λ (a b : ℕ). a < b) (map (λ (p : ℕ × Fraction). p.0) m)
  pub numbers : AreRowNumbers (length rows) m
  pub each : (n : ℕ) (q : Fraction) → IsRow rows n → Contains m (row_number rows n, q) ↔ IsFactor rows choice d r n q

-- The certificate makes w: a change of sign, or in the check a number of the sum of the rows times the multipliers, or of
-- a row's value at the point.
pub data CertificateMakes (rows : List Linear) (choice : List ℕ) (d : Dictionary) (w : TooWide) : Type 0 where
  opposite : (r n : ℕ) → IsStuck rows choice d r → IsRow rows n → Contains choice n → w ≡ record { a = whole (pos 0); b = d.coefficient r n; op = Sub } → CertificateMakes rows choice d w
  sum : (r : ℕ) (m : Multipliers) → IsStuck rows choice d r → IsFarkas rows choice d r m → rows_added rows (zeros (variable_count rows)) m ≡ Err w → CertificateMakes rows choice d w
  row : (i : ℕ) → MeetsAll rows choice d → 0 < i → i ≤ length rows → value_made (row_at rows i) (whole (pos 1)) (coordinates_of rows choice d) ≡ Err w → CertificateMakes rows choice d w

-- where an operation belongs: the solver's pivot at the choice, or without one the certificate that the choice gives
pub data Belongs (rows : List Linear) (choice : List ℕ) (d : Dictionary) (w : TooWide) : Option (ℕ × ℕ) → Type 0 where
  pivoting : (r c : ℕ) → IsPivot rows choice d r c → PivotMakes rows choice d r c w → Belongs rows choice d w (Some (r, c))
  certifying : CertificateMakes rows choice d w → Belongs rows choice d w None

-- the operation is too wide, and belongs to the last choice of the problem's path
pub record IsWideAt (rows : List Linear) (path : List (ℕ × ℕ)) (pivot : Option (ℕ × ℕ)) (w : TooWide) : Type 0 where
  pub last : List ℕ
  pub goes : Path rows path last
  pub own : Dictionary
  pub dictionary : IsDictionary rows last own
  pub belongs : Belongs rows last own w pivot
  pub too_wide : IsTooWide w

-- ---- what a problem's path ends with, where nothing of it is too wide
-- no number of the certificate is too wide
abbrev pub IsCertified : List Linear → List ℕ → Dictionary → Type 0
IsCertified rows choice d = (w : TooWide) → CertificateMakes rows choice d w → IsTooWide w → ⊥

-- the last choice meets all rows, at the coordinates v
pub record HasPoint (rows : List Linear) (v : List Fraction) : Type 0 where
  pub path : List (ℕ × ℕ)
  pub last : List ℕ
  pub goes : Path rows path last
  pub own : Dictionary
  pub dictionary : IsDictionary rows last own
  pub meets : MeetsAll rows last own
  pub coordinates : v ≡ coordinates_of rows last own
  pub certified : IsCertified rows last own

-- the last choice is stuck, and m are the multipliers that it gives
pub record HasContradiction (rows : List Linear) (m : Multipliers) : Type 0 where
  pub path : List (ℕ × ℕ)
  pub last : List ℕ
  pub goes : Path rows path last
  pub own : Dictionary
  pub dictionary : IsDictionary rows last own
  pub row : ℕ
  pub stuck : IsStuck rows last own row
  pub multipliers : IsFarkas rows last own row m
  pub certified : IsCertified rows last own
