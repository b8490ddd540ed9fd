-- Laws of choices and paths, as statements.
use Rattle.std.specs.Prelude.{◌≡◌, ℕ, ◌<◌, ◌^◌, pos, List, ◌∷◌, length, Option, Contains}
use Rattle.q128.specs.Fraction.{Fraction, whole}
use Rattle.q128.specs.declared.q.TooWide.{TooWide}
use Rattle.lin_rows.specs.Linear.{Linear}
use Rattle.lin_rows.specs.Points.{RowsHoldAt}
use Rattle.lin_rows.specs.Proving.{Multipliers, Contradicts}
use Rattle.solver_paths.specs.Choices.{number_count, IsOut, AreEqual, Dictionary, IsDictionary}
use Rattle.solver_paths.specs.Pivots.{IsPivot}
use Rattle.solver_paths.specs.Paths.{Goes, keys_of}
use Rattle.solver_paths.specs.Certificates.{HasPoint, HasContradiction, IsWideAt}
use Rattle.solver_paths.specs.Rulers.{IsRuler}

-- no row enters at a choice and leaves at another for a lower row, where the higher rows of the second are chosen at the first
abbrev pub PivotsClash : Type 0
PivotsClash = (rows : List Linear) (a b : List ℕ) (da db : Dictionary) (h c r : ℕ) → IsDictionary rows a da → IsPivot rows a da h c → IsDictionary rows b db → IsPivot rows b db r h → r < h → ((s : ℕ) → h < s → Contains b s → Contains a s) → ⊥

-- the solver's pivots, from whatever choice, have keys like the marks of a ruler, and so are fewer than the power of 2 to as
-- many as the problem has numbers
pub record PathsEnd (rows : List Linear) (first last : List ℕ) (ps : List (ℕ × ℕ)) : Type 0 where
  pub ruler : IsRuler (keys_of ps)
  pub short : length ps < 2 ^ number_count rows

-- after one pivot or more the same choice doesn't come again, in whatever order
abbrev pub NoChoiceTwice : Type 0
NoChoiceTwice = (rows : List Linear) (first last : List ℕ) (p : ℕ × ℕ) (ps : List (ℕ × ℕ)) → Goes rows first (p ∷ ps) last → AreEqual first last → ⊥

-- equal choices have one dictionary: the numbers of two are the same wherever they count
pub record SameNumbers (rows : List Linear) (choice : List ℕ) (da db : Dictionary) : Type 0 where
  pub constants : (n : ℕ) → IsOut rows choice n → da.constant n ≡ db.constant n
  pub coefficients : (n c : ℕ) → IsOut rows choice n → Contains choice c → da.coefficient n c ≡ db.coefficient n c

abbrev pub OneDictionary : Type 0
OneDictionary = (rows : List Linear) (a b : List ℕ) (da db : Dictionary) → IsDictionary rows a da → IsDictionary rows b db → AreEqual a b → SameNumbers rows b da db

-- ---- one answer
-- a problem has one of the three ends alone: a point, a contradiction, or an operation that is too wide
pub record EndsExclude (rows : List Linear) : Type 0 where
  pub point_contradiction : (v : List Fraction) (m : Multipliers) → HasPoint rows v → HasContradiction rows m → ⊥
  pub point_wide : (v : List Fraction) (path : List (ℕ × ℕ)) (pivot : Option (ℕ × ℕ)) (w : TooWide) → HasPoint rows v → IsWideAt rows path pivot w → ⊥
  pub contradiction_wide : (m : Multipliers) (path : List (ℕ × ℕ)) (pivot : Option (ℕ × ℕ)) (w : TooWide) → HasContradiction rows m → IsWideAt rows path pivot w → ⊥
  pub one_point : (v u : List Fraction) → HasPoint rows v → HasPoint rows u → v ≡ u
  pub one_contradiction : (m k : Multipliers) → HasContradiction rows m → HasContradiction rows k → m ≡ k
  pub one_path : (path more : List (ℕ × ℕ)) (pivot other : Option (ℕ × ℕ)) (w z : TooWide) → IsWideAt rows path pivot w → IsWideAt rows more other z → path ≡ more

-- ---- what an end is good for
-- the point of a choice that meets all rows is a point of the rows
abbrev pub PointsHold : Type 0
PointsHold = (rows : List Linear) (v : List Fraction) → HasPoint rows v → RowsHoldAt rows (whole (pos 1)) v

-- the multipliers of a stuck choice contradict the rows
abbrev pub ContradictionsHold : Type 0
ContradictionsHold = (rows : List Linear) (m : Multipliers) → HasContradiction rows m → Contradicts rows m
