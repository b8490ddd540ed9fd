-- The solver's pivot at a choice: the lowest row whose constant is negative leaves the outside, and the lowest chosen number
-- that can make up for it takes its place (Bland, New finite pivoting rules for the simplex method, 1977).
use Rattle.std.specs.Prelude.{◌≢◌, ◌⊎◌, ℕ, ◌<◌, pos, ◌≤ℤ◌, ◌<ℤ◌, nat_eq, if◌then◌else◌, List, map, Contains}
use Rattle.q128.specs.Fraction.{Fraction}
use Rattle.lin_rows.specs.Linear.{Linear}
use Rattle.solver_paths.specs.Choices.{variable_count, IsRow, IsOut, Dictionary}

-- the chosen number c can make up for a row in which k is its coefficient: a variable with either sign, a row by growing
abbrev pub MayLeave : List Linear → Fraction → ℕ → Type 0
MayLeave rows k c = ((c < variable_count rows) × (k.num ≢ pos 0)) ⊎ (IsRow rows c × (pos 0 <ℤ k.num))

-- the row s holds where each chosen number is 0: it is chosen itself, or its constant isn't negative
pub record IsMet (rows : List Linear) (choice : List ℕ) (d : Dictionary) (s : ℕ) : Type 0 where
  pub met : IsRow rows s → IsOut rows choice s → pos 0 ≤ℤ (d.constant s).num

-- r is the lowest row that doesn't
pub record IsWorst (rows : List Linear) (choice : List ℕ) (d : Dictionary) (r : ℕ) : Type 0 where
  pub row : IsRow rows r
  pub out : IsOut rows choice r
  pub negative : (d.constant r).num <ℤ pos 0
  pub lowest : (s : ℕ) → s < r → IsMet rows choice d s

-- no chosen number makes up for r below c
abbrev pub NoneLeaves : List Linear → List ℕ → Dictionary → ℕ → ℕ → Type 0
NoneLeaves rows choice d r c = (s : ℕ) → s < c → Contains choice s → MayLeave rows (d.coefficient r s) s → ⊥

-- r and c are the pivot at the choice
pub record IsPivot (rows : List Linear) (choice : List ℕ) (d : Dictionary) (r c : ℕ) : Type 0 where
  pub worst : IsWorst rows choice d r
  pub chosen : Contains choice c
  pub leaves : MayLeave rows (d.coefficient r c) c
  pub lowest : NoneLeaves rows choice d r c

-- the choice after it: r in the place of c
abbrev pub replaced : ℕ → ℕ → List ℕ → List ℕ
replaced r c choice = map (λ n. if nat_eq n c then r else n) choice

-- ---- choices that decide the problem
-- all rows hold where each chosen number is 0: the problem has a point
pub record MeetsAll (rows : List Linear) (choice : List ℕ) (d : Dictionary) : Type 0 where
  pub each : (s : ℕ) → IsMet rows choice d s

-- nothing makes up for r: the problem has no point
pub record IsStuck (rows : List Linear) (choice : List ℕ) (d : Dictionary) (r : ℕ) : Type 0 where
  pub worst : IsWorst rows choice d r
  pub none : (s : ℕ) → Contains choice s → MayLeave rows (d.coefficient r s) s → ⊥
