-- The levels of a function on steps: the constant with which it isn't negative before each live step, and what it falls by
-- with each (after Podelski and Rybalchenko, A complete method for the synthesis of linear ranking functions, 2004, with
-- certificates that are small).
use Rattle.std.specs.Prelude.{ℕ, ◌<◌, ◌≤◌, ℤ, pos, ◌<ℤ◌, List, Contains}
use Rattle.q128.specs.Fraction.{Fraction, whole, IsSame, IsAtMost, negative, times}
use Rattle.q128.specs.Laws.{IsNarrow}
use Rattle.lin_rows.specs.declared.row.Transition.{Transition}
use Rattle.lin_rows.specs.Linear.{Linear}
use Rattle.lin_rows.specs.Proving.{Multipliers}
use Rattle.lin_rows.specs.Rows.{lins}
use Rattle.lin_rows.specs.Transitions.{drop_of}
use Rattle.small_cert.specs.Small.{IsSmall, IsSmallBy, AreShared, IsLeast, falsehood}

-- the rows of a step don't contradict each other by a small sum
pub record IsLive (step : Transition) : Type 0 where
  pub live : IsSmall (lins step.rows) falsehood → ⊥

-- multipliers n prove that they do
abbrev pub ProvesDead : Transition → Multipliers → Type 0
ProvesDead step n = (m : Multipliers) × (k : ℤ) × IsSmallBy (lins step.rows) falsehood m k × AreShared n m k

-- none of the steps is live
abbrev pub AreDead : List Transition → Type 0
AreDead steps = (t : Transition) → Contains steps t → IsLive t → ⊥

-- f(x) - f(x')
abbrev pub fall_of : Linear → Transition → Linear
fall_of f step = drop_of f step.next (pos 0)

-- c is the greatest of the least constants for which f + c ≥ 0 is small, of the live steps
pub record IsGate (steps : List Transition) (f : Linear) (c : Fraction) : Type 0 where
  pub each : (t : Transition) → Contains steps t → IsLive t → (x : Fraction) × IsLeast (lins t.rows) f x × IsAtMost x c
  pub one : (t : Transition) × Contains steps t × IsLive t × ((x : Fraction) × IsLeast (lins t.rows) f x × IsSame x c)

-- d is the least of the greatest numbers for which f(x) - f(x') - d ≥ 0 is small, of the live steps
pub record IsDrop (steps : List Transition) (f : Linear) (d : Fraction) : Type 0 where
  pub each : (t : Transition) → Contains steps t → IsLive t → (x : Fraction) × IsLeast (lins t.rows) (fall_of f t) x × IsAtMost d (negative x)
  pub one : (t : Transition) × Contains steps t × IsLive t × ((x : Fraction) × IsLeast (lins t.rows) (fall_of f t) x × IsSame d (negative x))

-- s is above 0, and makes c and d whole
pub record MakesWhole (s : ℕ) (c d : Fraction) : Type 0 where
  pub positive : 0 < s
  pub whole_c : (z : ℤ) × IsSame (times (whole (pos s)) c) (whole z)
  pub whole_d : (z : ℤ) × IsSame (times (whole (pos s)) d) (whole z)

-- and no lesser one does
pub record IsCommonFactor (s : ℕ) (c d : Fraction) : Type 0 where
  pub makes : MakesWhole s c d
  pub least : (r : ℕ) → MakesWhole r c d → s ≤ r

-- d is positive, and s times c and d are whole numbers that fit
pub record IsMeasure (c d : Fraction) (s : ℕ) (whole_c whole_d : ℤ) : Type 0 where
  pub falls : pos 0 <ℤ d.num
  pub factor : IsCommonFactor s c d
  pub is_c : IsSame (times (whole (pos s)) c) (whole whole_c)
  pub is_d : IsSame (times (whole (pos s)) d) (whole whole_d)
  pub fits_c : IsNarrow whole_c
  pub fits_d : IsNarrow whole_d
