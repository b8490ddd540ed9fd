-- What proving is good for, what steps do to expressions, and that room is free.
use Rattle.std.specs.Prelude.{◌≡◌, ℕ, ◌+◌, ℤ, pos, ◌+ℤ◌, ◌-ℤ◌, ◌≤ℤ◌, ◌<ℤ◌, List, ◌++◌, replicate, Result, Ok, Err}
use Rattle.q128.specs.declared.q.TooWide.{TooWide}
use Rattle.q128.specs.Fraction.{Fraction, whole, IsSame, IsAtMost, minus, times}
use Rattle.lin_rows.specs.declared.row.Transition.{Transition}
use Rattle.lin_rows.specs.Linear.{Linear}
use Rattle.lin_rows.specs.Points.{value_at, whole_value, HoldsAt, RowsHoldAt, HoldsAtWhole, RowsHoldAtWhole}
use Rattle.lin_rows.specs.Combining.{Combination, zeros, rows_added}
use Rattle.lin_rows.specs.Rows.{lins, HaveRoom}
use Rattle.lin_rows.specs.Transitions.{after, drop_of, next_wholes, next_at, StepsWhole, StepsAt}
use Rattle.lin_rows.specs.Proving.{Multipliers, Reaches, Contradicts, Proves}

-- a reached row holds at each point and ray at which the rows hold
abbrev pub ReachedHolds : Type 0
ReachedHolds = (rows : List Linear) (m : Multipliers) (goal : Linear) (t : Fraction) (v : List Fraction) → Reaches rows m goal → pos 0 ≤ℤ t.num → RowsHoldAt rows t v → HoldsAt goal t v

-- rows that contradict each other hold together at no point
abbrev pub NoPoint : Type 0
NoPoint = (rows : List Linear) (m : Multipliers) (t : Fraction) (v : List Fraction) → Contradicts rows m → pos 0 <ℤ t.num → RowsHoldAt rows t v → ⊥

-- a proved row holds at each point at which the rows hold
abbrev pub ProvedHolds : Type 0
ProvedHolds = (rows : List Linear) (m : Multipliers) (goal : Linear) (t : Fraction) (v : List Fraction) → Proves rows m goal → pos 0 <ℤ t.num → RowsHoldAt rows t v → HoldsAt goal t v

-- and at all whole numbers at which the rows hold
abbrev pub ProvedHoldsAtWhole : Type 0
ProvedHoldsAtWhole = (rows : List Linear) (m : Multipliers) (goal : Linear) (zs : List ℤ) → Proves rows m goal → RowsHoldAtWhole rows zs → HoldsAtWhole goal zs

-- ---- steps
-- What an expression after a step is at whole numbers before it: its value at the numbers after it. And f(x) - f(x') - d
-- is the difference of f's two values, less d.
pub record StepOnWholes (f : Linear) (next : List Linear) (d : ℤ) (zs : List ℤ) : Type 0 where
  pub moved : whole_value (after f next) zs ≡ whole_value f (next_wholes next zs)
  pub fallen : whole_value (drop_of f next d) zs ≡ (whole_value f zs -ℤ whole_value f (next_wholes next zs)) -ℤ d

-- The same at a point or ray, where d is taken times t as each constant is.
pub record StepAt (f : Linear) (next : List Linear) (d : ℤ) (t : Fraction) (v : List Fraction) : Type 0 where
  pub moved : IsSame (value_at (after f next) t v) (value_at f t (next_at next t v))
  pub fallen : IsSame (value_at (drop_of f next d) t v) (minus (minus (value_at f t v) (value_at f t (next_at next t v))) (times (whole d) t))

-- where a step's rows prove the drop, f falls by d at least with each step from a point
abbrev pub ProvedFalls : Type 0
ProvedFalls = (step : Transition) (m : Multipliers) (f : Linear) (d : ℤ) (t : Fraction) (before now : List Fraction) → Proves (lins step.rows) m (drop_of f step.next d) → pos 0 <ℤ t.num → StepsAt step t before now → IsAtMost (times (whole d) t) (minus (value_at f t before) (value_at f t now))

-- and from whole numbers
abbrev pub ProvedFallsAtWhole : Type 0
ProvedFallsAtWhole = (step : Transition) (m : Multipliers) (f : Linear) (d : ℤ) (before now : List ℤ) → Proves (lins step.rows) m (drop_of f step.next d) → StepsWhole step before now → d ≤ℤ (whole_value f before -ℤ whole_value f now)

-- ---- room
-- a sum with so many places more, all of them 0
abbrev pub widened : ℕ → Result Combination TooWide → Result Combination TooWide
widened k (Ok s) = Ok (record { coefficients = s.coefficients ++ replicate k (whole (pos 0)); constant = s.constant })
widened k (Err e) = Err e

-- more room than the rows need changes neither the sum nor the number that is too wide for it
abbrev pub RoomIsFree : Type 0
RoomIsFree = (rows : List Linear) (m : Multipliers) (n k : ℕ) → HaveRoom n rows → rows_added rows (zeros (n + k)) m ≡ widened k (rows_added rows (zeros n) m)
