-- What follows from rows over the rational numbers (Schrijver, Theory of Linear and Integer Programming, section 7.3).
use Rattle.std.specs.Prelude.{pos, ◌<ℤ◌, List}
use Rattle.q128.specs.Fraction.{Fraction}
use Rattle.lin_rows.specs.declared.point.Point.{Point}
use Rattle.lin_rows.specs.declared.row.Transition.{Transition}
use Rattle.lin_rows.specs.Linear.{Linear}
use Rattle.lin_rows.specs.Points.{HoldsAt, RowsHoldAt}
use Rattle.lin_rows.specs.Rows.{lins}

-- each rational point of the rows is one of the goal
pub record Entails (rows : List Linear) (goal : Linear) : Type 0 where
  pub holds : (t : Fraction) (v : List Fraction) → pos 0 <ℤ t.num → RowsHoldAt rows t v → HoldsAt goal t v

-- the rows have no rational point
pub record AreContradictory (rows : List Linear) : Type 0 where
  pub none : (t : Fraction) (v : List Fraction) → pos 0 <ℤ t.num → RowsHoldAt rows t v → ⊥

-- a rational point of the rows
pub record IsPointOf (rows : List Linear) (p : Point) : Type 0 where
  pub positive : pos 0 <ℤ p.t.num
  pub holds : RowsHoldAt rows p.t p.v

-- a step is live where its rows have a rational point
abbrev pub IsLive : Transition → Type 0
IsLive step = (p : Point) × IsPointOf (lins step.rows) p
