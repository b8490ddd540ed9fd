-- Linear rankings of the steps of a node, and what shows that there is none (Podelski and Rybalchenko, A complete method for
-- the synthesis of linear ranking functions, 2004; Bagnara, Mesnard, Pescetti and Zaffanella, A new look at the automatic
-- synthesis of linear ranking functions, 2012).
use Rattle.std.specs.Prelude.{◌≡◌, ℕ, ◌<◌, ◌≤◌, ℤ, pos, ◌≤ℤ◌, ◌<ℤ◌, List, [], ◌∷◌, All, Contains, slice_index_or}
use Rattle.q128.specs.Fraction.{Fraction, whole, IsSame, IsAtMost, plus, minus, times}
use Rattle.lin_rows.specs.declared.point.Point.{Point}
use Rattle.lin_rows.specs.declared.row.Transition.{Transition}
use Rattle.lin_rows.specs.Linear.{Linear, coefficient_of}
use Rattle.lin_rows.specs.Points.{value_at, HoldsAt, RowsHoldAt}
use Rattle.lin_rows.specs.Rows.{lins}
use Rattle.lin_rows.specs.Transitions.{lin_plus, lin_constant, next_at}
use Rattle.rankings.specs.Entailment.{IsPointOf}

-- f is an expression without a constant over so many sizes
pub record IsOverSizes (sizes : ℕ) (f : Linear) : Type 0 where
  pub variables : (v : ℕ) → sizes ≤ v → coefficient_of f v ≡ pos 0
  pub constant : f.constant ≡ pos 0

-- f + c
abbrev pub raised : Linear → ℤ → Linear
raised f c = lin_plus f (lin_constant c)

-- f falls by d at least with the step from a point. As each constant, d is taken times t.
abbrev pub FallsAt : Linear → ℤ → Transition → Point → Type 0
FallsAt f d step p = IsAtMost (times (whole d) p.t) (minus (value_at f p.t p.v) (value_at f p.t (next_at step.next p.t p.v)))

-- At each rational point of each live step f + c isn't negative, and f falls by d at least. A step that isn't live has no
-- point.
pub record IsRanking (sizes : ℕ) (steps : List Transition) (f : Linear) (c d : ℤ) : Type 0 where
  pub over : IsOverSizes sizes f
  pub drop : pos 1 ≤ℤ d
  pub not_negative : (step : Transition) (p : Point) → Contains steps step → IsPointOf (lins step.rows) p → HoldsAt (raised f c) p.t p.v
  pub falls : (step : Transition) (p : Point) → Contains steps step → IsPointOf (lins step.rows) p → FallsAt f d step p

-- ---- none
-- what a live step has to show: a point, a ray, and a point or ray from which it moves
pub record Witness : Type 0 where
  pub step : Transition
  pub point : Point
  pub ray : Point
  pub move : Point

-- each of the three meets the rows of the step
pub record IsWitness (steps : List Transition) (w : Witness) : Type 0 where
  pub is_step : Contains steps w.step
  pub point : IsPointOf (lins w.step.rows) w.point
  pub is_ray : w.ray.t.num ≡ pos 0
  pub ray : RowsHoldAt (lins w.step.rows) w.ray.t w.ray.v
  pub is_move : pos 0 ≤ℤ w.move.t.num
  pub move : RowsHoldAt (lins w.step.rows) w.move.t w.move.v

-- the coordinate of a variable, 0 past the end
abbrev pub coordinate : List Fraction → ℕ → Fraction
coordinate v i = slice_index_or v i (whole (pos 0))

-- x(p) + x(q) - x'(q) of a size, for a ray p and a move q
abbrev pub share_of : Witness → ℕ → Fraction
share_of w i = plus (coordinate w.ray.v i) (minus (coordinate w.move.v i) (coordinate (next_at w.step.next w.move.t w.move.v) i))

abbrev pub shares : List Witness → ℕ → Fraction
shares [] i = whole (pos 0)
shares (w ∷ ws) i = plus (share_of w i) (shares ws i)

-- the sum of all t(q)
abbrev pub moves : List Witness → Fraction
moves [] = whole (pos 0)
moves (w ∷ ws) = plus w.move.t (moves ws)

-- The certificate that there is no ranking: for each size the rays and the moves come to 0, but the steps that are made don't.
pub record IsUnranked (sizes : ℕ) (steps : List Transition) (ws : List Witness) : Type 0 where
  pub each : All (IsWitness steps) ws
  pub sums : (i : ℕ) → i < sizes → IsSame (shares ws i) (whole (pos 0))
  pub moved : pos 0 <ℤ (moves ws).num
