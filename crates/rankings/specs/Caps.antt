-- Caps: an expression over entry sizes that is at least a multiple of another wherever the rows hold, and what shows that
-- there is none (Albert, Arenas, Genaim and Puebla, Closed-form upper bounds in static cost analysis, 2011, on maximising
-- expressions; Schrijver, Theory of Linear and Integer Programming, section 7.3).
use Rattle.std.specs.Prelude.{◌≡◌, ℕ, ◌≤◌, pos, neg_ℤ, ◌<ℤ◌, Bool, true, false, List, Contains}
use Rattle.std.specs.List.{range_with_len}
use Rattle.q128.specs.Fraction.{whole, IsSame}
use Rattle.lin_rows.specs.declared.point.Point.{Point}
use Rattle.lin_rows.specs.Linear.{Linear}
use Rattle.lin_rows.specs.Points.{value_at, RowsHoldAt}
use Rattle.lin_rows.specs.Proving.{Multipliers, Proves}
use Rattle.lin_rows.specs.Transitions.{lin_plus, lin_times}
use Rattle.small_caps.specs.Caps.{IsOver}
use Rattle.rankings.specs.Entailment.{IsPointOf}
use Rattle.rankings.specs.Rankings.{coordinate}
use Rattle.rankings.specs.Templates.{shifted, visit_rows}

-- u - s * l
abbrev pub slack_of : Linear → ℕ → Linear → Linear
slack_of u s l = lin_plus u (lin_times (neg_ℤ (pos s)) l)

-- u over s is a cap of l: u is over entry sizes, and the rows prove u - s * l ≥ 0 by the multipliers
pub record IsCap (rows : List Linear) (entry : List ℕ) (l u : Linear) (s : ℕ) (m : Multipliers) : Type 0 where
  pub over : IsOver entry u
  pub positive : 1 ≤ s
  pub proved : Proves rows m (slack_of u s l)

-- The certificate that there is none: a point and a ray of the rows, where the ray has no entry part and l rises along it.
pub record IsUncapped (rows : List Linear) (entry : List ℕ) (l : Linear) (point ray : Point) : Type 0 where
  pub is_point : IsPointOf rows point
  pub is_ray : ray.t.num ≡ pos 0
  pub holds : RowsHoldAt rows ray.t ray.v
  pub entry_part : (v : ℕ) → Contains entry v → IsSame (coordinate ray.v v) (whole (pos 0))
  pub rises : pos 0 <ℤ (value_at l ray.t ray.v).num

-- ---- at a call of a node with n sizes, after these rows
-- In a node that calls itself the sizes at a visit stand behind those at the entry, and templates are kept. In one that
-- doesn't, the sizes are the entry sizes.
abbrev pub cap_rows : Bool → ℕ → List Linear → List Linear → List Linear
cap_rows true n rows kept = visit_rows n rows kept
cap_rows false n rows kept = rows

abbrev pub cap_goal : Bool → ℕ → Linear → Linear
cap_goal true n l = shifted n l
cap_goal false n l = l

abbrev pub entry_sizes : ℕ → List ℕ
entry_sizes n = range_with_len 0 n

-- u over s is a cap of l there
pub record IsCapThere (recursive : Bool) (n : ℕ) (rows kept : List Linear) (l u : Linear) (s : ℕ) : Type 0 where
  pub multipliers : Multipliers
  pub is : IsCap (cap_rows recursive n rows kept) (entry_sizes n) (cap_goal recursive n l) u s multipliers
