-- What a transition means: its rows hold before the step, and each next value is an expression over the values before it
-- (Podelski and Rybalchenko, A complete method for the synthesis of linear ranking functions, 2004).
use Rattle.std.specs.Prelude.{◌≡◌, ℤ, negsuc, neg_ℤ, ◌+ℤ◌, ◌*ℤ◌, List, [], ◌∷◌, map}
use Rattle.q128.specs.Fraction.{Fraction}
use Rattle.lin_rows.specs.declared.row.Transition.{Transition}
use Rattle.lin_rows.specs.Linear.{Linear, nothing}
use Rattle.lin_rows.specs.Points.{value_at, whole_value, RowsHoldAt, RowsHoldAtWhole}
use Rattle.lin_rows.specs.Rows.{lins}

-- ---- sums and multiples of expressions
-- xs and ys added place by place, as long as the longer of them
abbrev pub places_sum : List ℤ → List ℤ → List ℤ
places_sum [] ys = ys
places_sum (x ∷ xs) [] = x ∷ xs
places_sum (x ∷ xs) (y ∷ ys) = (x +ℤ y) ∷ places_sum xs ys

-- a + b
abbrev pub lin_plus : Linear → Linear → Linear
lin_plus a b = record { coefficients = places_sum a.coefficients b.coefficients; constant = a.constant +ℤ b.constant }

-- k * l
abbrev pub lin_times : ℤ → Linear → Linear
lin_times k l = record { coefficients = map (λ c. k *ℤ c) l.coefficients; constant = k *ℤ l.constant }

-- k alone
abbrev pub lin_constant : ℤ → Linear
lin_constant k = record { coefficients = []; constant = k }

-- ---- after a step
-- the sum of the expressions, each times its factor: c 0 * e 0 + c 1 * e 1 + ..
abbrev pub lin_sum : List ℤ → List Linear → Linear
lin_sum [] es = nothing
lin_sum (c ∷ cs) [] = nothing
lin_sum (c ∷ cs) (e ∷ es) = lin_plus (lin_times c e) (lin_sum cs es)

-- l after the step: its variables are replaced by their next values, one past the end of these by 0
abbrev pub after : Linear → List Linear → Linear
after l next = lin_plus (lin_sum l.coefficients next) (lin_constant l.constant)

-- f(x) - f(x') - d, where x' are the next values of x: it isn't below 0 where the step makes f fall by d at least
abbrev pub drop_of : Linear → List Linear → ℤ → Linear
drop_of f next d = lin_plus f (lin_plus (lin_times (negsuc 0) (after f next)) (lin_constant (neg_ℤ d)))

-- ---- the values after a step
-- from whole numbers
abbrev pub next_wholes : List Linear → List ℤ → List ℤ
next_wholes next zs = map (λ (e : Linear). whole_value e zs) next

-- from a point, or a ray where t is 0
abbrev pub next_at : List Linear → Fraction → List Fraction → List Fraction
next_at next t v = map (λ (e : Linear). value_at e t v) next

-- the step leads from some whole numbers to others
pub record StepsWhole (step : Transition) (before now : List ℤ) : Type 0 where
  pub rows : RowsHoldAtWhole (lins step.rows) before
  pub next : now ≡ next_wholes step.next before

-- and from a point or ray to another with the same t
pub record StepsAt (step : Transition) (t : Fraction) (before now : List Fraction) : Type 0 where
  pub rows : RowsHoldAt (lins step.rows) t before
  pub next : now ≡ next_at step.next t before
