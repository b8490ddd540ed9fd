-- Small rankings of steps (after Podelski and Rybalchenko, A complete method for the synthesis of linear ranking functions,
-- 2004, with certificates that are small).
use Rattle.std.specs.Prelude.{◌≡◌, ◌⊎◌, ℕ, ◌≤◌, ℤ, pos, negsuc, List, replicate, length, All}
use Rattle.q128.specs.Fraction.{Fraction}
use Rattle.lin_rows.specs.declared.row.Transition.{Transition}
use Rattle.lin_rows.specs.Linear.{Linear}
use Rattle.lin_rows.specs.Transitions.{lin_times}
use Rattle.small_sums.specs.Sums.{Fits}
use Rattle.small_cert.specs.Order.{terms_of, IsBefore}
use Rattle.small_levels.specs.Leveled.{IsGate, IsDrop, IsMeasure}

-- ---- functions of n sizes
-- at most two coefficients that aren't 0, each 1 or -1
pub record IsFunction (n : ℕ) (f : Linear) : Type 0 where
  pub sizes : length f.coefficients ≡ n
  pub constant : f.constant ≡ pos 0
  pub few : length (terms_of f) ≤ 2
  pub units : All (λ (t : ℕ × ℤ). (t.1 ≡ pos 1) ⊎ (t.1 ≡ negsuc 0)) (terms_of f)

-- f, c and d are a small ranking of the steps, some of which are live: s times them is whole and fits
pub record IsRanking (steps : List Transition) (n : ℕ) (f : Linear) (c d : Fraction) (s : ℕ) (whole_c whole_d : ℤ) : Type 0 where
  pub function : IsFunction n f
  pub gate : IsGate steps f c
  pub fall : IsDrop steps f d
  pub measure : IsMeasure c d s whole_c whole_d
  pub fits : Fits (lin_times (pos s) f)

-- and no function before f in the order has one
pub record IsFirstRanking (steps : List Transition) (n : ℕ) (f : Linear) (c d : Fraction) (s : ℕ) (whole_c whole_d : ℤ) : Type 0 where
  pub ranking : IsRanking steps n f c d s whole_c whole_d
  pub first : (g : Linear) (b e : Fraction) (r : ℕ) (whole_b whole_e : ℤ) → IsBefore g f → IsRanking steps n g b e r whole_b whole_e → ⊥

-- there is none
abbrev pub HasNoRanking : List Transition → ℕ → Type 0
HasNoRanking steps n = (f : Linear) (c d : Fraction) (s : ℕ) (whole_c whole_d : ℤ) → IsRanking steps n f c d s whole_c whole_d → ⊥

-- the expression 0 of n sizes
abbrev pub zero_of : ℕ → Linear
zero_of n = record { coefficients = replicate n (pos 0); constant = pos 0 }
