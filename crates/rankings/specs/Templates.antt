-- Templates: comparisons of the sizes at a later visit of a node with those at its entry, and which of them hold at each
-- visit (Colón, Sankaranarayanan and Sipma, Linear invariant generation using non-linear constraint solving, 2003, on
-- inductive assertions; Miné, The octagon abstract domain, 2006, on sums and differences of two variables).
use Rattle.std.specs.Prelude.{◌≡◌, ◌⊎◌, ℕ, zero, suc, ◌-◌, nat_eq, Bool, ℤ, pos, negsuc, neg_ℤ, List, [], ◌∷◌, ◌++◌, map, Contains, replicate, if◌then◌else◌}
use Rattle.std.specs.List.{flat_map, range_with_len, items_where_true}
use Rattle.lin_rows.specs.declared.point.Point.{Point}
use Rattle.lin_rows.specs.declared.row.Transition.{Transition}
use Rattle.lin_rows.specs.Linear.{Linear}
use Rattle.lin_rows.specs.Points.{HoldsAt}
use Rattle.lin_rows.specs.Proving.{Multipliers, Proves}
use Rattle.lin_rows.specs.Rows.{lins}
use Rattle.lin_rows.specs.Transitions.{after}
use Rattle.small_cert.specs.Small.{IsSmall}
use Rattle.small_levels.specs.Leveled as small
use Rattle.rankings.specs.Entailment.{Entails, IsPointOf, IsLive}

-- ---- the list. The variables are the n sizes at the entry, and behind them those at the visit.
-- c(x) ≤ c(e), for coefficients c of n sizes
abbrev pub at_most_entry : List ℤ → Linear
at_most_entry c = record { coefficients = c ++ map neg_ℤ c; constant = pos 0 }

-- c(x) ≥ c(e)
abbrev pub at_least_entry : List ℤ → Linear
at_least_entry c = record { coefficients = map neg_ℤ c ++ c; constant = pos 0 }

abbrev pub both_ways : List ℤ → List Linear
both_ways c = at_most_entry c ∷ at_least_entry c ∷ []

-- 1 for the size i, and 0 for the others of n
abbrev pub single : ℕ → ℕ → List ℤ
single n i = map (λ v. if nat_eq v i then pos 1 else pos 0) (range_with_len 0 n)

-- 1 for the size i, k for the size j, and 0 for the others
abbrev pub pair : ℕ → ℤ → ℕ → ℕ → List ℤ
pair n k i j = map (λ v. if nat_eq v i then pos 1 else if nat_eq v j then k else pos 0) (range_with_len 0 n)

-- the sum and the difference of sizes i and j
abbrev pub pair_templates : ℕ → ℕ → ℕ → List Linear
pair_templates n i j = both_ways (pair n (pos 1) i j) ++ both_ways (pair n (negsuc 0) i j)

-- each size, then each two sizes i < j
abbrev pub templates_of : ℕ → List Linear
templates_of n =
    flat_map (λ i. both_ways (single n i)) (range_with_len 0 n)
    ++ flat_map (λ i. flat_map (λ j. pair_templates n i j) (range_with_len (suc i) (n - suc i))) (range_with_len 0 n)

-- some of a list, in its order
abbrev pub AreSome : {X : Type 0} → List X → List X → Type 0
AreSome some all = (marks : List Bool) × (some ≡ items_where_true marks all)

-- ---- a step from a visit
-- the expression over variables that stand behind n others
abbrev pub shifted : ℕ → Linear → Linear
shifted n l = record { coefficients = replicate n (pos 0) ++ l.coefficients; constant = l.constant }

-- the first n variables, each alone
abbrev pub first_variables : ℕ → List Linear
first_variables zero = []
first_variables (suc n) = record { coefficients = pos 1 ∷ []; constant = pos 0 } ∷ map (shifted 1) (first_variables n)

-- the rows at a visit, behind the entry, and then the templates
abbrev pub visit_rows : ℕ → List Linear → List Linear → List Linear
visit_rows n rows kept = map (shifted n) rows ++ kept

-- a template after the step: the entry stays, and the visit's sizes are replaced by the next ones
abbrev pub stepped : ℕ → List Linear → Linear → Linear
stepped n next g = after g (first_variables n ++ map (shifted n) next)

-- ---- inductive sets
-- after each live step from the set, each template of it follows
pub record IsInductiveBy (Lives : Transition → Type 0) (Follows : List Linear → Linear → Type 0) (n : ℕ) (steps : List Transition) (kept : List Linear) : Type 0 where
  pub templates : AreSome kept (templates_of n)
  pub stays : (step : Transition) (g : Linear) → Contains steps step → Lives step → Contains kept g → Follows (visit_rows n (lins step.rows) kept) (stepped n step.next g)

-- and no other such set has a template that this one hasn't
pub record IsGreatestBy (Lives : Transition → Type 0) (Follows : List Linear → Linear → Type 0) (n : ℕ) (steps : List Transition) (kept : List Linear) : Type 0 where
  pub inductive : IsInductiveBy Lives Follows n steps kept
  pub greatest : (other : List Linear) (g : Linear) → IsInductiveBy Lives Follows n steps other → Contains other g → Contains kept g

-- over rational points
abbrev pub IsInductive : ℕ → List Transition → List Linear → Type 0
IsInductive = IsInductiveBy IsLive Entails

abbrev pub IsGreatest : ℕ → List Transition → List Linear → Type 0
IsGreatest = IsGreatestBy IsLive Entails

-- by small sums
abbrev pub IsSmallInductive : ℕ → List Transition → List Linear → Type 0
IsSmallInductive = IsInductiveBy small.IsLive IsSmall

abbrev pub IsGreatestSmall : ℕ → List Transition → List Linear → Type 0
IsGreatestSmall = IsGreatestBy small.IsLive IsSmall

-- ---- what shows the greatest set
-- a template that isn't in it, and a point of a step after which it fails
pub record Lost : Type 0 where
  pub template : Linear
  pub step : Transition
  pub point : Point

-- The point meets the step's rows, the kept templates, the template and those that are lost later; the step is live there.
pub record IsLost (n : ℕ) (steps : List Transition) (kept : List Linear) (later : List Lost) (l : Lost) : Type 0 where
  pub is_step : Contains steps l.step
  pub point : IsPointOf (visit_rows n (lins l.step.rows) (kept ++ l.template ∷ map (λ (m : Lost). m.template) later)) l.point
  pub fails : HoldsAt (stepped n l.step.next l.template) l.point.t l.point.v → ⊥

-- each of a list
abbrev pub AreLost : ℕ → List Transition → List Linear → List Lost → Type 0
AreLost n steps kept [] = Unit {0}
AreLost n steps kept (l ∷ later) = IsLost n steps kept later l × AreLost n steps kept later

-- Each kept template has multipliers for each live step, and each other template is lost.
pub record ShowsGreatest (n : ℕ) (steps : List Transition) (kept : List Linear) (lost : List Lost) : Type 0 where
  pub templates : AreSome kept (templates_of n)
  pub stays : (step : Transition) (g : Linear) → Contains steps step → IsLive step → Contains kept g → (m : Multipliers) × Proves (visit_rows n (lins step.rows) kept) m (stepped n step.next g)
  pub none_kept : AreLost n steps kept lost
  pub all : (g : Linear) → Contains (templates_of n) g → Contains kept g ⊎ Contains (map (λ (l : Lost). l.template) lost) g
