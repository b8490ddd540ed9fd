-- How the greatest inductive set is found: by passes over the list of templates, each of which takes out what doesn't follow
-- from what is still kept.
use Rattle.std.specs.Prelude.{◌≡◌, ℕ, List, [], ◌∷◌, ◌++◌, Option, Some, None}
use Rattle.lin_rows.specs.declared.point.Point.{Point}
use Rattle.lin_rows.specs.Linear.{Linear}
use Rattle.lin_rows.specs.Points.{HoldsAt}
use Rattle.lin_rows.specs.Rows.{lins}
use Rattle.rankings.specs.SelfCalls.{Site, step_of}
use Rattle.rankings.specs.Entailment.{Entails, IsPointOf}
use Rattle.rankings.specs.Templates.{templates_of, visit_rows, stepped}

-- what is known of a row that may follow from others: it does, it doesn't, or the numbers that tell are too wide
pub data Verdict : Type 0 where
  Follows : Verdict
  Fails : Verdict
  TooWide : Verdict

abbrev pub Judge : Type 0
Judge = List Linear → Linear → Verdict

-- what a verdict says
abbrev pub Says : Verdict → List Linear → Linear → Type 0
Says Follows rows goal = Entails rows goal
Says Fails rows goal = (p : Point) × IsPointOf rows p × (HoldsAt goal p.t p.v → ⊥)
Says TooWide rows goal = Unit {0}

-- a template that is taken out, with the first call after which it doesn't follow, and whether it fails there
pub record Taken : Type 0 where
  pub template : Linear
  pub site : Site
  pub verdict : Verdict

abbrev pub taken_by : Verdict → Linear → Site → Option Taken → Option Taken
taken_by Follows g s later = later
taken_by Fails g s later = Some (record { template = g; site = s; verdict = Fails })
taken_by TooWide g s later = Some (record { template = g; site = s; verdict = TooWide })

-- the first of these calls after which the template doesn't follow from those that are still kept
abbrev pub first_loss : Judge → ℕ → List Linear → Linear → List Site → Option Taken
first_loss judge n kept g [] = None
first_loss judge n kept g (s ∷ rest) =
    taken_by (judge (visit_rows n (lins (step_of s).rows) kept) (stepped n (step_of s).next g)) g s (first_loss judge n kept g rest)

-- what a pass keeps, and what it takes out
pub record Pass : Type 0 where
  pub kept : List Linear
  pub taken : List Taken

abbrev pub pass_by : Option Taken → Pass → Pass → Pass
pass_by None stays goes = stays
pass_by (Some t) stays goes = record { kept = goes.kept; taken = t ∷ goes.taken }

-- a pass that has kept some templates and has others before it
abbrev pub pass_from : Judge → ℕ → List Site → List Linear → List Linear → Pass
pass_from judge n sites stayed [] = record { kept = stayed; taken = [] }
pass_from judge n sites stayed (g ∷ rest) =
    pass_by (first_loss judge n (stayed ++ g ∷ rest) g sites) (pass_from judge n sites (stayed ++ g ∷ []) rest) (pass_from judge n sites stayed rest)

abbrev pub pass_of : Judge → ℕ → List Site → List Linear → Pass
pass_of judge n sites kept = pass_from judge n sites [] kept

-- passes from some templates on, up to one that takes out none
pub data Passes (judge : Judge) (n : ℕ) (sites : List Site) : List Linear → List Linear → List Taken → Type 0 where
  ends : {kept : List Linear} → (pass_of judge n sites kept).taken ≡ [] → Passes judge n sites kept kept []
  goes : {kept last : List Linear} {t : Taken} {taken more : List Taken}
      → (pass_of judge n sites kept).taken ≡ t ∷ taken → Passes judge n sites (pass_of judge n sites kept).kept last more
      → Passes judge n sites kept last (t ∷ taken ++ more)

-- what all passes keep of the list, and what they take out, in order
abbrev pub AreKept : Judge → ℕ → List Site → List Linear → List Taken → Type 0
AreKept judge n sites kept taken = Passes judge n sites (templates_of n) kept taken
