-- What rankings, templates and caps are good for.
use Rattle.std.specs.Prelude.{◌≡◌, ℕ, ℤ, pos, ◌+ℤ◌, ◌*ℤ◌, ◌≤ℤ◌, true, false, List, ◌++◌, length, Contains}
use Rattle.lin_rows.specs.declared.row.Transition.{Transition}
use Rattle.lin_rows.specs.Linear.{Linear}
use Rattle.lin_rows.specs.Points.{whole_value, HoldsAtWhole, RowsHoldAtWhole}
use Rattle.lin_rows.specs.Proving.{Multipliers}
use Rattle.lin_rows.specs.Rows.{lins}
use Rattle.lin_rows.specs.Transitions.{drop_of, StepsWhole}
use Rattle.small_cert.specs.Small.{IsSmall, falsehood}
use Rattle.rankings.specs.Entailment.{Entails, AreContradictory}
use Rattle.rankings.specs.Rankings.{raised, IsRanking}
use Rattle.rankings.specs.Templates.{IsInductive, IsSmallInductive, IsGreatest, Lost, ShowsGreatest}
use Rattle.rankings.specs.Caps.{IsCap, IsCapThere}
use Rattle.rankings.specs.Visits.{Visits, HaveSizes}

-- what follows over rational points holds at whole numbers
abbrev pub EntailedHolds : Type 0
EntailedHolds = (rows : List Linear) (goal : Linear) (zs : List ℤ) → Entails rows goal → RowsHoldAtWhole rows zs → HoldsAtWhole goal zs

-- A ranking isn't below 0 before a step from whole numbers, and falls with it.
abbrev pub RankingFalls : Type 0
RankingFalls =
    (sizes : ℕ) (steps : List Transition) (f : Linear) (c d : ℤ) (step : Transition) (before now : List ℤ)
    → IsRanking sizes steps f c d → Contains steps step → StepsWhole step before now
    → (pos 0 ≤ℤ (whole_value f before +ℤ c)) × ((whole_value f now +ℤ d) ≤ℤ whole_value f before)

-- both follow from the rows of each step over rational points
abbrev pub RankingFollows : Type 0
RankingFollows =
    (sizes : ℕ) (steps : List Transition) (f : Linear) (c d : ℤ) (step : Transition)
    → IsRanking sizes steps f c d → Contains steps step
    → Entails (lins step.rows) (raised f c) × Entails (lins step.rows) (drop_of f step.next d)

-- what is small follows over rational points
abbrev pub SmallFollows : Type 0
SmallFollows = (rows : List Linear) (l : Linear) → IsSmall rows l → Entails rows l

abbrev pub SmallContradicts : Type 0
SmallContradicts = (rows : List Linear) → IsSmall rows falsehood → AreContradictory rows

-- each template of an inductive set holds at each visit
abbrev pub KeptHolds : Type 0
KeptHolds =
    (n : ℕ) (steps : List Transition) (kept : List Linear) (entry x : List ℤ) (g : Linear)
    → IsInductive n steps kept → HaveSizes n steps → length entry ≡ n → Visits steps entry x → Contains kept g → HoldsAtWhole g (entry ++ x)

abbrev pub SmallKeptHolds : Type 0
SmallKeptHolds =
    (n : ℕ) (steps : List Transition) (kept : List Linear) (entry x : List ℤ) (g : Linear)
    → IsSmallInductive n steps kept → HaveSizes n steps → length entry ≡ n → Visits steps entry x → Contains kept g → HoldsAtWhole g (entry ++ x)

-- s times a capped expression is at most u where the rows hold
abbrev pub CapHolds : Type 0
CapHolds = (rows : List Linear) (entry : List ℕ) (l u : Linear) (s : ℕ) (m : Multipliers) (zs : List ℤ) → IsCap rows entry l u s m → RowsHoldAtWhole rows zs → (pos s *ℤ whole_value l zs) ≤ℤ whole_value u zs

-- and at each visit, where the rows before the call hold, at most u at the entry
abbrev pub CapHoldsAtVisits : Type 0
CapHoldsAtVisits =
    (n : ℕ) (steps : List Transition) (kept rows : List Linear) (l u : Linear) (s : ℕ) (entry x zs : List ℤ)
    → IsInductive n steps kept → HaveSizes n steps → length entry ≡ n → Visits steps entry x
    → IsCapThere true n rows kept l u s → RowsHoldAtWhole rows (x ++ zs) → (pos s *ℤ whole_value l (x ++ zs)) ≤ℤ whole_value u entry

abbrev pub CapHoldsAtEntry : Type 0
CapHoldsAtEntry =
    (n : ℕ) (kept rows : List Linear) (l u : Linear) (s : ℕ) (entry zs : List ℤ)
    → length entry ≡ n → IsCapThere false n rows kept l u s → RowsHoldAtWhole rows (entry ++ zs)
    → (pos s *ℤ whole_value l (entry ++ zs)) ≤ℤ whole_value u entry

-- the certificate shows the greatest set
abbrev pub ShownIsGreatest : Type 0
ShownIsGreatest = (n : ℕ) (steps : List Transition) (kept : List Linear) (lost : List Lost) → ShowsGreatest n steps kept lost → IsGreatest n steps kept
