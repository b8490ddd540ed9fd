-- What the pivot answers.
use Rattle.std.specs.Prelude.{ℕ, List, Result, Ok, Err, OnOk, IfErr}
use Rattle.q128.specs.declared.q.TooWide.{TooWide}
use Rattle.lin_rows.specs.Linear.{Linear}
use Rattle.lp_lines.specs.Tables.{Tableau, IsTableau, HasPivotAt, IsPivoted, IsWidePivot}
use Rattle.lp_lines.specs.inside.Moves.{IsPivotedAt, FailsPivotAt}
use Rattle.lp_lines.proofs.Kept.{choice_after, tableau_after}
use Rattle.lp_lines.proofs.Narrow.{narrow_pivot}
use Rattle.lp_lines.proofs.Wide.{wide_pivot}

pub kept_on : {A : Type 0} (rows : List Linear) (line column : ℕ) (t u : Tableau) (result : Result A TooWide) → IsTableau rows t → HasPivotAt line column t → OnOk result (IsPivotedAt line column t u) → OnOk result (IsPivoted rows line column t u)
kept_on rows line column t u (Ok x) is has p = record { narrow = narrow_pivot is has p; chosen = choice_after is has p; tableau = tableau_after is has p }
kept_on rows line column t u (Err e) is has p = tt

pub wide_on : {A : Type 0} (rows : List Linear) (line column : ℕ) (t : Tableau) (result : Result A TooWide) → IsTableau rows t → HasPivotAt line column t → IfErr result (λ e. FailsPivotAt line column t e) → IfErr result (λ e. IsWidePivot rows line column t e)
wide_on rows line column t (Ok x) is has f = tt
wide_on rows line column t (Err e) is has f = wide_pivot is has e f
