use Rattle.std.specs.Prelude.{◌≡◌, List, IfOk, MatchOption}
use Rattle.std.proofs.Common.{ap, ◌∙◌, subst}
use Rattle.lin_rows.specs.declared.row.Row.{Row}
use Rattle.lin_rows.specs.declared.row.Transition.{Transition}
use Rattle.lin_rows.specs.Rows.{lins}
use Rattle.small_cert.specs.Least.{IsLeastSum, HasNoLeast}
use Rattle.small_levels.proofs.steps.Step.least.Goals as goal

pub returns : goal.returns
returns c =
    let same : c.self.inside.index ≡ c.args.self.now.rows = c.self.invariant.0 ∙ ap (λ (t : Transition). t.rows) c.self.view_is in
    subst (λ (rows : List Row). IfOk c.least_constant.result (λ a. MatchOption a (HasNoLeast (lins rows) c.args.coefficients.now) (IsLeastSum (lins rows) c.args.coefficients.now))) same c.least_constant.ensures
