use Rattle.std.specs.Prelude.{◌≡◌, Ok}
use Rattle.std.proofs.Common.{sym, ap, ◌∙◌}
use Rattle.lin_rows.specs.Combining.{Combination, zeros, rows_added}
use Rattle.lin_rows.specs.Proving.{Multipliers}
use Rattle.lin_rows.specs.Rows.{lins}
use Rattle.lin_rows.proofs.Totals.{sum_is}
use Rattle.lin_rows.proofs.sums.combine.Goals as goal

pub returns-clause-exact : goal.returns-clause-exact
returns-clause-exact c =
    let rows = lins c.args.rows.now in
    let made : rows_added rows (zeros c.longest.result) c.args.m.now ≡ Ok c.add_rows.new.self =
    ap (λ (s : Combination). rows_added rows s c.args.m.now) (sym c.in_ok-sum.ensures) ∙ ap (λ (m : Multipliers). rows_added rows c.in_ok-sum.sum m) (sym c.as_slice.ensures) ∙ c.in_ok-add_rows.ensures.ok in
    sum_is rows c.longest.result c.args.m.now c.add_rows.new.self c.longest.ensures.room made
