use Rattle.std.specs.Prelude.{◌+◌, List, ◌++◌, drop, All}
use Rattle.std.proofs.Common.{sym, ap, ◌∙◌, subst}
use Rattle.std.proofs.lemmas.List.Elements.{All-push}
use Rattle.q128.specs.Fraction.{Fraction}
use Rattle.lin_rows.specs.Rows.{lins}
use Rattle.lp_lines.specs.Numbers.{IsNumber}
use Rattle.lp_lines.specs.inside.First.{first_lines, AreNumbers}
use Rattle.lp_lines.proofs.First.{lines_step}
use Rattle.lp_lines.proofs.table.first_lines.Goals as goal

pub loop-row-preserved : goal.loop-row-preserved
loop-row-preserved c =
    let n = c.args.variables in
    let rows = c.args.rows.now in
    let i = c.loop-row.row-index in
    let done = c.loop-row.lines.items in
    let line = c.in_ok-of_row.field-0 in
    record {
      lines = ap (λ (ls : List (List Fraction)). ls ++ first_lines n (lins (drop (i + 1) rows))) c.in_ok-push.ensures.items ∙ lines_step n rows i done c.row-item.result line c.loop-row-test.true c.row-item.is c.in_ok-of_row.ensures.line c.loop-row.invariant.lines;
      numbers = subst AreNumbers (sym c.in_ok-push.ensures.items) (All-push (λ (l : List Fraction). All IsNumber l) done line c.loop-row.invariant.numbers c.in_ok-of_row.ensures.numbers);
    }
