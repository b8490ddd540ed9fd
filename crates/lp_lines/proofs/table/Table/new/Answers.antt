use Rattle.std.specs.Prelude.{ℕ, length}
use Rattle.std.specs.List.{range_with_len}
use Rattle.std.proofs.Common.{sym, ap, ◌∙◌}
use Rattle.std.proofs.lemmas.List.{length-map}
use Rattle.lin_rows.specs.declared.row.Row.{Row}
use Rattle.lin_rows.specs.Rows.{lins}
use Rattle.solver_paths.specs.Choices.{variable_count}
use Rattle.lp_lines.specs.inside.First.{first_lines}
use Rattle.lp_lines.proofs.First.{first_is}
use Rattle.lp_lines.proofs.table.Table.new.Goals as goal

pub returns-clause-table : goal.returns-clause-table
returns-clause-table c =
    let rows = lins c.args.rows.now in
    let long = c.longest-variables.ensures.value in
    first_is rows _
    (c.in_ok-numbers.ensures ∙ ap (λ (n : ℕ). range_with_len 0 n) long)
    (c.in_ok-numbers-2.ensures ∙ ap (λ (n : ℕ). range_with_len n (length c.args.rows.now)) long ∙ ap (λ (k : ℕ). range_with_len (variable_count rows) k) (sym (length-map c.args.rows.now (λ (r : Row). r.lin))))
    (c.in_ok-first_lines.ensures.lines ∙ ap (λ (n : ℕ). first_lines n rows) long)
    c.in_ok-first_lines.ensures.numbers
