use Rattle.std.proofs.Common.{arith, ◌≡◌, List, length, [], get_or, set, ap, ◌∙◌, subst}
use Rattle.std.proofs.lemmas.List.{get_or_default}
use Rattle.std.proofs.lemmas.Result.{err_from_is_err_and}
use Rattle.q128.specs.Fraction.{Fraction}
use Rattle.lp_lines.specs.Tables.{Tableau}
use Rattle.lp_lines.specs.inside.Moves.{FailsPutting, solving}
use Rattle.lp_lines.specs.inside.Lines.{FailsSolving}
use Rattle.lp_lines.proofs.Moves.{failed_putting}
use Rattle.lp_lines.proofs.table.Table.pivot_at.Goals as goal

pub returns-in_err-put_in_all-clause-err : goal.returns-in_err-put_in_all-clause-err
returns-in_err-put_in_all-clause-err c =
    let e = err_from_is_err_and c.from_residual.result c.from_residual.ensures.1 in
    let t = c.args.self.now in
    let line = c.args.line in
    let lines : c.self.inside.lines.items ≡ t.lines = ap (λ (u : Tableau). u.lines) c.self.view_is in
    let own : c.replace-pivot.result ≡ get_or c.self.inside.lines.items line [] = c.replace-pivot.ensures.value ∙ c.index_mut.ensures.value ∙ get_or_default c.self.inside.lines.items line c.index_mut.result.now [] (omega (arith, c.requires.line_within, ap (λ (xs : List (List Fraction)). length xs) lines)) in
    let gone : c.replace-pivot.new.dest ≡ [] = c.replace-pivot.ensures.after ∙ c.empty.ensures in
    let taken = subst (λ (x : List Fraction). FailsPutting line c.args.column c.replace-pivot.result (set c.self.inside.lines.items line x) c.in_err-put_in_all.field-0.0) gone c.in_err-put_in_all.ensures.err in
    let fails = subst (λ l. FailsPutting line c.args.column l (set c.self.inside.lines.items line []) c.in_err-put_in_all.field-0.0) own taken in
    rw (e.1, e.2) (failed_putting t line c.args.column c.in_err-put_in_all.field-0.0 (subst (λ xs. FailsPutting line c.args.column (get_or xs line []) (set xs line []) c.in_err-put_in_all.field-0.0) lines fails))

pub returns-in_err-solve-clause-err : goal.returns-in_err-solve-clause-err
returns-in_err-solve-clause-err c =
    let e = err_from_is_err_and c.from_residual-in_err-solve.result c.from_residual-in_err-solve.ensures.1 in
    let t = c.args.self.now in
    let line = c.args.line in
    let lines : c.self.inside.lines.items ≡ t.lines = ap (λ (u : Tableau). u.lines) c.self.view_is in
    let own : c.replace-pivot.result ≡ get_or c.self.inside.lines.items line [] = c.replace-pivot.ensures.value ∙ c.index_mut.ensures.value ∙ get_or_default c.self.inside.lines.items line c.index_mut.result.now [] (omega (arith, c.requires.line_within, ap (λ (xs : List (List Fraction)). length xs) lines)) in
    let at : c.replace-pivot.result ≡ get_or t.lines line [] = own ∙ ap (λ xs. get_or xs line []) lines in
    rw (e.1, e.2) (solving (subst (λ l. FailsSolving c.args.column l c.in_err-solve.field-0.0) at c.in_err-solve.ensures.err))
