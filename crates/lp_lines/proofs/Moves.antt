-- A pivot of the table, line by line.
use Rattle.std.specs.Prelude.{ℕ, [], set}
use Rattle.std.proofs.Common.{arith, subst}
use Rattle.std.proofs.lemmas.List.{get_or-set_other, length-set}
use Rattle.q128.specs.declared.q.TooWide.{TooWide}
use Rattle.lp_lines.specs.inside.Lines.{FailsRest}
use Rattle.lp_lines.specs.Tables.{Tableau, line_at}
use Rattle.lp_lines.specs.inside.Moves.{FailsPutting, at, FailsPivotAt, putting}

-- the line of the pivot was taken out
pub failed_putting : (t : Tableau) (line column : ℕ) (e : TooWide) → FailsPutting line column (line_at t line) (set t.lines line []) e → FailsPivotAt line column t e
failed_putting t line column e (at h lt apart fails) =
    putting h (omega (arith, length-set t.lines line [])) apart (subst (λ l. FailsRest column (line_at t line) l e) (get_or-set_other t.lines line h [] [] apart) fails)
