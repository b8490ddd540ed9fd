use Rattle.std.specs.Prelude.{ℕ, ◌<◌, ◌≤◌, length}
use Rattle.std.proofs.Common.{arith, sym, ap, subst, ◌-◌, ◌∙◌}
use Rattle.std.proofs.lemmas.List.Elements.{All-get_or}
use Rattle.std.proofs.lemmas.Result.{err_from_is_err_and}
use Rattle.q128.specs.Fraction.{Fraction}
use Rattle.lin_rows.specs.Combining.{row_added}
use Rattle.lin_rows.specs.Linear.{Linear}
use Rattle.lin_rows.specs.Rows.{lins}
use Rattle.lin_rows.proofs.Terms.{lin_at, room_at, rows_ok, rows_err, rows_end}
use Rattle.lin_rows.proofs.comb.Comb.add_rows.Goals as goal

pub loop-i-preserved : goal.loop-i-preserved
loop-i-preserved c =
    let at = c.index-m-i.result in
    let fits = subst (λ (p : ℕ × Fraction). (0 < p.0) × (p.0 ≤ length c.args.rows.now)) (sym c.index-m-i.is) (All-get_or (λ (p : ℕ × Fraction). (0 < p.0) × (p.0 ≤ length c.args.rows.now)) c.args.m.now c.loop-i.i at (omega arith) c.requires.numbers.each) in
    let here = lin_at c.args.rows.now (at.0 - 1) c.index-rows-term.result _ (omega (arith, fits.0, fits.1)) c.index-rows-term.is in
    record {
      left = rows_ok (lins c.args.rows.now) c.loop-i.self c.add_row.new.self c.args.m.now c.loop-i.i c.index-m-i.result _ (omega arith) c.index-m-i.is (ap (λ (l : Linear). row_added c.loop-i.self at.1 l) here ∙ c.in_ok-add_row.ensures.ok) c.loop-i.invariant.left;
      same = c.add_row.ensures.places ∙ c.loop-i.invariant.same;
    }

pub returns-in_err-add_row-clause-err : goal.returns-in_err-add_row-clause-err
returns-in_err-add_row-clause-err c =
    let at = c.index-m-i.result in
    let fits = subst (λ (p : ℕ × Fraction). (0 < p.0) × (p.0 ≤ length c.args.rows.now)) (sym c.index-m-i.is) (All-get_or (λ (p : ℕ × Fraction). (0 < p.0) × (p.0 ≤ length c.args.rows.now)) c.args.m.now c.loop-i.i at (omega arith) c.requires.numbers.each) in
    let here = lin_at c.args.rows.now (at.0 - 1) c.index-rows-term.result _ (omega (arith, fits.0, fits.1)) c.index-rows-term.is in
    let p = err_from_is_err_and c.from_residual.result c.from_residual.ensures.1 in
    rw (p.1, p.2) (rows_err (lins c.args.rows.now) c.loop-i.self c.args.m.now c.loop-i.i c.index-m-i.result _ _ (omega arith) c.index-m-i.is (ap (λ (l : Linear). row_added c.loop-i.self at.1 l) here ∙ c.in_err-add_row.ensures.err) c.loop-i.invariant.left)

pub add_row-requires : goal.add_row-requires
add_row-requires c =
    let at = c.index-m-i.result in
    let fits = subst (λ (p : ℕ × Fraction). (0 < p.0) × (p.0 ≤ length c.args.rows.now)) (sym c.index-m-i.is) (All-get_or (λ (p : ℕ × Fraction). (0 < p.0) × (p.0 ≤ length c.args.rows.now)) c.args.m.now c.loop-i.i at (omega arith) c.requires.numbers.each) in
    let room = room_at c.args.rows.now (length c.args.self.now.coefficients) (at.0 - 1) c.index-rows-term.result (omega (arith, fits.0, fits.1)) c.index-rows-term.is c.requires.room.each in
    omega (arith, room, c.loop-i.invariant.same)

pub returns-clause-ok : goal.returns-clause-ok
returns-clause-ok c = rows_end (lins c.args.rows.now) c.loop-i.self c.args.m.now c.loop-i.i _ (omega arith) c.loop-i.invariant.left
