use Rattle.std.specs.Prelude.{◌≡◌, ℕ, ◌≤◌, pos, nat_eq, length, Ok}
use Rattle.std.proofs.Common.{arith, sym, ◌∙◌, ap}
use Rattle.std.proofs.lemmas.List.{length-set}
use Rattle.std.proofs.lemmas.Result.{err_from_is_err_and}
use Rattle.q128.specs.Fraction.{whole}
use Rattle.lp_lines.specs.Numbers.{place_of}
use Rattle.lp_lines.specs.inside.Lines.{divided, solved_unless}
use Rattle.lp_lines.proofs.Lines.{made_more, left_less, place_is, line_solved, solving_fails}
use Rattle.lp_lines.proofs.line.solve.Goals as goal

pub loop-p-preserved : goal.loop-p-preserved
loop-p-preserved c =
    let xs = c.loop-p.line.items in
    let before = c.args.line.now.items in
    let k = c.index-k.result.now in
    let p = c.loop-p.p in
    let q : c.index.result.now ≡ place_of before p = place_is xs p c.index.result.now (omega (arith, c.loop-p.invariant.size)) c.index.ensures ∙ c.loop-p.invariant.left p (omega arith) in
    let made : solved_unless (nat_eq p c.args.column) k (place_of before p) ≡ Ok c.in_ok-line.field-0 = ap (solved_unless (nat_eq p c.args.column) k) (sym q) ∙ sym c.solved_unless.ensures ∙ c.in_ok-line.was in
    record {
      size = length-set xs p c.in_ok-line.field-0 ∙ c.loop-p.invariant.size;
      made = made_more (λ (u : ℕ). solved_unless (nat_eq u c.args.column) k (place_of before u)) xs p c.in_ok-line.field-0 (omega (arith, c.loop-p.invariant.size)) c.loop-p.invariant.made made;
      left = left_less xs before p c.in_ok-line.field-0 c.loop-p.invariant.left;
    }

pub returns-in_err-line-clause-err : goal.returns-in_err-line-clause-err
returns-in_err-line-clause-err c =
    let xs = c.loop-p.line.items in
    let before = c.args.line.now.items in
    let k = c.index-k.result.now in
    let p = c.loop-p.p in
    let q : c.index.result.now ≡ place_of before p = place_is xs p c.index.result.now (omega (arith, c.loop-p.invariant.size)) c.index.ensures ∙ c.loop-p.invariant.left p (omega arith) in
    let failed = ap (solved_unless (nat_eq p c.args.column) k) (sym q) ∙ sym c.solved_unless.ensures ∙ c.in_err-line.was in
    let is : k ≡ place_of before c.args.column = place_is before c.args.column k (omega (arith, c.requires.within)) c.index-k.ensures in
    let e = err_from_is_err_and c.from_residual-in_err-line.result c.from_residual-in_err-line.ensures.1 in
    rw (e.1, e.2) (solving_fails c.args.column before k p _ (omega (arith, c.loop-p.invariant.size)) is failed)

pub returns-clause-ok : goal.returns-clause-ok
returns-clause-ok c =
    let before = c.args.line.now.items in
    let k = c.index-k.result.now in
    let is : k ≡ place_of before c.args.column = place_is before c.args.column k (omega (arith, c.requires.within)) c.index-k.ensures in
    let all : length before ≤ c.loop-p.p = omega (arith, c.loop-p-test.false, c.len-p-end.ensures) in
    let inverse : divided (whole (pos 1)) k ≡ Ok c.in_ok-inverse.inverse = ap (λ z. divided z k) (sym c.whole.ensures) ∙ sym c.div.ensures.answer ∙ c.in_ok-inverse.was in
    line_solved c.args.column before c.loop-p.line.items k c.in_ok-inverse.inverse (omega (arith, c.requires.within)) c.loop-p.invariant.size is inverse (λ u lt. c.loop-p.invariant.made u (omega arith))
