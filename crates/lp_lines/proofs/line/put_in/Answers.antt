use Rattle.std.specs.Prelude.{◌≡◌, ℕ, ◌≤◌, nat_eq, length, Ok}
use Rattle.std.proofs.Common.{arith, sym, ◌∙◌, ap}
use Rattle.std.proofs.lemmas.List.{length-set}
use Rattle.std.proofs.lemmas.Result.{err_from_is_err_and}
use Rattle.lp_lines.specs.Numbers.{place_of}
use Rattle.lp_lines.specs.inside.Lines.{divided, rest_unless}
use Rattle.lp_lines.proofs.Lines.{made_more, left_less, place_is, line_put, putting_fails}
use Rattle.lp_lines.proofs.line.put_in.Goals as goal

pub loop-p-preserved : goal.loop-p-preserved
loop-p-preserved c =
    let xs = c.loop-p.line.items in
    let before = c.args.line.now.items in
    let pivot = c.args.pivot.now in
    let s = c.in_ok-share.share in
    let p = c.loop-p.p in
    let own : c.index-in-loop-p.result.now ≡ place_of before p = place_is xs p c.index-in-loop-p.result.now (omega (arith, c.loop-p.invariant.size)) c.index-in-loop-p.ensures ∙ c.loop-p.invariant.left p (omega arith) in
    let q : c.index-pivot-p.result ≡ place_of pivot p = place_is pivot p c.index-pivot-p.result (omega (arith, c.loop-p.invariant.size, c.requires.same)) c.index-pivot-p.is in
    let made : rest_unless (nat_eq p c.args.column) s (place_of before p) (place_of pivot p) ≡ Ok c.in_ok-line.field-0 =
    ap (λ z. rest_unless (nat_eq p c.args.column) s z (place_of pivot p)) (sym own) ∙ ap (λ z. rest_unless (nat_eq p c.args.column) s c.index-in-loop-p.result.now z) (sym q) ∙ sym c.rest_unless.ensures ∙ c.in_ok-line.was in
    record {
      size = length-set xs p c.in_ok-line.field-0 ∙ c.loop-p.invariant.size;
      made = made_more (λ (u : ℕ). rest_unless (nat_eq u c.args.column) s (place_of before u) (place_of pivot u)) xs p c.in_ok-line.field-0 (omega (arith, c.loop-p.invariant.size)) c.loop-p.invariant.made made;
      left = left_less xs before p c.in_ok-line.field-0 c.loop-p.invariant.left;
    }

pub returns-in_err-line-clause-err : goal.returns-in_err-line-clause-err
returns-in_err-line-clause-err c =
    let xs = c.loop-p.line.items in
    let before = c.args.line.now.items in
    let pivot = c.args.pivot.now in
    let column = c.args.column in
    let s = c.in_ok-share.share in
    let p = c.loop-p.p in
    let own : c.index-in-loop-p.result.now ≡ place_of before p = place_is xs p c.index-in-loop-p.result.now (omega (arith, c.loop-p.invariant.size)) c.index-in-loop-p.ensures ∙ c.loop-p.invariant.left p (omega arith) in
    let q : c.index-pivot-p.result ≡ place_of pivot p = place_is pivot p c.index-pivot-p.result (omega (arith, c.loop-p.invariant.size, c.requires.same)) c.index-pivot-p.is in
    let failed = ap (λ z. rest_unless (nat_eq p column) s z (place_of pivot p)) (sym own) ∙ ap (λ z. rest_unless (nat_eq p column) s c.index-in-loop-p.result.now z) (sym q) ∙ sym c.rest_unless.ensures ∙ c.in_err-line.was in
    let m : c.index.result.now ≡ place_of before column = place_is before column c.index.result.now (omega (arith, c.requires.within)) c.index.ensures in
    let k : c.index-pivot-column.result ≡ place_of pivot column = place_is pivot column c.index-pivot-column.result (omega (arith, c.requires.within, c.requires.same)) c.index-pivot-column.is in
    let shared : divided (place_of before column) (place_of pivot column) ≡ Ok s = ap (λ z. divided z (place_of pivot column)) (sym m) ∙ ap (divided c.index.result.now) (sym k) ∙ sym c.div.ensures.answer ∙ c.in_ok-share.was in
    let e = err_from_is_err_and c.from_residual-in_err-line.result c.from_residual-in_err-line.ensures.1 in
    rw (e.1, e.2) (putting_fails column pivot before s p _ (omega (arith, c.loop-p.invariant.size)) shared failed)

pub returns-clause-ok : goal.returns-clause-ok
returns-clause-ok c =
    let before = c.args.line.now.items in
    let pivot = c.args.pivot.now in
    let column = c.args.column in
    let s = c.in_ok-share.share in
    let m : c.index.result.now ≡ place_of before column = place_is before column c.index.result.now (omega (arith, c.requires.within)) c.index.ensures in
    let k : c.index-pivot-column.result ≡ place_of pivot column = place_is pivot column c.index-pivot-column.result (omega (arith, c.requires.within, c.requires.same)) c.index-pivot-column.is in
    let shared : divided (place_of before column) (place_of pivot column) ≡ Ok s = ap (λ z. divided z (place_of pivot column)) (sym m) ∙ ap (divided c.index.result.now) (sym k) ∙ sym c.div.ensures.answer ∙ c.in_ok-share.was in
    let all : length before ≤ c.loop-p.p = omega (arith, c.loop-p-test.false, c.len-p-end.ensures) in
    line_put column pivot before c.loop-p.line.items s (omega (arith, c.requires.within)) c.loop-p.invariant.size shared (λ u lt. c.loop-p.invariant.made u (omega arith))
