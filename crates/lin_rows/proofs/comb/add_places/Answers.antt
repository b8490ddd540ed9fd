use Rattle.std.specs.Prelude.{pos, ◌≡◌, FitsSigned}
use Rattle.std.specs.Int.{w128}
use Rattle.std.proofs.Common.{arith, rules, sym, ◌∙◌, get_or}
use Rattle.std.proofs.lemmas.Int.{to_z-of_z}
use Rattle.std.proofs.lemmas.List.{length-set}
use Rattle.std.proofs.lemmas.Result.{err_from_is_err_and}
use Rattle.lin_rows.specs.Combining.{term_added}
use Rattle.lin_rows.proofs.Terms.{places_ok, places_err, places_end}
use Rattle.lin_rows.proofs.comb.add_places.Goals as goal

pub loop-i-preserved : goal.loop-i-preserved
loop-i-preserved c =
    let coefficient = get_or c.args.coefficients.now c.loop-i.i (pos 0) in
    let fit : FitsSigned w128 coefficient = search rules in
    let called : c.add_term.result ≡ term_added c.index.result.now c.args.q coefficient = simp to_z-of_z at c.add_term.ensures in
    record {
      left = places_ok c.loop-i.places.items c.args.q c.args.coefficients.now c.loop-i.i c.index.result.now c.in_ok-places.field-0 _ (omega arith) (omega (arith, c.loop-i.invariant.same)) c.index.ensures (sym called ∙ c.in_ok-places.was) c.loop-i.invariant.left;
      same = length-set c.loop-i.places.items c.loop-i.i c.in_ok-places.field-0 ∙ c.loop-i.invariant.same;
    }

pub returns-in_err-places-clause-err : goal.returns-in_err-places-clause-err
returns-in_err-places-clause-err c =
    let coefficient = get_or c.args.coefficients.now c.loop-i.i (pos 0) in
    let fit : FitsSigned w128 coefficient = search rules in
    let called : c.add_term.result ≡ term_added c.index.result.now c.args.q coefficient = simp to_z-of_z at c.add_term.ensures in
    let p = err_from_is_err_and c.from_residual.result c.from_residual.ensures.1 in
    rw (p.1, p.2) (places_err c.loop-i.places.items c.args.q c.args.coefficients.now c.loop-i.i c.index.result.now _ _ (omega arith) (omega (arith, c.loop-i.invariant.same)) c.index.ensures (sym called ∙ c.in_err-places.was) c.loop-i.invariant.left)

pub returns-clause-ok : goal.returns-clause-ok
returns-clause-ok c = places_end c.loop-i.places.items c.args.q c.args.coefficients.now c.loop-i.i _ (omega arith) c.loop-i.invariant.left
