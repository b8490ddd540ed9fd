use Rattle.std.proofs.Common.{◌≡◌, ◌<◌, ◌+◌, ◌*◌, ◌^◌, ℕ, sym, ◌∙◌, ap, subst, arith}
use Rattle.std.proofs.lemmas.Result.{err_from_is_err_and}
use Rattle.bound_terms.specs.Values.{geo}
use Rattle.bound_terms.proofs.Growth.{geo_one, geo_big, geo_later, geo_next_is}
use Rattle.bound_terms.proofs.power.geometric.Goals as goal

pub returns-then-b-eq1 : goal.returns-then-b-eq1
returns-then-b-eq1 c =
    let e : geo c.args.b c.args.n ≡ c.args.n = let P : ℕ → Type 0 = λ x. geo x c.args.n ≡ c.args.n in subst P (sym c.if-b-eq1.true) (geo_one c.args.n) in
    (omega (arith, e, c.ranges.n.fits), sym e)

pub returns-then-n-gt128 : goal.returns-then-n-gt128
returns-then-n-gt128 c = λ h. omega (arith, h, geo_big c.args.b c.args.n (omega (arith, c.if-b-eq1.false, c.requires)) (omega (arith, c.if-n-gt128.true)))

pub returns-in_err-sum : goal.returns-in_err-sum
returns-in_err-sum c =
    let big : ¬ (c.args.b * c.loop-count.sum + 1 < 2 ^ 128) = c.in_err-sum.ensures in
    let p = err_from_is_err_and c.from_residual.result c.from_residual.ensures.1 in
    rw p.1 (λ h. big (let below : geo c.args.b c.args.n < 2 ^ 128 = h in grind (arith, below, geo_later c.args.b c.args.n c.loop-count.count c.loop-count.sum c.loop-count.invariant.0 c.loop-count-test.true)))

pub loop-count-preserved : goal.loop-count-preserved
loop-count-preserved c =
    (geo_next_is c.args.b c.loop-count.count c.loop-count.sum c.in_ok-sum.sum c.loop-count.invariant.0 c.in_ok-sum.ensures.1, omega (arith, c.loop-count-test.true), rw c.in_ok-sum.ensures.1 c.in_ok-sum.ensures.0)

pub returns : goal.returns
returns c =
    let e : c.loop-count.count ≡ c.args.n = omega (arith, c.loop-count-test.false, c.loop-count.invariant.1) in
    let is : c.loop-count.sum ≡ geo c.args.b c.args.n = c.loop-count.invariant.0 ∙ ap (geo c.args.b) e in
    (omega (arith, is, c.loop-count.invariant.2), is)
