use Rattle.std.proofs.Common.{◌<◌, ◌≤◌, arith}
use Rattle.bound_forms.proofs.Covering.{dropped, covered, uncovered}
use Rattle.bound_forms.proofs.maxima.covers.Goals as goal

pub coefficient_at-requires-clause-order : goal.coefficient_at-requires-clause-order
coefficient_at-requires-clause-order c = dropped c.args.q.now c.place_from-j.result c.requires.left

pub returns-then-coefficient_at-coefficient : goal.returns-then-coefficient_at-coefficient
returns-then-coefficient_at-coefficient c =
    let less : c.coefficient_at.result < c.m-item.result.0 = omega (arith, c.coefficient.ensures.value, c.if-coefficient_at-coefficient.true) in
    uncovered c.args.q.now c.args.p.now c.loop-m.j c.place_from-j.result c.loop-m.m-index c.coefficient_at.result c.m-item.result _ c.loop-m-test.true c.m-item.is c.place_from-j.ensures.covers c.requires.right c.coefficient_at.ensures less c.loop-m.invariant.1

pub loop-m-preserved : goal.loop-m-preserved
loop-m-preserved c =
    let enough : c.m-item.result.0 ≤ c.coefficient_at.result = omega (arith, c.coefficient.ensures.value, c.if-coefficient_at-coefficient.false) in (
      c.place_from-j.ensures.within,
      covered c.args.q.now c.args.p.now c.loop-m.j c.place_from-j.result c.loop-m.m-index c.coefficient_at.result c.m-item.result _ c.loop-m-test.true c.m-item.is c.place_from-j.ensures.covers c.requires.right c.coefficient_at.ensures enough c.loop-m.invariant.1,
    )
