use Rattle.std.proofs.Common.{◌<◌, length, arith, sym, ◌∙◌}
use Rattle.bound_forms.proofs.Covering.{walked, is_less}
use Rattle.bound_forms.proofs.maxima.place_from.Goals as goal

pub loop-place-preserved : goal.loop-place-preserved
loop-place-preserved c =
    let within : c.loop-place.place < length c.args.q.now = c.loop-place-test.true in (
      omega arith,
      λ ms rise.
          walked c.args.q.now c.loop-place.place c.index-q-place.result c.args.m.now ms _ within c.index-q-place.is (sym c.order.ensures ∙ is_less c.order.result c.eq.result c.eq.ensures c.if-eq.true) rise (c.loop-place.invariant.1 ms rise),
    )
