use Rattle.bound_forms.proofs.Flags.{rising_at}
use Rattle.bound_forms.proofs.maxima.is_covered.Goals as goal

pub covers-requires-clause-left : goal.covers-requires-clause-left
covers-requires-clause-left c = rising_at c.args.before.now c.loop-q.q-index c.q-item.result c.as_slice.result.now c.requires.operands c.loop-q-test.true c.q-item.is c.as_slice.ensures.value
