use Rattle.std.specs.Vec.Iter.{into_iter_items}
use Rattle.bound_forms.proofs.Readings.{low_first, form_more}
use Rattle.bound_forms.proofs.reading.put_forms.Goals as goal

pub form_of-requires : goal.form_of-requires
form_of-requires c = low_first c.in-Some.part (into_iter_items c.loop-part.part-iterator) (into_iter_items c.next.new.self) c.in-Some.ensures.steps.0 c.loop-part.invariant.1

pub loop-part-preserved : goal.loop-part-preserved
loop-part-preserved c =
    form_more c.loop-part.operands.items c.push.new.self.items c.in_ok-form_of.field-0 c.in-Some.part (into_iter_items c.loop-part.part-iterator) (into_iter_items c.next.new.self) _ c.in-Some.ensures.steps.0 c.in_ok-form_of.ensures c.in_ok-push.ensures.items c.loop-part.invariant
