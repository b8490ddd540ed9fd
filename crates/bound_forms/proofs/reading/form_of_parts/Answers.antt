use Rattle.std.specs.Vec.Iter.{into_iter_items}
use Rattle.bound_forms.proofs.Readings.{monomial_more}
use Rattle.bound_forms.proofs.reading.form_of_parts.Goals as goal

pub loop-part-preserved : goal.loop-part-preserved
loop-part-preserved c =
    monomial_more c.loop-part.form.items c.push.new.self.items c.in_ok-monomial_of.field-0 c.in-Some.part (into_iter_items c.loop-part.part-iterator) (into_iter_items c.next.new.self) _ c.in-Some.ensures.steps.0 c.in_ok-monomial_of.ensures c.in_ok-push.ensures.items c.loop-part.invariant
