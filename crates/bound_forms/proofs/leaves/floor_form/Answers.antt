use Rattle.bound_forms.proofs.Fixed.{floor_fixed}
use Rattle.bound_forms.proofs.leaves.floor_form.Goals as goal

pub returns-in-Some : goal.returns-in-Some
returns-in-Some c = floor_fixed c.constant.result c.args.n.now c.in-Some.number c.in-Some.ensures.value c.constant.ensures
