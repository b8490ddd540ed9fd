use Rattle.std.proofs.Common.{◌∙◌, arith}
use Rattle.bound_forms.proofs.Trimming.{short}
use Rattle.bound_forms.proofs.reducing.lowest.Goals as goal

pub new-requires : goal.new-requires
new-requires c = short _ c.as_slice.result.now c.trimmed_len.result _ (c.as_slice.ensures.value ∙ c.in_ok-numbers.ensures) (omega (arith, c.trimmed_len.type_inv))
