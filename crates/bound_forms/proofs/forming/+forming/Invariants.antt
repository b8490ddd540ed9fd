use Rattle.bound_forms.proofs.Formation.{TotalGoes, ProductGoes, MaximumGoes}
use Rattle.bound_forms.proofs.forming.+forming.Given as goal

abbrev pub invariant-total-loop-part : goal.invariant-total-loop-part
invariant-total-loop-part l = TotalGoes l.gathering l.parts l.part-index

abbrev pub invariant-product-loop-part : goal.invariant-product-loop-part
invariant-product-loop-part l = ProductGoes l.product.items l.parts l.part-index

abbrev pub invariant-greatest-loop-part : goal.invariant-greatest-loop-part
invariant-greatest-loop-part l = MaximumGoes l.operands.items l.parts l.part-index
