use Rattle.small_sums.proofs.Residues.{rest_low, rest_high}
use Rattle.small_sums.proofs.key.rest_of.Goals as goal

pub returns-then-part-total : goal.returns-then-part-total
returns-then-part-total c = λ z x y rest h k l e. rest_low z x y c.args.total c.args.part rest h k l e c.if-part-total.true

pub returns-else-part-total : goal.returns-else-part-total
returns-else-part-total c = λ z x y rest h k l e. rest_high z x y c.args.total c.args.part rest h k l e c.if-part-total.false
