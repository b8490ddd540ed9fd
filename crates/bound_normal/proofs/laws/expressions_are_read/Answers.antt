use Rattle.bound_normal.proofs.Expressions.{well, floored_reads}
use Rattle.bound_normal.proofs.laws.expressions_are_read.Goals as goal

pub returns : goal.returns
returns c n m r s h g e = floored_reads n m r s (well n h) (well m g) e
