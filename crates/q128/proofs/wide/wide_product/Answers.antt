use Rattle.std.proofs.Common.{arith}
use Rattle.q128.proofs.Halves.{product_of_halves}
use Rattle.q128.proofs.wide.wide_product.Goals as goal

pub returns : goal.returns
returns c = record { value = product_of_halves c.args.a c.args.b 18446744073709551616 (omega arith) }
