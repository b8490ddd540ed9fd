use Rattle.std.proofs.Common.{ℕ, ◌<◌, arith}
use Rattle.common_laws.proofs.Orders.{one_list}
use Rattle.common_laws.proofs.ordered_lists_are_one.Goals as goal

pub returns : goal.returns
returns c = λ xs ys up also same. one_list (λ (x y : ℕ). x < y) (λ a b less more. omega (arith, less, more)) xs ys up also same
