use Rattle.std.proofs.Common.{rules}
use Rattle.std.specs.Prelude.{slice_index}
use Rattle.std.proofs.lemmas.List.Sorted.{IsNonDecreasingBy-from_sort_by_key}
use Rattle.code_flow.proofs.Orders.{by_number}
use Rattle.code_flow.proofs.ordering.order_of.Goals as goal

pub returns : goal.returns
returns c =
    by_number c.args.numbers.now _ _ c.in_ok-order.ensures c.sort_unstable_by_key.ensures.permutation
    (IsNonDecreasingBy-from_sort_by_key (λ k. slice_index c.args.numbers.now k) _ c.sort_unstable_by_key.ensures.sorted (λ a r q k. search rules))
