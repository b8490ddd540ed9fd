use Rattle.std.proofs.Common.{◌≡◌, arith, length, rules}
use Rattle.std.proofs.lemmas.List.Sorted.{IsNonDecreasingBy-from_sort_by_key}
use Rattle.class_hierarchy.specs.declared.rank.Ranked.{Ranked}
use Rattle.class_hierarchy.proofs.Ordering.{by_rank_so}
use Rattle.class_hierarchy.proofs.rank.by_rank.Goals as goal

pub returns : goal.returns
returns c =
    let all : c.loop-class.class ≡ length c.args.ranks.now = omega arith in
    by_rank_so c.args.ranks.now c.loop-class.order.items c.sort_unstable_by_key.new.self.items c.loop-class.class all c.loop-class.invariant.0 c.loop-class.invariant.1 c.sort_unstable_by_key.ensures.permutation
    (IsNonDecreasingBy-from_sort_by_key (λ (r : Ranked). r.rank) _ c.sort_unstable_by_key.ensures.sorted (λ a r q k. search rules))
