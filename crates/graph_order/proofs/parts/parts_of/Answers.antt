use Rattle.std.proofs.Common.{refl}
use Rattle.graph_order.proofs.Joins.{count_one}
use Rattle.graph_order.proofs.parts.parts_of.Goals as goal

pub returns : goal.returns
returns c = (
  refl,
  refl,
  record {
    chosen_count = c.requires;
    components = c.in_ok-numbers.ensures;
    condensed = c.in_ok-calls.ensures;
    reversed = c.in_ok-callers.ensures;
    first_count = count_one _ _ _ c.in_ok-firsts.ensures.count c.in_ok-calls.ensures.counted;
    lowest = c.in_ok-firsts.ensures.firsts;
  },
)
