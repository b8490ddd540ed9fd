use Rattle.std.proofs.Common.{◌∙◌, sym}
use Rattle.std.proofs.lemmas.Bool.{both_ways}
use Rattle.bound_forms.proofs.Vanishing.{power_full, geometric_empty}
use Rattle.bound_forms.proofs.zeros.is_zero_geometric.Goals as goal

pub returns-then-is_zero_power : goal.returns-then-is_zero_power
returns-then-is_zero_power c =
    absurd (both_ways c.is_zero_power.result (c.is_zero_power.ensures.value c.args.n.now ∙ power_full c.args.b.now c.args.n.now c.is_zero_power.ensures.positive) c.if-is_zero_power.true)

pub returns-else-is_zero_power : goal.returns-else-is_zero_power
returns-else-is_zero_power c = c.is_zero_floor.ensures ∙ sym (geometric_empty c.args.b.now c.args.n.now c.is_zero_power.ensures.positive)
