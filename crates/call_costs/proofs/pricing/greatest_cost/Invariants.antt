use Rattle.std.proofs.Common.{◌≡◌, map, drop, max}
use Rattle.call_costs.specs.Costs.{greatest}
use Rattle.call_costs.specs.Knowing.{cost_in}
use Rattle.call_costs.proofs.pricing.greatest_cost.Given as goal

abbrev pub invariant-loop-m : goal.invariant-loop-m
invariant-loop-m l = max l.most (greatest (map (cost_in l.known) (drop l.m-index l.methods))) ≡ greatest (map (cost_in l.known) l.methods)
