use Rattle.std.proofs.Common.{◌≡◌, ◌≤◌, ◌<◌, ◌^◌, ◌-◌}
use Rattle.bound_terms.specs.Values.{geo}
use Rattle.bound_terms.proofs.power.geometric.Given as goal

abbrev pub invariant-loop-count : goal.invariant-loop-count
invariant-loop-count l = (l.sum ≡ geo l.b l.count) × (l.count ≤ l.n) × (l.sum < 2 ^ 128)

abbrev pub decreases-loop-count : goal.decreases-loop-count
decreases-loop-count l = l.n - l.count
