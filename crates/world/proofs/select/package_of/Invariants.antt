use Rattle.std.proofs.Common.{◌≡◌, ◌≤◌, false, drop, length, nat_eq}
use Rattle.std.specs.List.{list_any}
use Rattle.world.proofs.select.package_of.Given as goal

abbrev pub invariant-loop-end : goal.invariant-loop-end
invariant-loop-end l = (l.end ≤ length l.name) × (list_any (nat_eq 47) (drop l.end l.name) ≡ false)

abbrev pub decreases-loop-end : goal.decreases-loop-end
decreases-loop-end l = l.end
