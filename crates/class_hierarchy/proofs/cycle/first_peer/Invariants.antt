use Rattle.std.proofs.Common.{◌≡◌, ℕ, ◌<◌, false}
use Rattle.class_hierarchy.specs.Ranks.{has_peer}
use Rattle.class_hierarchy.proofs.cycle.first_peer.Given as goal

abbrev pub invariant-loop-class : goal.invariant-loop-class
invariant-loop-class l = (d : ℕ) → d < l.class → has_peer l.graph l.numbers d ≡ false
