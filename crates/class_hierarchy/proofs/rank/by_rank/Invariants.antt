use Rattle.std.proofs.Common.{◌≡◌, ℕ, ◌<◌, length, get_or}
use Rattle.class_hierarchy.specs.declared.rank.Ranked.{Ranked}
use Rattle.class_hierarchy.specs.Ranks.{number_in}
use Rattle.class_hierarchy.proofs.rank.by_rank.Given as goal

abbrev pub invariant-loop-class : goal.invariant-loop-class
invariant-loop-class l = (length l.order.items ≡ l.class) × ((k : ℕ) (d : Ranked) → k < l.class → get_or l.order.items k d ≡ record { rank = number_in l.ranks k; class = k })
