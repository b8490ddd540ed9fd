use Rattle.std.proofs.Common.{take}
use Rattle.small_levels.specs.Leveled.{AreDead}
use Rattle.small_rank.proofs.ranking.are_dead.Given as goal

abbrev pub invariant-loop-step : goal.invariant-loop-step
invariant-loop-step l = AreDead (take l.step-index l.steps)
