use Rattle.std.proofs.Common.{take}
use Rattle.small_levels.specs.Measured.{AreKnown}
use Rattle.small_levels.proofs.levels.levels_over.Given as goal

abbrev pub invariant-loop-step : goal.invariant-loop-step
invariant-loop-step l = AreKnown (take l.step-index l.steps) l.f l.known
