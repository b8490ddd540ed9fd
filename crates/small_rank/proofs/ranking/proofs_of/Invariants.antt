use Rattle.std.specs.List.{AllZip}
use Rattle.std.proofs.Common.{take}
use Rattle.small_rank.specs.Answer.{ProvesStep}
use Rattle.small_rank.proofs.ranking.proofs_of.Given as goal

abbrev pub invariant-loop-step : goal.invariant-loop-step
invariant-loop-step l = AllZip (ProvesStep l.f) l.proofs (take l.step-index l.steps)
