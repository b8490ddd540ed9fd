use Rattle.std.proofs.Common.{◌≡◌, drop, find}
use Rattle.fix_engine.specs.Solution.{at_points}
use Rattle.frame_kinds.specs.Flow.{kind_problem}
use Rattle.frame_kinds.specs.Disagreeing.{disagrees}
use Rattle.frame_kinds.proofs.disagreeing.first_disagreement.Given as goal

abbrev pub invariant-loop-instruction : goal.invariant-loop-instruction
invariant-loop-instruction l =
    find (disagrees l.body (at_points (kind_problem l.body) l.facts)) (drop l.instruction-index l.body.instructions)
    ≡ find (disagrees l.body (at_points (kind_problem l.body) l.facts)) l.body.instructions
