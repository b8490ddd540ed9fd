use Rattle.small_levels.proofs.LevelSums.{known_dead}
use Rattle.small_levels.proofs.levels.added.Goals as goal

pub returns-then-is_dead : goal.returns-then-is_dead
returns-then-is_dead c = λ steps known. known_dead steps c.args.step.now c.args.f.now c.args.known (c.is_dead.ensures.dead c.if-is_dead.true) known

pub returns-in-Some : goal.returns-in-Some
returns-in-Some c = λ steps known. c.joined.ensures steps c.args.step.now c.args.f.now known (rw c.in-Some.is at c.in_ok-more.ensures)
