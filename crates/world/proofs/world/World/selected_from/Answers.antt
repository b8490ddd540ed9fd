use Rattle.std.proofs.Common.{ap, ◌∙◌}
use Rattle.world.specs.Selection.{allowed, selected_by}
use Rattle.world.proofs.world.World.selected_from.Goals as goal

pub returns-in-Ok : goal.returns-in-Ok
unfolding selected_by
returns-in-Ok c = λ k r h. c.allowed_from.ensures k r h ∙ ap (λ o. allowed c.args.self.now r c.args.m o) (c.in-Ok.ensures k r h)

pub returns-in-Err : goal.returns-in-Err
unfolding selected_by
returns-in-Err c = λ k r h. ap (λ o. allowed c.args.self.now r c.args.m o) (c.in-Err.ensures k r h)
