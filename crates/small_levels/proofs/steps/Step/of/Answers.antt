use Rattle.std.specs.Prelude.{◌≡◌}
use Rattle.std.proofs.Common.{◌∙◌}
use Rattle.small_levels.proofs.LiveSteps.{live_known}
use Rattle.small_levels.proofs.steps.Step.of.Goals as goal

pub invariant_of-result : goal.invariant_of-result
invariant_of-result c =
    let is : c.in_ok-index.index ≡ c.args.transition.now.rows = c.in_ok-index.ensures ∙ c.as_slice.ensures in
    (is, live_known c.args.transition.now c.in_ok-index.index c.in_ok-falsehood.falsehood c.in_ok-dead.dead is c.in_ok-falsehood.ensures c.in_ok-dead.ensures)
