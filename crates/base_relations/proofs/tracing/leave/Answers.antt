use Rattle.std.proofs.Common.{refl}
use Rattle.base_relations.proofs.Looking.{leave_goes}
use Rattle.base_relations.proofs.tracing.leave.Goals as goal

pub returns-clause-goes_on : goal.returns-clause-goes_on
returns-clause-goes_on c =
    let old = c.args.trail.now in
    leave_goes c.args.plan.now c.requires.plan old.done c.push.new.self old.pending old.pending old.items c.requires.trail c.in_ok-push.ensures.ok refl
