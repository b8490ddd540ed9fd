use Rattle.null_flow.proofs.Fitting.{fitted_by}
use Rattle.null_flow.proofs.effects.fitted.Goals as goal

pub returns : goal.returns
returns c =
    fitted_by c.args.size c.min.result c.saturating_sub.result c.args.slots.now c.new-flags.result.items c.add_all.new.flags.items c.add_unknown.new.flags.items
    c.new-flags.ensures.items c.in_ok-add_all.ensures c.in_ok-add_unknown.ensures c.min.ensures c.saturating_sub.ensures
