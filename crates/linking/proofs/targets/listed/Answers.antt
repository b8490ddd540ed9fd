use Rattle.std.proofs.Common.{ap, sym, ◌∙◌}
use Rattle.std.specs.Prelude.{Ok}
use Rattle.linking.proofs.TargetLists.{targets_told, fault_told}
use Rattle.linking.proofs.targets.listed.Goals as goal

pub returns-in-Ok-clause-exact : goal.returns-in-Ok-clause-exact
returns-in-Ok-clause-exact c =
    targets_told c.args.world.now c.args.linked.class c.args.linked.method c.in-Ok.targets.items c.well_built.ensures c.requires c.in-Ok.ensures.targets
    ∙ ap Ok (sym c.from.ensures)

pub returns-in-Err-clause-exact : goal.returns-in-Err-clause-exact
returns-in-Err-clause-exact c =
    fault_told c.args.world.now c.args.linked.class c.args.linked.method c.in-Err.fault c.well_built.ensures c.requires c.in-Err.ensures.fault
