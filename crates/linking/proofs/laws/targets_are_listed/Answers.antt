use Rattle.linking.proofs.TargetLists.{targets_listed, fault_listed}
use Rattle.linking.proofs.laws.targets_are_listed.Goals as goal

pub returns-clause-targets : goal.returns-clause-targets
returns-clause-targets k = λ c ts. targets_listed k.args.world.now c k.args.method ts k.well_built.ensures k.requires

pub returns-clause-fault : goal.returns-clause-fault
returns-clause-fault k = λ c fault. fault_listed k.args.world.now c k.args.method fault k.well_built.ensures k.requires
