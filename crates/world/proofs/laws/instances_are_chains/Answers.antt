use Rattle.world.proofs.Chains.{instance_chain}
use Rattle.world.proofs.laws.instances_are_chains.Goals as goal

pub returns : goal.returns
returns c = λ a b. instance_chain c.args.world.now c.well_built.ensures a b
