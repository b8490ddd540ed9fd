use Rattle.small_rank.specs.Answer.{sizes_of}
use Rattle.small_rank.proofs.Stepped.{found_levels, first_units}
use Rattle.small_rank.proofs.ranking.live_rank.Goals as goal

pub multiple_of-requires-clause-units : goal.multiple_of-requires-clause-units
multiple_of-requires-clause-units c = first_units c.args.steps.now (sizes_of c.args.steps.now) c.args.found c.requires

pub proofs_of-requires-clause-units : goal.proofs_of-requires-clause-units
proofs_of-requires-clause-units c = first_units c.args.steps.now (sizes_of c.args.steps.now) c.args.found c.requires

pub proofs_of-requires-clause-levels : goal.proofs_of-requires-clause-levels
proofs_of-requires-clause-levels c = found_levels c.args.steps.now (sizes_of c.args.steps.now) c.args.found c.requires
