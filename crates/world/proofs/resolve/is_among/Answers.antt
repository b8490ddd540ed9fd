use Rattle.std.proofs.Common.{◌∙◌}
use Rattle.world.proofs.Specific.{searched_by}
use Rattle.world.proofs.resolve.is_among.Goals as goal

pub returns : goal.returns
returns c = c.is_ok.ensures.value ∙ searched_by c.args.class c.args.rising.now c.binary_search.result c.requires c.binary_search.ensures.position
