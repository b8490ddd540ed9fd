use Rattle.std.proofs.Common.{refl}
use Rattle.graph_core.proofs.Rows.{found_in}
use Rattle.loop_cut.proofs.Lists.{is_listed}
use Rattle.loop_cut.proofs.leaving.holds.Goals as goal

pub returns : goal.returns
returns c =
    is_listed _ _ _ (found_in c.args.nodes.now c.args.nodes.now c.args.nodes.now c.args.x _ _ refl refl c.binary_search.ensures.position c.requires c.is_ok.ensures.value)
