use Rattle.graph_core.proofs.Rows.{found_in}
use Rattle.graph_core.proofs.row.Row.has.Goals as goal

pub returns : goal.returns
returns c =
    found_in c.self.inside.nodes.items _ c.args.self.now c.args.node _ _ c.deref.ensures.value c.self.view_is c.binary_search.ensures.position c.self.invariant c.is_ok.ensures.value
