use Rattle.std.proofs.Common.{arith}
use Rattle.code_flow.proofs.Edges.{sites_next}
use Rattle.code_flow.proofs.calling.add_sites.Goals as goal

pub loop-site-preserved : goal.loop-site-preserved
loop-site-preserved c = sites_next c.args.found.now c.args.i c.args.sites.now c.loop-site.site-index c.site-item.result c.site-item.result c.args.graph.now c.loop-site.graph c.add_site.new.graph (omega arith) c.site-item.is c.loop-site.invariant c.in_ok-add_site.ensures.added
