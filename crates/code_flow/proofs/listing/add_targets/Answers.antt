use Rattle.std.proofs.Common.{arith}
use Rattle.code_flow.proofs.Listings.{targets_step, targets_end}
use Rattle.code_flow.proofs.listing.add_targets.Goals as goal

pub loop-site-preserved : goal.loop-site-preserved
loop-site-preserved c = targets_step c.args.found.now c.add_site.new.found c.loop-site.found c.args.sites.now c.loop-site.site-index c.site-item.result c.site-item.result (omega arith) c.site-item.is c.in_ok-add_site.ensures c.loop-site.invariant

pub returns : goal.returns
returns c = targets_end c.args.found.now c.loop-site.found c.args.sites.now c.loop-site.site-index (omega arith) c.loop-site.invariant
