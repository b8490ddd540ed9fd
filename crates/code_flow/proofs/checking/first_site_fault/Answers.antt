use Rattle.std.proofs.Common.{arith, sym}
use Rattle.code_flow.specs.Flow.{first_of}
use Rattle.code_flow.specs.Checking.{checked_site}
use Rattle.code_flow.proofs.Firsts.{of_later, of_here, of_end}
use Rattle.code_flow.proofs.checking.first_site_fault.Goals as goal

pub returns-in-Some : goal.returns-in-Some
returns-in-Some c =
    let f = checked_site c.args.check.now c.args.found.now c.args.i c.args.m in
    of_here (checked_site c.args.check.now c.args.found.now c.args.i c.args.m) c.args.sites.now c.loop-site.site-index c.site-item.result c.site-item.result c.in-Some.fault (first_of f c.args.sites.now) (omega arith) c.site-item.is (sym c.in-Some.ensures) c.loop-site.invariant

pub loop-site-preserved : goal.loop-site-preserved
loop-site-preserved c =
    let f = checked_site c.args.check.now c.args.found.now c.args.i c.args.m in
    of_later (checked_site c.args.check.now c.args.found.now c.args.i c.args.m) c.args.sites.now c.loop-site.site-index c.site-item.result c.site-item.result (first_of f c.args.sites.now) (omega arith) c.site-item.is (sym c.in-None.ensures) c.loop-site.invariant

pub returns : goal.returns
returns c =
    let f = checked_site c.args.check.now c.args.found.now c.args.i c.args.m in
    of_end (checked_site c.args.check.now c.args.found.now c.args.i c.args.m) c.args.sites.now c.loop-site.site-index (first_of f c.args.sites.now) (omega arith) c.loop-site.invariant
