use Rattle.std.proofs.Common.{arith, sym}
use Rattle.code_flow.proofs.Listings.{listed_start, listed_next, listed_end, listed_full}
use Rattle.code_flow.proofs.listing.reached.Goals as goal

pub loop-k-init : goal.loop-k-init
loop-k-init c = listed_start c.args.w.now c.args.m c.in_ok-of.field-0 c.new.result.items c.requires c.in_ok-of.ensures c.new.ensures.items

pub returns-in-None-clause-listed : goal.returns-in-None-clause-listed
returns-in-None-clause-listed c = listed_end c.args.w.now c.args.m c.loop-k.k c.loop-k.listing.found c.loop-k.listing.scans.items (omega arith) (sym c.in-None.ensures) c.loop-k.invariant

pub loop-k-preserved : goal.loop-k-preserved
loop-k-preserved c =
    listed_next c.args.w.now c.args.m c.loop-k.k c.loop-k.listing.found c.look.new.listing.found c.loop-k.listing.scans.items c.look.new.listing.scans.items c.in-Some.next (omega arith) (sym c.in-Some.ensures)
    c.in_ok-look-in-Some.ensures.found c.in_ok-look-in-Some.ensures.scans c.in_ok-look-in-Some.ensures.there c.loop-k.invariant

pub returns-clause-listed : goal.returns-clause-listed
returns-clause-listed c = listed_full c.args.w.now c.args.m c.loop-k.k c.loop-k.listing.found c.loop-k.listing.scans.items (omega arith) c.loop-k.invariant
