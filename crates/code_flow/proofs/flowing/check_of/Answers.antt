use Rattle.std.proofs.Common.{ap, length, ◌∙◌}
use Rattle.code_flow.specs.declared.scanning.Scan.{Scan}
use Rattle.std.proofs.Common.{List}
use Rattle.code_flow.proofs.Checks.{same_count, checks_back}
use Rattle.code_flow.proofs.flowing.check_of.Goals as goal

pub graph_of-requires-clause-count : goal.graph_of-requires-clause-count
graph_of-requires-clause-count c =
    ap (λ (l : List Scan). length l) c.deref.ensures.value ∙ same_count c.args.w.now c.args.m c.args.listing.now.found c.args.listing.now.scans.items c.requires c.in-None.ensures

pub returns-in_ok-numbers-in-None : goal.returns-in_ok-numbers-in-None
returns-in_ok-numbers-in-None c =
    checks_back c.args.w.now c.args.m c.args.listing.now.found c.args.listing.now.scans.items c.in_ok-graph-in-None.graph c.in_ok-numbers-in-None.numbers c.requires c.in-None.ensures
    (λ is. c.in_ok-graph-in-None.ensures c.args.w.now (c.deref.ensures.value ∙ is)) c.in_ok-numbers-in-None.ensures
