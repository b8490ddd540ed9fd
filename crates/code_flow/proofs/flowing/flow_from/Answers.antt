use Rattle.std.proofs.Common.{ap, ◌∙◌}
use Rattle.code_flow.specs.Checking.{checked_scan, first_from}
use Rattle.code_flow.proofs.Checks.{flow_fails}
use Rattle.code_flow.proofs.flowing.flow_from.Goals as goal

pub returns-in-Some-clause-fault : goal.returns-in-Some-clause-fault
returns-in-Some-clause-fault c = λ ne.
    flow_fails c.args.w.now c.args.m c.in_ok-listing.listing.found c.in_ok-listing.listing.scans.items c.in_ok-check.check c.in-Some.fault c.in_ok-listing.ensures.listed c.in_ok-check.ensures
    (c.in-Some.ensures ∙ ap (λ l. first_from (checked_scan c.in_ok-check.check c.in_ok-listing.listing.found) 0 l) c.deref.ensures.value)

pub program_of-requires-clause-free : goal.program_of-requires-clause-free
program_of-requires-clause-free c =
    c.in-None.ensures ∙ ap (λ l. first_from (checked_scan c.in_ok-check.check c.in_ok-listing.listing.found) 0 l) c.deref.ensures.value
