use Rattle.std.proofs.Common.{All, List, map, ap, subst, sym, ◌∙◌}
use Rattle.code_flow.specs.declared.program.Reached.{Reached}
use Rattle.code_flow.specs.declared.scanning.Scan.{Scan}
use Rattle.code_flow.specs.Plans.{plans_of}
use Rattle.code_flow.specs.Scanned.{planned_by, IsScanned}
use Rattle.code_flow.specs.CalleeOrder.{IsByNumber}
use Rattle.code_flow.proofs.Bodies.{scanned_free, are_whole}
use Rattle.code_flow.proofs.ProgramLaws.{flow_from_is}
use Rattle.code_flow.proofs.Checks.{flow_gives}
use Rattle.code_flow.proofs.Orders.{never_over, ordered}
use Rattle.code_flow.proofs.flowing.program_of.Goals as goal

pub methods_of-requires : goal.methods_of-requires
methods_of-requires c =
    subst (λ (l : List Scan). All (IsScanned c.args.w.now) l) (sym c.deref.ensures.value)
    (scanned_free c.args.w.now c.args.m c.args.listing.now.found c.args.listing.now.scans.items c.args.check.now c.requires.listed c.requires.there c.requires.check c.requires.free)

pub new-requires-clause-whole : goal.new-requires-clause-whole
new-requires-clause-whole c = are_whole c.args.w.now c.args.m c.in_ok-methods-in-Back.methods.items c.in_ok-methods-in-Back.ensures.reached
    (flow_from_is c.args.w.now c.args.m (plans_of c.in_ok-methods-in-Back.methods.items)
    (flow_gives c.args.w.now c.args.m c.args.listing.now.found c.args.listing.now.scans.items c.args.check.now (plans_of c.in_ok-methods-in-Back.methods.items) c.requires.listed c.requires.check c.requires.free
    (c.in_ok-methods-in-Back.ensures.plans ∙ ap (λ l. map planned_by l) c.deref.ensures.value)))

pub new-requires-clause-order : goal.new-requires-clause-order
new-requires-clause-order c =
    ordered c.args.w.now c.args.m c.args.listing.now.found c.args.listing.now.scans.items c.args.check.now c.in-Back.numbers c.in_ok-order-in-Back.order.items (plans_of c.in_ok-methods-in-Back.methods.items) c.in-Back.is
    c.requires.listed c.requires.check c.requires.free
    (c.in_ok-methods-in-Back.ensures.plans ∙ ap (λ l. map planned_by l) c.deref.ensures.value)
    (subst (λ l. IsByNumber l c.in_ok-order-in-Back.order.items) c.as_slice.ensures c.in_ok-order-in-Back.ensures)

pub returns-in-Over-clause-fault : goal.returns-in-Over-clause-fault
returns-in-Over-clause-fault c =
    absurd
    (never_over c.args.w.now c.args.m c.args.listing.now.found c.args.listing.now.scans.items c.args.check.now c.in-Over.field-0 c.in-Over.is c.requires.listed c.requires.check c.requires.free)

pub returns-in_ok-order-in-Back-clause-program : goal.returns-in_ok-order-in-Back-clause-program
returns-in_ok-order-in-Back-clause-program c =
    flow_gives c.args.w.now c.args.m c.args.listing.now.found c.args.listing.now.scans.items c.args.check.now (plans_of c.new.result) c.requires.listed c.requires.check c.requires.free
    (ap (λ (l : List Reached). plans_of l) c.new.ensures ∙ c.in_ok-methods-in-Back.ensures.plans ∙ ap (λ l. map planned_by l) c.deref.ensures.value)
