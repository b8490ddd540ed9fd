use Rattle.std.proofs.Common.{◌≡◌, Some, ap, sym, ◌∙◌}
use Rattle.class_reader.specs.declared.class.Method.{Method}
use Rattle.linking.specs.Methods.{method_at}
use Rattle.code_flow.specs.declared.scanning.Site.{Site}
use Rattle.std.proofs.Common.{List, map}
use Rattle.code_flow.specs.Scanned.{site_targets}
use Rattle.code_flow.proofs.Bodies.{plan_is, is_reached}
use Rattle.code_flow.proofs.Scans.{method_there}
use Rattle.code_flow.proofs.planning.planned.Goals as goal

own : (c : goal.In_ok-all_targets) → method_at c.args.w.now c.args.scan.now.method ≡ Some c.in_ok-body.body.method
own c = method_there c.args.w.now c.args.scan.now.method c.requires.there ∙ ap (λ (m : Method). Some m) (sym c.in_ok-body.ensures.method)

all : (c : goal.In_ok-all_targets) → c.in_ok-all_targets.field-0 ≡ map site_targets c.args.scan.now.body.sites
all c = c.in_ok-all_targets.ensures ∙ ap (λ (l : List Site). map site_targets l) c.as_slice.ensures

pub returns-clause-plan : goal.returns-clause-plan
returns-clause-plan c =
    plan_is c.args.w.now c.args.scan.now c.in_ok-body.body c.in_ok-all_targets.field-0 c.requires.own (own c) c.in_ok-body.ensures.body (all c)

pub returns-clause-reached : goal.returns-clause-reached
returns-clause-reached c =
    is_reached c.args.w.now c.args.scan.now c.in_ok-body.body c.in_ok-all_targets.field-0 c.requires.own (own c) c.in_ok-body.ensures.body (all c) c.in_ok-body.ensures.class
