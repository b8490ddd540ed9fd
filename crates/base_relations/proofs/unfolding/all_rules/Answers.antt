use Rattle.std.proofs.Common.{◌≡◌, ◌+◌, ◌∙◌, ◌<◌, ◌≤◌, length, [], ◌∷◌, arith}
use Rattle.std.proofs.lemmas.List.{length-map, length-append}
use Rattle.std.proofs.lemmas.Result.{err_from_is_err_and}
use Rattle.relations.specs.declared.node.Node.{Node}
use Rattle.relations.specs.Relation.{sizes_of}
use Rattle.base_relations.specs.Limits.{has_base}
use Rattle.base_relations.specs.Unfolding.{node_traces}
use Rattle.base_relations.specs.inside.Trails.{unfolded_of}
use Rattle.base_relations.proofs.Ruling.{bases_ok, bases_err, bases_end}
use Rattle.base_relations.proofs.unfolding.all_rules.Goals as goal

pub returns-in_err-base_rules-clause-answer : goal.returns-in_err-base_rules-clause-answer
returns-in_err-base_rules-clause-answer c =
    let same = length-map c.args.r.now (λ (node : Node). length node.lengths) in
    let p = err_from_is_err_and c.from_residual.result c.from_residual.ensures.1 in
    rw (p.1, p.2) (λ ne. bases_err (has_base c.args.plan.now.covers.covers c.args.target) (node_traces (unfolded_of c.args.plan.now) c.args.plan.now.ways) c.loop-node.rules.items (sizes_of c.args.r.now) c.loop-node.node c.sizes.result c.in_err-base_rules.field-0.0 _ (omega arith) c.sizes.ensures.is (c.in_err-base_rules.ensures ne) c.loop-node.invariant.made)

pub loop-node-preserved : goal.loop-node-preserved
loop-node-preserved c =
    let same = length-map c.args.r.now (λ (node : Node). length node.lengths) in
    let more = length-append c.loop-node.rules.items (c.in_ok-base_rules.field-0 ∷ []) in
    let count = c.loop-node.invariant.count in
    rw c.in_ok-push.ensures.items
    (record {
      count = omega arith;
      made = bases_ok (has_base c.args.plan.now.covers.covers c.args.target) (node_traces (unfolded_of c.args.plan.now) c.args.plan.now.ways) c.loop-node.rules.items (sizes_of c.args.r.now) c.loop-node.node c.sizes.result c.in_ok-base_rules.field-0 _ (omega arith) c.sizes.ensures.is c.in_ok-base_rules.ensures c.loop-node.invariant.made;
    })

pub returns-clause-answer : goal.returns-clause-answer
returns-clause-answer c =
    let same = length-map c.args.r.now (λ (node : Node). length node.lengths) in
    bases_end (has_base c.args.plan.now.covers.covers c.args.target) (node_traces (unfolded_of c.args.plan.now) c.args.plan.now.ways) c.loop-node.rules.items (sizes_of c.args.r.now) c.loop-node.node _ (omega arith) c.loop-node.invariant.made
