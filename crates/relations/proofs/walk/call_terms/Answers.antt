use Rattle.std.proofs.Common.{◌≡◌, ℕ, ◌+◌, ◌<◌, ◌≤◌, length, Result, Some, true, slice_get, rules, subst, sym, ap, ◌∙◌}
use Rattle.relations.specs.declared.fault.RelFault.{RelFault}
use Rattle.relations.specs.Relation.{sizes_of}
use Rattle.relations.specs.inside.Walk.{made_of, WithinLimit}
use Rattle.relations.proofs.Faults.{call_no_node, call_unknown, call_arity, call_steps}
use Rattle.relations.proofs.Keeping.{size_at, small_at, sizes_length, sizes_within}
use Rattle.relations.proofs.walk.call_terms.Goals as goal

pub returns-then-node-nodes-clause-steps : goal.returns-then-node-nodes-clause-steps
returns-then-node-nodes-clause-steps c =
    call_no_node (sizes_of c.args.nodes.now) c.args.sizes (made_of c.args.marks.now) c.args.count c.args.node c.args.args.now (sizes_length c.args.nodes.now c.args.node c.if-node-nodes.true)

pub returns-then-not-all_known-clause-steps : goal.returns-then-not-all_known-clause-steps
returns-then-not-all_known-clause-steps c =
    call_unknown (sizes_of c.args.nodes.now) c.args.sizes (made_of c.args.marks.now) c.args.count c.args.node c.args.args.now (sizes_within c.args.nodes.now c.args.node c.if-node-nodes.false)
    (sym c.all_known.ensures ∙ c.if-not-all_known.true)

pub returns-then-args-len-clause-steps : goal.returns-then-args-len-clause-steps
returns-then-args-len-clause-steps c =
    let nodes = c.args.nodes.now in
    let node = c.index-nodes-node.result in
    call_arity (sizes_of nodes) c.args.sizes (made_of c.args.marks.now) c.args.count c.args.node c.args.args.now (length node.lengths)
    (sizes_within nodes c.args.node c.if-node-nodes.false) (sym c.all_known.ensures ∙ c.if-not-all_known.false)
    (size_at nodes c.args.node node c.if-node-nodes.false c.index-nodes-node.is) (λ e. c.if-args-len.true (e ∙ sym (c.len.ensures ∙ ap (λ n. length n.lengths) (sym c.index-nodes-node.is))))

pub args_terms-requires : goal.args_terms-requires
args_terms-requires c =
    let nodes = c.args.nodes.now in
    let node = c.index-nodes-node.result in
    let low = small_at (sizes_of nodes) c.args.node (length node.lengths) c.requires.sizes (size_at nodes c.args.node node c.if-node-nodes.false c.index-nodes-node.is) in
    subst (λ k. k ≤ 32) (sym (c.if-args-len.false ∙ c.len.ensures ∙ ap (λ n. length n.lengths) (sym c.index-nodes-node.is))) low

pub returns-clause-steps : goal.returns-clause-steps
returns-clause-steps c =
    let nodes = c.args.nodes.now in
    let node = c.index-nodes-node.result in
    let r : Result ℕ RelFault = c.within.result in
    let w = subst (λ k. WithinLimit c.args.count (1 + k) c.within.result) c.args_terms.ensures.is c.within.ensures in
    call_steps (sizes_of nodes) c.args.sizes (made_of c.args.marks.now) c.args.count c.args.node c.args.args.now (length node.lengths) r
    (sizes_within nodes c.args.node c.if-node-nodes.false) (sym c.all_known.ensures ∙ c.if-not-all_known.false)
    (size_at nodes c.args.node node c.if-node-nodes.false c.index-nodes-node.is)
    (c.if-args-len.false ∙ c.len.ensures ∙ ap (λ n. length n.lengths) (sym c.index-nodes-node.is)) w
