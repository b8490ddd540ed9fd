use Rattle.std.proofs.Common.{◌≡◌, ◌≢◌, ℕ, ◌≤◌, ◌<◌, ◌^◌, ◌∷◌, [], ◌++◌, length, get_or, List, Some, None, arith, rules, sym, ap, ◌∙◌, subst}
use Rattle.std.proofs.Math.ListN.{set}
use Rattle.relations.specs.declared.node.Node.{Node}
use Rattle.relations.specs.declared.fault.RelFault.{RelFault}
use Rattle.relations.specs.declared.fault.RelFault.TheVariants.{Memory}
use Rattle.rule_terms.specs.declared.rule.Rule.{Rule}
use Rattle.rule_terms.specs.Terms.{term_of}
use Rattle.relations.specs.Relation.{Relation, sizes_of}
use Rattle.relations.specs.Scope.{IsRelation, terms_of, rule_fault, added_rule}
use Rattle.relations.specs.inside.Walk.{AreSmall, term_walk}
use Rattle.relations.proofs.Keeping.{are_small, small_at, slice_size, slice_added, slice_faulty, set_ruled, length_ruled}
use Rattle.relations.proofs.relation.Relations.add_rule.Goals as goal

-- the node in its place has one rule more
is_ruled : (nodes : Relation) (n : ℕ) (node : Node) (rule : Rule) (rules : List Rule) → n < length nodes → node ≡ get_or nodes n node → rules ≡ node.rules ++ rule ∷ [] → set nodes n (record { name = node.name; lengths = node.lengths; rules = rules }) ≡ added_rule nodes n rule
is_ruled nodes n node rule rules low is more =
    ap (λ (rs : List Rule). set nodes n (record { name = node.name; lengths = node.lengths; rules = rs })) more ∙ set_ruled nodes n node rule low is

pub overflow_cast-sizes : goal.overflow_cast-sizes
overflow_cast-sizes c =
    let nodes = c.as_slice-nodes.result.now in
    let small = subst (λ (r : Relation). AreSmall (sizes_of r)) (sym c.as_slice-nodes.ensures.value) (are_small (sizes_of c.self.inside.nodes.items) c.self.inside.nodes.items c.self.invariant.0.scoped) in
    let few : c.len-sizes.result ≤ 32 =
    small_at (sizes_of nodes) c.args.node c.len-sizes.result small
    (slice_size nodes c.args.node c.len-sizes.result c.index-nodes-at.result c.if-at-nodes.false c.index-nodes-at.is c.len-sizes.ensures) in
    grind (arith, few)

pub walk-requires-clause-sizes : goal.walk-requires-clause-sizes
walk-requires-clause-sizes c = subst (λ (r : Relation). AreSmall (sizes_of r)) (sym c.as_slice-nodes.ensures.value) (are_small (sizes_of c.self.inside.nodes.items) c.self.inside.nodes.items c.self.invariant.0.scoped)

pub returns-in_err-terms-clause-fault : goal.returns-in_err-terms-clause-fault
returns-in_err-terms-clause-fault c = λ e is other.
    let nodes = c.as_slice-nodes.result.now in
    let items = c.self.inside.nodes.items in
    let same : e ≡ c.in_err-terms.field-0.0 = search rules in
    let read = c.in_err-terms.ensures.walked (λ f. other (same ∙ f)) in
    let at = slice_size nodes c.args.node c.len-sizes.result c.index-nodes-at.result c.if-at-nodes.false c.index-nodes-at.is c.len-sizes.ensures in
    let fault = slice_faulty nodes items c.args.node c.len-sizes.result c.self.inside.terms c.args.r c.in_err-terms.field-0.0 c.as_slice-nodes.ensures.value c.self.invariant.0 at c.self.invariant.2 read in
    subst (λ (r : Relation). rule_fault r c.args.node (term_of c.args.r) ≡ Some e) c.self.view_is (fault ∙ ap Some (sym same))

pub invariant_of-self-2 : goal.invariant_of-self-2
invariant_of-self-2 c =
    let nodes = c.as_slice-nodes.result.now in
    let items = c.self.inside.nodes.items in
    let at = slice_size nodes c.args.node c.len-sizes.result c.index-nodes-at.result c.if-at-nodes.false c.index-nodes-at.is c.len-sizes.ensures in
    let low = subst (λ (r : Relation). c.args.node < length r) c.as_slice-nodes.ensures.value c.if-at-nodes.false in
    let added = slice_added nodes items c.args.node c.len-sizes.result c.self.inside.terms c.in_ok-terms.terms c.args.r c.as_slice-nodes.ensures.value c.self.invariant.0 c.if-at-nodes.false at c.self.invariant.2 c.in_ok-terms.ensures.walked in
    let ruled = is_ruled items c.args.node c.index_mut.result.now c.args.r c.push.new.self low c.index_mut.ensures.value c.in_ok-push.ensures.ok in (
      subst IsRelation (sym ruled) added.is,
      subst (λ (r : Relation). length r ≤ 2 ^ 31) (sym ruled) (subst (λ n. n ≤ 2 ^ 31) (sym (length_ruled items c.args.node c.args.r)) c.self.invariant.1),
      added.terms ∙ ap terms_of (sym ruled),
    )

pub returns-clause-ok : goal.returns-clause-ok
returns-clause-ok c =
    let low = subst (λ (r : Relation). c.args.node < length r) c.as_slice-nodes.ensures.value c.if-at-nodes.false in
    is_ruled c.self.inside.nodes.items c.args.node c.index_mut.result.now c.args.r c.push.new.self low c.index_mut.ensures.value c.in_ok-push.ensures.ok
    ∙ ap (λ (r : Relation). added_rule r c.args.node c.args.r) c.self.view_is

pub returns-clause-sound : goal.returns-clause-sound
returns-clause-sound c =
    let nodes = c.as_slice-nodes.result.now in
    let at = slice_size nodes c.args.node c.len-sizes.result c.index-nodes-at.result c.if-at-nodes.false c.index-nodes-at.is c.len-sizes.ensures in
    let added = slice_added nodes c.self.inside.nodes.items c.args.node c.len-sizes.result c.self.inside.terms c.in_ok-terms.terms c.args.r c.as_slice-nodes.ensures.value c.self.invariant.0 c.if-at-nodes.false at c.self.invariant.2 c.in_ok-terms.ensures.walked in
    subst (λ (r : Relation). rule_fault r c.args.node (term_of c.args.r) ≡ None) c.self.view_is added.none
