use Rattle.std.proofs.Common.{◌≡◌, ◌<◌, ℕ, length, sym, subst, ◌∙◌, arith}
use Rattle.std.specs.Result.{IfOk}
use Rattle.std.proofs.lemmas.List.{get_or_default}
use Rattle.null_flow.specs.declared.edge.NullEdge.{NullEdge}
use Rattle.null_flow.specs.declared.flow.NullFlow.{NullFlow}
use Rattle.null_flow.specs.Effects.{fact_along}
use Rattle.null_flow.specs.Flow.{edge_at, size_at}
use Rattle.null_flow.specs.Lawful.{edge_in}
use Rattle.null_flow.proofs.flow.NullFlowFlow.transfer.Goals as goal

inside : (flow : NullFlow) (e : ℕ) (edge : NullEdge) → e < length flow.edges.items → edge ≡ edge_at flow.edges.items e → edge.to < length flow.sizes.items
inside flow e edge within is =
    let there = flow.within (edge_at flow.edges.items e) (edge_in flow.edges.items e within) in
    subst (λ (x : NullEdge). x.to < length flow.sizes.items) (sym is) there.1

pub index-requires : goal.index-requires
index-requires c =
    let there = inside c.args.self.now c.args.edge c.edge-edge.result c.requires.edge c.edge-edge.ensures in
    omega (arith, there, c.args.self.now.sizes.ok)

pub returns : goal.returns
returns c =
    let flow = c.args.self.now in
    let there = inside flow c.args.edge c.edge-edge.result c.requires.edge c.edge-edge.ensures in
    let size : c.index.result.now ≡ size_at flow.sizes.items c.edge-edge.result.to = c.index.ensures ∙ get_or_default flow.sizes.items c.edge-edge.result.to c.index.result.now 0 there in
    let made : IfOk c.fact_along.result (λ made. made ≡ fact_along c.edge-edge.result (size_at flow.sizes.items c.edge-edge.result.to) c.args.fact.now) =
    subst (λ (n : ℕ). IfOk c.fact_along.result (λ made. made ≡ fact_along c.edge-edge.result n c.args.fact.now)) size c.fact_along.ensures
    in
    subst (λ (e : NullEdge). IfOk c.fact_along.result (λ made. made ≡ fact_along e (size_at flow.sizes.items e.to) c.args.fact.now)) c.edge-edge.ensures made
