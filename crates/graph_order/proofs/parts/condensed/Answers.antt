use Rattle.std.proofs.Common.{ℕ, List, All, Contains, length, ◌<◌, ◌↔◌, subst, sym}
use Rattle.graph_core.specs.Graphs.{HasEdge}
use Rattle.graph_order.specs.inside.Parts.{AreJoinsTo}
use Rattle.graph_order.proofs.Joins.{sorted_low, IsCondensed-of}
use Rattle.graph_order.proofs.parts.condensed.Goals as goal

pub from_edges-requires : goal.from_edges-requires
from_edges-requires c =
    let joins = subst (λ (ns : List ℕ). AreJoinsTo c.args.g.now ns (length c.args.g.now) c.in_ok-edges.edges.items) c.as_slice.ensures c.in_ok-edges.ensures in
    subst (λ (xs : List (ℕ × ℕ)). All (λ (e : ℕ × ℕ). (e.0 < c.count.result) × (e.1 < c.count.result)) xs) (sym c.deref.ensures.value) (sorted_low c.args.g.now c.nodes-nodes.ensures.ends c.args.numbers.now c.requires c.count.result c.count.ensures c.in_ok-edges.edges.items joins c.sort_unstable.new.self.items c.sort_unstable.ensures.permutation)

pub returns : goal.returns
returns c =
    let joins = subst (λ (ns : List ℕ). AreJoinsTo c.args.g.now ns (length c.args.g.now) c.in_ok-edges.edges.items) c.as_slice.ensures c.in_ok-edges.ensures in
    IsCondensed-of c.args.g.now c.nodes-nodes.ensures.ends c.args.numbers.now c.requires c.count.result c.count.ensures c.in_ok-edges.edges.items joins c.sort_unstable.new.self.items c.sort_unstable.ensures.permutation c.in_ok-calls.calls c.in_ok-calls.ensures.nodes (λ a b. subst (λ (xs : List (ℕ × ℕ)). HasEdge c.in_ok-calls.calls a b ↔ Contains xs (a, b)) c.deref.ensures.value (c.in_ok-calls.ensures.edges a b))
