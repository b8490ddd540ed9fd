use Rattle.std.proofs.Common.{ℕ, List, ◌<◌, ◌≤◌, All, length, get_or, ap, sym, ◌∙◌, subst, arith}
use Rattle.graph_core.specs.Paths.{IsWithoutRepeat}
use Rattle.plain_graphs.proofs.Listings.{list_within, loops_by_place}
use Rattle.plain_graphs.proofs.trunks.loops_back.Goals as goal

pub loops_back_by-requires-clause-rest : goal.loops_back_by-requires-clause-rest
loops_back_by-requires-clause-rest c =
    let all = c.deref-way-items.ensures.value in
    let n = ap (λ (ls : List (List ℕ)). length ls) all in
    let l : c.loop-way.way-index < length c.args.p.now.lists.items = omega (arith, n, c.loop-way-test.true) in
    subst (All (λ x. x < length c.args.p.now.graph.now)) (sym (c.as_slice.ensures ∙ (c.way-item.is ∙ ap (λ (ls : List (List ℕ)). get_or ls c.loop-way.way-index c.way-item.result) all))) (list_within _ _ c.requires.plain.lists c.loop-way.way-index c.way-item.result l).1

pub loops_back_by-requires-clause-no_repeat : goal.loops_back_by-requires-clause-no_repeat
loops_back_by-requires-clause-no_repeat c =
    let all = c.deref-way-items.ensures.value in
    let n = ap (λ (ls : List (List ℕ)). length ls) all in
    let l : c.loop-way.way-index < length c.args.p.now.lists.items = omega (arith, n, c.loop-way-test.true) in
    subst IsWithoutRepeat (sym (c.as_slice.ensures ∙ (c.way-item.is ∙ ap (λ (ls : List (List ℕ)). get_or ls c.loop-way.way-index c.way-item.result) all))) (list_within _ _ c.requires.plain.lists c.loop-way.way-index c.way-item.result l).0

pub returns : goal.returns
returns c =
    let n = ap (λ (ls : List (List ℕ)). length ls) c.deref-way-items.ensures.value in
    let l : length c.args.p.now.lists.items ≤ c.loop-way.way-index = omega (arith, n, c.loop-way-test.false) in
    (λ no_way. absurd (cc), λ b. absurd (loops_by_place _ c.nodes-nodes.ensures.ends _ c.requires.plain.lists _ _ _ _ l c.loop-way.invariant b))
