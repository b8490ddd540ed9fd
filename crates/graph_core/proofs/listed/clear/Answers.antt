use Rattle.std.proofs.Common.{rules, ℕ, List, ◌<◌, ◌≤◌, ◌≡◌, ◌∙◌, length, get_or, ap, arith}
use Rattle.std.proofs.lemmas.List.{get_or_default}
use Rattle.graph_core.proofs.MarkedLists.{cleared_fits, cleared_listed}
use Rattle.graph_core.proofs.listed.clear.Goals as goal

pub index_mut-requires : goal.index_mut-requires
index_mut-requires c =
    let same = c.loop-i.invariant.nodes in
    let n = ap (λ (xs : List ℕ). length xs) same in
    let e : c.len-i-end.result ≡ length c.args.listed.now.nodes.items = search rules in
    let l : c.loop-i.i < length c.args.listed.now.nodes.items = omega (arith, c.loop-i-test.true, e) in
    let fits = cleared_fits _ _ c.requires.listed _ _ c.loop-i.invariant.cleared l in
    let m : c.loop-i.i < length c.loop-i.listed.nodes.items = omega (arith, l, n) in
    let x : c.index-x.result.now ≡ get_or c.args.listed.now.nodes.items c.loop-i.i 0 = c.index-x.ensures ∙ (get_or_default c.loop-i.listed.nodes.items c.loop-i.i c.index-x.result.now 0 m ∙ ap (λ (xs : List ℕ). get_or xs c.loop-i.i 0) same) in
    let within : c.index-x.result.now < length c.loop-i.listed.marks.items = omega (arith, fits, x) in
    search rules

pub returns-clause-listed : goal.returns-clause-listed
returns-clause-listed c =
    let e : c.len-i-end.result ≡ length c.args.listed.now.nodes.items = search rules in
    let l : length c.args.listed.now.nodes.items ≤ c.loop-i.i = omega (arith, c.loop-i-test.false, e) in
    cleared_listed _ _ c.requires.listed _ _ c.loop-i.invariant.cleared l _ c.clear.ensures.items
