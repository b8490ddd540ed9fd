use Rattle.std.proofs.Common.{◌≡◌, ◌<◌, ◌⊎◌, ◌↔◌, ℕ, List, length, get_or, sym, subst, ap, arith, ◌∙◌}
use Rattle.std.specs.Prelude.{All, Contains}
use Rattle.std.proofs.lemmas.List.Elements.{All-contains, All-contains_itself}
use Rattle.code_blocks.specs.declared.instruction.Block.{Block}
use Rattle.loop_cut.specs.declared.point.Point.{Point}
use Rattle.loop_cut.specs.inside.Gathered.{ExitsAre}
use Rattle.loop_cut.specs.inside.Arrivals.{AreTwo, arrivals}
use Rattle.loop_cut.proofs.Arriving.{IsEntry}
use Rattle.loop_cut.proofs.Standing.{blocks_within}
use Rattle.loop_cut.proofs.Ways.{sources_are}
use Rattle.loop_cut.proofs.Joining.{heads_are, entries_within, exits_within, came_within}
use Rattle.loop_cut.proofs.cutting.heads_of.Goals as goal

pub arrivals-requires-clause-blocks : goal.arrivals-requires-clause-blocks
arrivals-requires-clause-blocks c =
    let within : All (λ (b : Block). b.pc < length c.args.body.now.code.bytes) c.args.body.now.blocks = blocks_within c.args.body.now c.well_made.ensures.body c.well_made.ensures.laid_out c.code_is_laid_out.ensures.stands in
    subst (λ (bs : List Block). All (λ (b : Block). b.pc < length c.args.graph.now) bs) (sym c.blocks-2.ensures)
    (subst (λ (n : ℕ). All (λ (b : Block). b.pc < n) c.args.body.now.blocks) (sym c.requires.graph.nodes) within)

pub arrivals-requires-clause-entries : goal.arrivals-requires-clause-entries
arrivals-requires-clause-entries c = λ k d lt.
    entries_within c.args.graph.now c.nodes-size.ensures.ends c.args.nested.now c.requires.nested c.args.body.now.blocks (sources_are c.args.body.now c.args.graph.now c.requires.graph) c.args.loops.now c.requires.same
    (λ l h. All-contains (ExitsAre c.args.graph.now) c.args.loops.now l c.requires.exits h) (get_or c.args.loops.now k d) (All-contains_itself c.args.loops.now k d lt)

pub arrivals-requires-clause-exits : goal.arrivals-requires-clause-exits
arrivals-requires-clause-exits c = λ k d lt j e at.
    exits_within c.args.graph.now c.nodes-size.ensures.ends c.args.nested.now c.requires.nested c.args.body.now.blocks (sources_are c.args.body.now c.args.graph.now c.requires.graph) c.args.loops.now c.requires.same
    (λ l h. All-contains (ExitsAre c.args.graph.now) c.args.loops.now l c.requires.exits h) (get_or c.args.loops.now k d) (All-contains_itself c.args.loops.now k d lt)
    (get_or (get_or c.args.loops.now k d).exits j e) (All-contains_itself (get_or c.args.loops.now k d).exits j e at)

pub heads-requires-clause-came : goal.heads-requires-clause-came
heads-requires-clause-came c = λ k d lt.
    let is : c.as_slice.result.now ≡ arrivals c.args.graph.now c.args.nested.now c.args.body.now.blocks c.args.loops.now =
    c.as_slice.ensures.value ∙ c.in_ok-came.ensures ∙ ap (λ (bs : List Block). arrivals c.args.graph.now c.args.nested.now bs c.args.loops.now) c.blocks-2.ensures in
    let within = came_within c.args.graph.now c.nodes-size.ensures.ends c.args.nested.now c.requires.nested c.args.body.now.blocks (sources_are c.args.body.now c.args.graph.now c.requires.graph) c.args.loops.now c.requires.same
    (λ l h. All-contains (ExitsAre c.args.graph.now) c.args.loops.now l c.requires.exits h) (get_or c.as_slice.result.now k d).0 (get_or c.as_slice.result.now k d).1
    (subst (λ (xs : List (ℕ × Point)). Contains xs (get_or c.as_slice.result.now k d)) is (All-contains_itself c.as_slice.result.now k d lt)) in
    let size = c.nodes-size.ensures.value in
    omega arith

pub heads-requires-clause-entries : goal.heads-requires-clause-entries
heads-requires-clause-entries c = λ k d lt.
    let within = entries_within c.args.graph.now c.nodes-size.ensures.ends c.args.nested.now c.requires.nested c.args.body.now.blocks (sources_are c.args.body.now c.args.graph.now c.requires.graph) c.args.loops.now c.requires.same
    (λ l h. All-contains (ExitsAre c.args.graph.now) c.args.loops.now l c.requires.exits h) (get_or c.args.loops.now k d) (All-contains_itself c.args.loops.now k d lt) in
    let size = c.nodes-size.ensures.value in
    omega arith

pub returns-clause-heads : goal.returns-clause-heads
returns-clause-heads c = λ x.
    let is : c.as_slice.result.now ≡ arrivals c.args.graph.now c.args.nested.now c.args.body.now.blocks c.args.loops.now =
    c.as_slice.ensures.value ∙ c.in_ok-came.ensures ∙ ap (λ (bs : List Block). arrivals c.args.graph.now c.args.nested.now bs c.args.loops.now) c.blocks-2.ensures in
    let some : 0 < length c.args.graph.now = (let a = c.well_made.ensures.body.has_code.some in let b = c.requires.graph.nodes in omega arith) in
    let told = subst (λ (n : ℕ). Contains c.in_ok-found.found x ↔ ((x < n) × ((x ≡ 0) ⊎ (IsEntry c.args.loops.now x ⊎ AreTwo c.as_slice.result.now x)))) c.nodes-size.ensures.value (c.in_ok-found.ensures.heads x) in
    let same = subst (λ (xs : List (ℕ × Point)). Contains c.in_ok-found.found x ↔ ((x < length c.args.graph.now) × ((x ≡ 0) ⊎ (IsEntry c.args.loops.now x ⊎ AreTwo xs x)))) is told in
    let are = heads_are c.args.graph.now c.nodes-size.ensures.ends c.args.nested.now c.requires.nested c.args.body.now.blocks (sources_are c.args.body.now c.args.graph.now c.requires.graph) c.args.loops.now c.requires.same
    (λ l h. All-contains (ExitsAre c.args.graph.now) c.args.loops.now l c.requires.exits h) some x in
    (λ h. are.0 (same.0 h), λ h. same.1 (are.1 h))
