use Rattle.std.proofs.Common.{◌<◌, ◌≤◌, ℕ, List, length, refl, sym, ap, subst, ◌∙◌}
use Rattle.std.specs.Prelude.{All}
use Rattle.code_blocks.specs.declared.instruction.Instruction.{Instruction}
use Rattle.code_blocks.specs.declared.instruction.Block.{Block}
use Rattle.loop_cut.proofs.Standing.{block_inside}
use Rattle.loop_cut.proofs.Whole.{nodes_within, cut_is}
use Rattle.loop_cut.proofs.cutting.code_loop.Goals as goal

pub least_at-least-requires-clause-places : goal.least_at-least-requires-clause-places
least_at-least-requires-clause-places c =
    nodes_within c.args.graph.now c.nodes-nodes.ensures.ends c.args.l.now c.requires.begins c.requires.nodes c.nodes-nodes-2.result.now (length c.deref-2.result.now) c.nodes-nodes-2.ensures
    (ap (λ (l : List ℕ). length l) c.deref-2.ensures.value ∙ c.requires.survey.1.count ∙ sym c.requires.graph.nodes)

pub least_at-least-requires-clause-within : goal.least_at-least-requires-clause-within
least_at-least-requires-clause-within c =
    subst (λ (bs : List Block). All (λ (b : Block). (b.first ≤ b.last) × (b.last < length c.deref.result.now)) bs) (sym c.blocks-blocks.ensures)
    (subst (λ (n : ℕ). All (λ (b : Block). (b.first ≤ b.last) × (b.last < n)) c.args.body.now.blocks) (sym (ap (λ (l : List ℕ). length l) c.deref.ensures.value ∙ c.requires.survey.1.floored.count))
    (block_inside c.args.body.now c.well_made.ensures.body c.well_made.ensures.laid_out))

pub exits-requires-clause-nodes : goal.exits-requires-clause-nodes
exits-requires-clause-nodes c =
    nodes_within c.args.graph.now c.nodes-nodes.ensures.ends c.args.l.now c.requires.begins c.requires.nodes c.nodes-nodes-2.result.now (length c.args.graph.now) c.nodes-nodes-2.ensures refl

pub changed-requires-clause-places : goal.changed-requires-clause-places
changed-requires-clause-places c =
    nodes_within c.args.graph.now c.nodes-nodes.ensures.ends c.args.l.now c.requires.begins c.requires.nodes c.nodes-nodes-2.result.now (length c.deref-3.result.now) c.nodes-nodes-2.ensures
    (ap (λ (l : List ℕ). length l) c.deref-3.ensures.value ∙ c.requires.survey.1.count ∙ sym c.requires.graph.nodes)

pub changed-requires-clause-within : goal.changed-requires-clause-within
changed-requires-clause-within c =
    subst (λ (bs : List Block). All (λ (b : Block). (b.first ≤ b.last) × (b.last < length c.instructions.result.now)) bs) (sym c.blocks-blocks.ensures)
    (subst (λ (n : ℕ). All (λ (b : Block). (b.first ≤ b.last) × (b.last < n)) c.args.body.now.blocks) (sym (ap (λ (l : List Instruction). length l) c.instructions.ensures))
    (block_inside c.args.body.now c.well_made.ensures.body c.well_made.ensures.laid_out))

pub returns-clause-cut : goal.returns-clause-cut
returns-clause-cut c = λ heights s.
    cut_is c.args.graph.now c.nodes-nodes.ensures.ends c.args.l.now c.requires.begins c.requires.nodes c.args.body.now c.well_made.ensures.body c.well_made.ensures.laid_out c.requires.graph
    heights c.args.survey.now.numbers.items c.args.survey.now.floors.items s
    c.instructions.result.now c.blocks-blocks.result.now c.nodes-nodes-2.result.now c.deref-3.result.now c.instructions.ensures c.blocks-blocks.ensures c.nodes-nodes-2.ensures c.deref-3.ensures.value
    c.entry.result c.from.result c.in_ok-exits.exits c.in_ok-changed.changed c.deref.result.now c.deref-2.result.now c.least_at-least.result c.or_zero.result
    c.entry.ensures (c.from.ensures ∙ c.in_ok-held.ensures.items) c.in_ok-exits.ensures c.in_ok-changed.ensures c.deref.ensures.value c.deref-2.ensures.value c.least_at-least.ensures c.or_zero.ensures
