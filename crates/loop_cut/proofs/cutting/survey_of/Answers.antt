use Rattle.std.proofs.Common.{◌≡◌, ◌<◌, ℕ, List, Some, length, sym, subst, ap, ◌∙◌}
use Rattle.class_reader.specs.declared.class.Code.{Code}
use Rattle.std.specs.Prelude.{All, slice_get}
use Rattle.code_blocks.specs.declared.instruction.Block.{Block}
use Rattle.loop_cut.proofs.Standing.{blocks_within, blocks_apart}
use Rattle.loop_cut.proofs.cutting.survey_of.Goals as goal

pub numbers-requires-clause-within : goal.numbers-requires-clause-within
numbers-requires-clause-within c =
    let within : All (λ (b : Block). b.pc < length c.args.body.now.code.bytes) c.args.body.now.blocks = blocks_within c.args.body.now c.well_made.ensures.body c.well_made.ensures.laid_out c.code_is_laid_out.ensures.stands in
    let size : c.len-size.result ≡ length c.args.body.now.code.bytes = c.len-size.ensures ∙ ap (λ (code : Code). length code.bytes) c.code.ensures in
    subst (λ (bs : List Block). All (λ (b : Block). b.pc < c.len-size.result) bs) (sym c.blocks-2.ensures)
    (subst (λ (n : ℕ). All (λ (b : Block). b.pc < n) c.args.body.now.blocks) (sym size) within)

pub numbers-requires-clause-apart : goal.numbers-requires-clause-apart
numbers-requires-clause-apart c =
    subst (λ (bs : List Block). (j k : ℕ) (b d : Block) → slice_get bs j ≡ Some b → slice_get bs k ≡ Some d → b.pc ≡ d.pc → j ≡ k) (sym c.blocks-2.ensures)
    (blocks_apart c.args.body.now c.well_made.ensures.body c.well_made.ensures.laid_out)
