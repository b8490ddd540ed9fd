use Rattle.std.proofs.Common.{length, arith, sym, ap, ◌∙◌, subst}
use Rattle.code_blocks.specs.Laws.{IsLaidOut}
use Rattle.code_blocks.specs.Successors.{instructions_of}
use Rattle.method_body.proofs.Extents.{few, within}
use Rattle.method_body.proofs.body.Body.new.Goals as goal

pub blocks-requires-clause-few : goal.blocks-requires-clause-few
blocks-requires-clause-few c =
    let is = c.as_slice.ensures.value ∙ c.in_ok-instructions.ensures in
    let few = few c.as_slice-bytes.result.now c.as_slice.result.now is in
    let short = c.requires.sound.short in
    let same = c.as_slice-bytes.ensures in
    let same_length = ap length same in
    omega arith

pub blocks-requires-clause-within : goal.blocks-requires-clause-within
blocks-requires-clause-within c =
    let is = c.as_slice.ensures.value ∙ c.in_ok-instructions.ensures in
    within c.as_slice-bytes.result.now c.code_is_laid_out.ensures.stands c.as_slice.result.now is
    (subst (λ bytes. IsLaidOut (instructions_of bytes)) (sym c.as_slice-bytes.ensures) (c.code_is_laid_out.ensures.laid_out c.args.code.now.bytes c.requires.sound.sound))
