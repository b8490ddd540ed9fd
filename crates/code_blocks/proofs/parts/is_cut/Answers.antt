use Rattle.std.proofs.Common.{◌≡◌, ◌+◌, ◌<◌, length, Option, Some, refl, sym, ap, ◌∙◌}
use Rattle.std.specs.Prelude.{slice_get}
use Rattle.std.proofs.lemmas.Option.{slice_get_read, slice_get_past}
use Rattle.std.proofs.lemmas.Bool.{ltb-true, ltb-false}
use Rattle.common_laws.proofs.Members.{contains_at}
use Rattle.code_blocks.specs.declared.instruction.Instruction.{Instruction}
use Rattle.code_blocks.specs.inside.Cutting.{cut_before}
use Rattle.code_blocks.proofs.parts.is_cut.Goals as goal

pub returns-in-Some : goal.returns-in-Some
returns-in-Some c =
    let within : c.args.place + 1 < length c.args.instructions.now = ltb-true (c.args.place + 1) (length c.args.instructions.now) (sym c.in-Some.ensures.lookup.0) in
    let at : slice_get c.args.instructions.now (c.args.place + 1) ≡ Some c.in-Some.next.now = slice_get_read c.args.instructions.now (length c.args.instructions.now) (c.args.place + 1) c.in-Some.next.now refl within c.in-Some.ensures.lookup.1 in
    c.has.ensures
    ∙ c.requires.survey.starts c.in-Some.next.now.pc (c.requires.within.places c.in-Some.next.now (contains_at c.args.instructions.now (c.args.place + 1) c.in-Some.next.now at))
    ∙ sym (ap (λ (o : Option Instruction). cut_before c.args.instructions.now o) at)

pub returns-in-None : goal.returns-in-None
returns-in-None c =
    let past = ltb-false (c.args.place + 1) (length c.args.instructions.now) (sym c.in-None.ensures.lookup.0) in
    sym (ap (λ (o : Option Instruction). cut_before c.args.instructions.now o) (slice_get_past c.args.instructions.now (c.args.place + 1) past))
