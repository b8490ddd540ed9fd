use Rattle.std.proofs.Common.{◌≡◌, inl, inr, List, length, ap, sym, ◌∙◌, arith}
use Rattle.std.proofs.lemmas.Bool.{cases_lt}
use Rattle.std.proofs.lemmas.List.{take_all}
use Rattle.code_blocks.specs.declared.instruction.Placed.{Placed}
use Rattle.code_blocks.specs.Placing.{is_place}
use Rattle.code_blocks.proofs.Marking.{no_place_past, unmarked_past}
use Rattle.code_blocks.proofs.marks.Places.of.Goals as goal

pub returns : goal.returns
returns c = λ x.
    elim (cases_lt x c.args.size) [
      | inl lt ↦
          c.loop-p.invariant.marked x lt
          ∙ ap (λ (ps : List Placed). is_place ps x) (take_all c.loop-p.p-index c.args.instructions.now (omega arith))
      | inr le ↦
          unmarked_past c.loop-p.places x (let n : length c.loop-p.places ≡ c.args.size = c.loop-p.invariant.count in omega arith)
          ∙ sym (no_place_past c.args.size x c.args.instructions.now c.requires le)
    ]
