use Rattle.std.proofs.Common.{◌∙◌, subst, List}
use Rattle.std.proofs.lemmas.List.{take_all}
use Rattle.frames.specs.declared.value.Value.{Value}
use Rattle.entries.specs.inside.Survey.{AddsTo}
use Rattle.entries.proofs.Marks.{adds_next}
use Rattle.entries.proofs.survey.note_items.Goals as goal

pub loop-value-preserved : goal.loop-value-preserved
loop-value-preserved c = record {
  nodes = c.note.ensures.nodes ∙ c.loop-value.invariant.nodes;
  noted = adds_next c.args.g.now c.loop-value.g c.note.new.g c.args.a c.loop-value.value-index _ c.args.items.now c.loop-value-test.true c.loop-value.invariant.nodes c.loop-value.invariant.noted c.in_ok-note.ensures.noted;
}

pub returns-clause-noted : goal.returns-clause-noted
returns-clause-noted c =
    subst (λ (xs : List Value). AddsTo c.args.g.now c.loop-value.g c.args.a xs) (take_all c.loop-value.value-index c.args.items.now c.loop-value-test.false) c.loop-value.invariant.noted
