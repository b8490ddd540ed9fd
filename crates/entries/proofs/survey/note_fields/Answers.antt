use Rattle.std.proofs.Common.{◌∙◌, subst, List}
use Rattle.std.specs.Prelude.{map}
use Rattle.std.proofs.lemmas.List.{take_all}
use Rattle.world.specs.declared.member.MemberId.{MemberId}
use Rattle.frames.specs.declared.value.Value.{Value}
use Rattle.entries.specs.inside.Survey.{AddsTo}
use Rattle.entries.proofs.Marks.{adds_next_field}
use Rattle.entries.proofs.survey.note_fields.Goals as goal

pub loop-f-preserved : goal.loop-f-preserved
loop-f-preserved c = record {
  nodes = c.note.ensures.nodes ∙ c.loop-f.invariant.nodes;
  noted = adds_next_field c.args.g.now c.loop-f.g c.note.new.g c.args.a c.loop-f.f-index _ c.args.fields.now c.loop-f-test.true c.loop-f.invariant.nodes c.loop-f.invariant.noted c.in_ok-note.ensures.noted;
}

pub returns-clause-noted : goal.returns-clause-noted
returns-clause-noted c =
    subst (λ (xs : List (MemberId × Value)). AddsTo c.args.g.now c.loop-f.g c.args.a (map (λ f. f.1) xs)) (take_all c.loop-f.f-index c.args.fields.now c.loop-f-test.false) c.loop-f.invariant.noted
