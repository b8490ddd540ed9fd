use Rattle.std.proofs.Common.{◌≡◌, length, take}
use Rattle.std.specs.Prelude.{map}
use Rattle.entries.specs.inside.Survey.{AddsTo}
use Rattle.entries.proofs.survey.note_fields.Given as goal

abbrev pub invariant-loop-f : goal.invariant-loop-f
invariant-loop-f l = record { nodes : length l.g ≡ length l.initial.g; noted : AddsTo l.initial.g l.g l.a (map (λ f. f.1) (take l.f-index l.fields)) }
