use Rattle.std.proofs.Common.{◌≡◌, length, take}
use Rattle.entries.specs.inside.Survey.{AddsTo}
use Rattle.entries.proofs.survey.note_items.Given as goal

abbrev pub invariant-loop-value : goal.invariant-loop-value
invariant-loop-value l = record { nodes : length l.g ≡ length l.initial.g; noted : AddsTo l.initial.g l.g l.a (take l.value-index l.items) }
