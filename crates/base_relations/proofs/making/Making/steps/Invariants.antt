use Rattle.std.proofs.Common.{◌≡◌, ◌+◌, ◌<◌, ◌^◌, drop, map}
use Rattle.base_relations.specs.Limits.{total, fresh_at}
use Rattle.base_relations.specs.Making.{steps_made}
use Rattle.base_relations.specs.inside.Trails.{done_step}
use Rattle.base_relations.proofs.making.Making.steps.Given as goal

abbrev pub invariant-loop-part : goal.invariant-loop-part
invariant-loop-part l = record {
  left : steps_made l.self (map done_step (drop l.part-index l.parts)) ≡ steps_made l.fn.self (map done_step l.parts);
  room : l.self.next + total fresh_at (map done_step (drop l.part-index l.parts)) < 2 ^ 31;
}
