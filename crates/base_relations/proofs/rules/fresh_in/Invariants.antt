use Rattle.std.proofs.Common.{◌≡◌, ◌≤◌, ◌+◌, drop, map}
use Rattle.base_relations.specs.Limits.{total, fresh_at}
use Rattle.base_relations.specs.inside.Trails.{done_step}
use Rattle.base_relations.proofs.rules.fresh_in.Given as goal

abbrev pub invariant-loop-part : goal.invariant-loop-part
invariant-loop-part l = record {
  counted : l.count + total fresh_at (map done_step (drop l.part-index l.parts)) ≡ total fresh_at (map done_step l.parts);
  few : l.count ≤ l.part-index;
}
