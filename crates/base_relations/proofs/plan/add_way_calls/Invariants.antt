use Rattle.std.proofs.Common.{◌≡◌, length, take}
use Rattle.base_relations.specs.inside.Plans.{Adds, CallsIn}
use Rattle.base_relations.proofs.plan.add_way_calls.Given as goal

abbrev pub invariant-loop-item : goal.invariant-loop-item
invariant-loop-item l = record {
  nodes : length l.g ≡ length l.fn.g;
  edges : Adds l.fn.g l.g l.a (CallsIn (take l.item-index l.way));
}
