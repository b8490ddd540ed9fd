use Rattle.std.proofs.Common.{◌≡◌, length, take}
use Rattle.base_relations.specs.Unfolding.{Calls}
use Rattle.base_relations.specs.inside.Plans.{Adds}
use Rattle.base_relations.proofs.plan.add_calls.Given as goal

abbrev pub invariant-loop-way : goal.invariant-loop-way
invariant-loop-way l = record {
  nodes : length l.g ≡ length l.fn.g;
  edges : Adds l.fn.g l.g l.a (Calls (take l.way-index l.ways));
}
