use Rattle.std.proofs.Common.{◌≡◌, ◌<◌, ◌++◌, length, map, All}
use Rattle.std.specs.List.{flat_map}
use Rattle.class_hierarchy.specs.World.{class_at}
use Rattle.frames.specs.Heap.{default_of, new_fields, own_fields}
use Rattle.object_steps.proofs.objects.new_fields.Given as goal

abbrev pub invariant-loop-rest : goal.invariant-loop-rest
invariant-loop-rest l = (l.fields.items ++ map (λ f. (f.0, default_of f.1)) (flat_map (λ d. own_fields d 0 (class_at l.world d).fields) l.rest) ≡ new_fields l.world l.class) × All (λ c. c < length l.world) l.rest

abbrev pub decreases-loop-rest : goal.decreases-loop-rest
decreases-loop-rest l = length l.rest
