use Rattle.std.proofs.Common.{◌≡◌, ◌++◌, take}
use Rattle.std.specs.Prelude.{flat_map}
use Rattle.code_blocks.specs.Successors.{place_so_far}
use Rattle.code_blocks.proofs.following.add_places.Given as goal

abbrev pub invariant-loop-distance : goal.invariant-loop-distance
invariant-loop-distance l = l.places.items ≡ l.fn.places.items ++ flat_map (place_so_far l.pc) (take l.distance-index l.far)
