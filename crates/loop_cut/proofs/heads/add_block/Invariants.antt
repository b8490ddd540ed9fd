use Rattle.std.proofs.Common.{◌≡◌, ◌++◌, take}
use Rattle.std.specs.Prelude.{flat_map}
use Rattle.loop_cut.specs.declared.point.Point.TheVariants as points
use Rattle.loop_cut.specs.inside.Arrivals.{arrival, innermost_at}
use Rattle.loop_cut.proofs.heads.add_block.Given as goal

abbrev pub invariant-loop-x : goal.invariant-loop-x
invariant-loop-x l =
    l.came.items ≡ l.fn.came.items ++ flat_map (arrival l.nested (innermost_at l.nested l.a) (points.Block l.a)) (take l.x-index l.x-items)
