use Rattle.std.proofs.Common.{◌≡◌, ◌++◌, take}
use Rattle.std.specs.Prelude.{flat_map}
use Rattle.loop_cut.specs.declared.point.Point.TheVariants as points
use Rattle.loop_cut.specs.inside.Arrivals.{arrival, parent_at}
use Rattle.loop_cut.proofs.heads.add_loop.Given as goal

abbrev pub invariant-loop-x : goal.invariant-loop-x
invariant-loop-x g =
    g.came.items ≡ g.fn.came.items ++ flat_map (arrival g.nested (parent_at g.nested g.l.entry) (points.Loop g.l.entry)) (take g.x-index g.x-items)
