use Rattle.std.proofs.Common.{get_or}
use Rattle.common_laws.proofs.Numbers.{place_listed}
use Rattle.class_hierarchy.specs.World.{above}
use Rattle.class_hierarchy.proofs.First.{same_next}
use Rattle.class_hierarchy.proofs.Climbing.{shows_direct, direct_above}
use Rattle.class_hierarchy.proofs.above.above_of.Goals as goal

pub add_each-requires-clause-shows : goal.add_each-requires-clause-shows
add_each-requires-clause-shows c =
    let at = get_or c.args.among.now c.loop-class.class-index 0 in
    let shows = c.requires at (place_listed c.args.among.now c.loop-class.class-index 0 c.loop-class-test.true) in
    λ i there. shows_direct c.args.classes.now c.args.links.now c.args.rows.now at i c.row_in.result.now shows c.row_in.ensures there

pub loop-class-preserved : goal.loop-class-preserved
loop-class-preserved c =
    let w = c.args.classes.now in
    let at = get_or c.args.among.now c.loop-class.class-index 0 in
    let shows = c.requires at (place_listed c.args.among.now c.loop-class.class-index 0 c.loop-class-test.true) in
    let same = direct_above w c.args.links.now c.args.rows.now at c.row_in.result.now c.loop-class.found.keys c.add_each.new.found.keys shows c.row_in.ensures c.in_ok-add_each.ensures.same in (
      same_next (above w) c.loop-class.found.keys c.add_each.new.found.keys c.args.among.now c.loop-class.class-index c.loop-class-test.true c.loop-class.invariant.0 same,
      c.in_ok-add_each.ensures.closed,
    )
