use Rattle.std.proofs.Common.{get_or}
use Rattle.common_laws.proofs.Numbers.{place_listed}
use Rattle.class_hierarchy.specs.Tables.{with_above}
use Rattle.class_hierarchy.proofs.First.{each_next}
use Rattle.class_hierarchy.proofs.above.add_each.Goals as goal

pub add_with_above-requires-clause-shows : goal.add_with_above-requires-clause-shows
add_with_above-requires-clause-shows c =
    c.requires.shows (get_or c.args.among.now c.loop-class.class-index 0) (place_listed c.args.among.now c.loop-class.class-index 0 c.loop-class-test.true)

pub loop-class-preserved : goal.loop-class-preserved
loop-class-preserved c = (
  each_next (with_above c.args.classes.now) c.loop-class.found.keys c.args.found.now.keys c.add_with_above.new.found.keys c.args.among.now c.loop-class.class-index c.loop-class-test.true c.loop-class.invariant.0 c.in_ok-add_with_above.ensures.same,
  c.in_ok-add_with_above.ensures.closed,
)
