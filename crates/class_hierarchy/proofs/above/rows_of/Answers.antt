use Rattle.std.proofs.Common.{arith, ◌∙◌}
use Rattle.class_hierarchy.proofs.Ordering.{rows_start, row_inside, shows_before, rows_next, rows_end}
use Rattle.class_hierarchy.proofs.above.rows_of.Goals as goal

pub loop-class-init : goal.loop-class-init
loop-class-init c = rows_start c.args.classes.now c.args.order.now c.in_ok-rows.rows.items (c.in_ok-rows.ensures.0 ∙ c.requires.links.0) c.in_ok-rows.ensures.1

pub set_row-requires-clause-inside : goal.set_row-requires-clause-inside
set_row-requires-clause-inside c = row_inside c.args.classes.now c.args.order.now c.loop-class.rows.items c.loop-class.class-index c.requires.order c.loop-class.invariant c.loop-class-test.true

pub set_row-requires-clause-shows : goal.set_row-requires-clause-shows
set_row-requires-clause-shows c = λ j step. shows_before c.args.classes.now c.args.links.now c.loop-class.rows.items c.args.order.now c.loop-class.class-index j c.requires.well_built c.requires.links c.requires.order c.loop-class.invariant c.loop-class-test.true step

pub loop-class-preserved : goal.loop-class-preserved
loop-class-preserved c = rows_next c.args.classes.now c.args.order.now c.loop-class.class-index c.loop-class.rows.items c.set_row.new.rows.items c.loop-class-test.true c.in_ok-set_row.ensures c.loop-class.invariant

pub returns : goal.returns
returns c = rows_end c.args.classes.now c.args.order.now c.loop-class.class-index c.loop-class.rows.items (omega arith) c.requires.order c.loop-class.invariant
