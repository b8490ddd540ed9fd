use Rattle.std.proofs.Common.{◌++◌}
use Rattle.class_hierarchy.specs.Tables.{with_above}
use Rattle.class_hierarchy.proofs.Climbing.{was_there, was_new, there_already, open_new, with_new, closed_same, closed_with}
use Rattle.class_hierarchy.proofs.above.add_with_above.Goals as goal

pub returns-then-not-branch-clause-same : goal.returns-then-not-branch-clause-same
returns-then-not-branch-clause-same c =
    let was = was_there c.in_ok-add.field-0 c.args.found.now.keys c.add.new.found.keys c.args.class c.in_ok-add.ensures.new c.in_ok-add.ensures.keys c.if-not-branch.true in
    rw was.1 (there_already c.args.classes.now c.args.found.now.keys c.args.class c.requires.closed was.0)

pub add_above-requires-clause-met : goal.add_above-requires-clause-met
add_above-requires-clause-met c =
    let new = was_new c.in_ok-add.field-0 c.args.found.now.keys c.add.new.found.keys c.args.class c.in_ok-add.ensures.new c.in_ok-add.ensures.keys c.if-not-branch.false in
    rw new (open_new c.args.classes.now c.args.found.now.keys c.args.class c.requires.closed)

pub returns-clause-same : goal.returns-clause-same
returns-clause-same c =
    let new = was_new c.in_ok-add.field-0 c.args.found.now.keys c.add.new.found.keys c.args.class c.in_ok-add.ensures.new c.in_ok-add.ensures.keys c.if-not-branch.false in
    with_new c.args.classes.now c.args.found.now.keys c.add_above.new.found.keys c.args.class (rw new at c.in_ok-add_above.ensures)

pub returns-clause-closed : goal.returns-clause-closed
returns-clause-closed c =
    let w = c.args.classes.now in
    let new = was_new c.in_ok-add.field-0 c.args.found.now.keys c.add.new.found.keys c.args.class c.in_ok-add.ensures.new c.in_ok-add.ensures.keys c.if-not-branch.false in
    let same = with_new w c.args.found.now.keys c.add_above.new.found.keys c.args.class (rw new at c.in_ok-add_above.ensures) in
    closed_same w c.add_above.new.found.keys (c.args.found.now.keys ++ with_above w c.args.class) same (closed_with w c.requires.shows.well_built c.args.found.now.keys c.args.class c.requires.closed)
