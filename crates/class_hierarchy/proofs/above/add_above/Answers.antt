use Rattle.std.proofs.Common.{◌≡◌, suc, ◌+◌, ◌-◌, ◌<◌, ◌++◌, List, ℕ, length, arith, sym, subst, ◌∙◌}
use Rattle.class_hierarchy.specs.World.{above}
use Rattle.class_hierarchy.proofs.Climbing.{single, no_first, was_there, was_new, climbs_start, climbs_row, climbs_there, climbs_next, climbs_top, climbs_end}
use Rattle.class_hierarchy.proofs.above.add_above.Goals as goal

pub loop-init : goal.loop-init
loop-init c = climbs_start c.args.classes.now c.args.links.now c.args.rows.now c.args.class (length c.args.classes.now - 0) c.args.found.now.keys (omega arith) c.requires.shows c.requires.met

pub returns-then-direct-gt1 : goal.returns-then-direct-gt1
returns-then-direct-gt1 c =
    let w = c.args.classes.now in
    let several = subst (λ (l : List ℕ). 1 < length l) c.row_in-direct.ensures c.if-direct-gt1.true in
    climbs_row w c.args.links.now c.args.rows.now (c.args.found.now.keys ++ above w c.args.class) (length w - c.loop.counter) c.loop.at c.loop.found.keys c.add_all.new.found.keys several (rw c.row_in.ensures at c.in_ok-add_all.ensures) c.loop.invariant

pub returns-then-not-branch : goal.returns-then-not-branch
returns-then-not-branch c =
    let w = c.args.classes.now in
    let only = sym c.row_in-direct.ensures ∙ single c.row_in-direct.result.now c.in-Some.only.now (omega (arith, c.if-direct-gt1.false)) c.in-Some.ensures.value in
    let was = was_there c.in_ok-add-in-Some.field-0 c.loop.found.keys c.add.new.found.keys c.in-Some.only.now c.in_ok-add-in-Some.ensures.new c.in_ok-add-in-Some.ensures.keys c.if-not-branch.true in
    rw was.1 (climbs_there w c.args.links.now c.args.rows.now (c.args.found.now.keys ++ above w c.args.class) (length w - c.loop.counter) c.loop.at c.in-Some.only.now c.loop.found.keys only was.0 c.loop.invariant)

pub returns-in-None : goal.returns-in-None
returns-in-None c =
    let w = c.args.classes.now in
    let none = sym c.row_in-direct.ensures ∙ no_first c.row_in-direct.result.now c.in-None.ensures.value in
    climbs_top w c.args.links.now c.args.rows.now (c.args.found.now.keys ++ above w c.args.class) (length w - c.loop.counter) c.loop.at c.loop.found.keys none c.loop.invariant

pub loop-preserved : goal.loop-preserved
loop-preserved c =
    let w = c.args.classes.now in
    let only = sym c.row_in-direct.ensures ∙ single c.row_in-direct.result.now c.in-Some.only.now (omega (arith, c.if-direct-gt1.false)) c.in-Some.ensures.value in
    let new = was_new c.in_ok-add-in-Some.field-0 c.loop.found.keys c.add.new.found.keys c.in-Some.only.now c.in_ok-add-in-Some.ensures.new c.in_ok-add-in-Some.ensures.keys c.if-not-branch.false in
    let less : length w - c.loop.counter ≡ suc (length w - (c.loop.counter + 1)) = omega arith in
    climbs_next w c.args.links.now c.args.rows.now (c.args.found.now.keys ++ above w c.args.class) (length w - c.loop.counter) (length w - (c.loop.counter + 1)) c.loop.at c.in-Some.only.now c.loop.found.keys c.add.new.found.keys less only new c.loop.invariant

pub returns : goal.returns
returns c =
    let w = c.args.classes.now in
    climbs_end w c.args.links.now c.args.rows.now (c.args.found.now.keys ++ above w c.args.class) (length w - c.loop.counter) c.loop.at c.loop.found.keys (omega arith) c.loop.invariant
