use Rattle.std.proofs.Common.{◌≡◌, suc, ◌+◌, ◌-◌, ◌≤◌, List, ℕ, length, nat_eq, arith, ap, sym, subst, ◌∙◌}
use Rattle.std.specs.List.{list_any}
use Rattle.class_hierarchy.specs.World.{interfaces, above}
use Rattle.class_hierarchy.proofs.Climbing.{single, no_first, looks_row, looks_here, looks_next, looks_top, looks_end}
use Rattle.class_hierarchy.proofs.above.stands_above.Goals as goal

pub returns-then-direct-gt1 : goal.returns-then-direct-gt1
returns-then-direct-gt1 c =
    let w = c.args.classes.now in
    let direct = c.row_in-direct.ensures ∙ c.requires.links.1 c.loop.at in
    let several : 2 ≤ length (interfaces w c.loop.at) = subst (λ (l : List ℕ). 2 ≤ length l) direct (omega (arith, c.if-direct-gt1.true)) in
    c.has_class.ensures
    ∙ ap (λ l. list_any (nat_eq c.args.other) l) c.row_in.ensures
    ∙ looks_row w c.args.rows.now c.args.other (list_any (nat_eq c.args.other) (above w c.args.class)) (length w - c.loop.counter) c.loop.at (c.requires.rows.1 c.loop.at) several c.loop.invariant

pub returns-then-other-only : goal.returns-then-other-only
returns-then-other-only c =
    let w = c.args.classes.now in
    let only = sym (c.row_in-direct.ensures ∙ c.requires.links.1 c.loop.at) ∙ single c.row_in-direct.result.now c.in-Some.only.now (omega (arith, c.if-direct-gt1.false)) c.in-Some.ensures.value in
    looks_here w c.args.other (list_any (nat_eq c.args.other) (above w c.args.class)) (length w - c.loop.counter) c.loop.at c.in-Some.only.now c.requires.well_built only c.if-other-only.true c.loop.invariant

pub returns-in-None : goal.returns-in-None
returns-in-None c =
    let w = c.args.classes.now in
    let none = sym (c.row_in-direct.ensures ∙ c.requires.links.1 c.loop.at) ∙ no_first c.row_in-direct.result.now c.in-None.ensures.value in
    looks_top w c.args.other (list_any (nat_eq c.args.other) (above w c.args.class)) (length w - c.loop.counter) c.loop.at c.requires.well_built none c.loop.invariant

pub loop-preserved : goal.loop-preserved
loop-preserved c =
    let w = c.args.classes.now in
    let only = sym (c.row_in-direct.ensures ∙ c.requires.links.1 c.loop.at) ∙ single c.row_in-direct.result.now c.in-Some.only.now (omega (arith, c.if-direct-gt1.false)) c.in-Some.ensures.value in
    let less : length w - c.loop.counter ≡ suc (length w - (c.loop.counter + 1)) = omega arith in
    looks_next w c.args.other (list_any (nat_eq c.args.other) (above w c.args.class)) (length w - c.loop.counter) (length w - (c.loop.counter + 1)) c.loop.at c.in-Some.only.now c.requires.well_built less only c.if-other-only.false c.loop.invariant

pub returns : goal.returns
returns c =
    let w = c.args.classes.now in
    looks_end w c.args.other (list_any (nat_eq c.args.other) (above w c.args.class)) (length w - c.loop.counter) c.loop.at (omega arith) c.loop.invariant
