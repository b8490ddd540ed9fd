use Rattle.std.proofs.Common.{arith, ◌-◌, length, nat_eq, sym, ◌∙◌}
use Rattle.std.specs.List.{list_any}
use Rattle.class_hierarchy.specs.World.{ancestors}
use Rattle.class_hierarchy.proofs.Lines.{below_start, below_here, below_next, below_none, below_stop}
use Rattle.class_hierarchy.proofs.hierarchy.Hierarchy.is_below.Goals as goal

pub loop-init : goal.loop-init
loop-init c = below_start c.args.self.now (nat_eq c.args.other) c.args.class

pub returns-then-is_at_or_above : goal.returns-then-is_at_or_above
returns-then-is_at_or_above c =
    let w = c.args.self.now in
    below_here w (nat_eq c.args.other) (length w) c.loop.counter c.in-Some.at (list_any (nat_eq c.args.other) (ancestors w c.args.class)) (omega arith) (rw c.in-Some.is at c.loop.invariant) (sym c.if-is_at_or_above.true ∙ c.is_at_or_above.ensures)

pub loop-preserved : goal.loop-preserved
loop-preserved c =
    let w = c.args.self.now in
    rw c.superclass-next.ensures.number (below_next w (nat_eq c.args.other) (length w) c.loop.counter c.in-Some.at (list_any (nat_eq c.args.other) (ancestors w c.args.class)) (omega arith) (rw c.in-Some.is at c.loop.invariant) (sym c.if-is_at_or_above.false ∙ c.is_at_or_above.ensures))

pub returns-in-None : goal.returns-in-None
returns-in-None c =
    let w = c.args.self.now in
    below_none w (nat_eq c.args.other) (length w - c.loop.counter) (list_any (nat_eq c.args.other) (ancestors w c.args.class)) (rw c.in-None.is at c.loop.invariant)

pub returns : goal.returns
returns c =
    let w = c.args.self.now in
    below_stop w (nat_eq c.args.other) (length w - c.loop.counter) c.loop.next (list_any (nat_eq c.args.other) (ancestors w c.args.class)) (omega arith) c.loop.invariant
