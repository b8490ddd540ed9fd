use Rattle.base_relations.proofs.Looking.{next_keeps, next_all, none_keeps, none_later}
use Rattle.base_relations.proofs.tracing.undo_enter.Goals as goal

pub returns-then-next-clause-trail : goal.returns-then-next-clause-trail
returns-then-next-clause-trail c =
    let old = c.args.trail.now in
    let next = rw c.if-next.true at c.in_ok-next.ensures.next in
    next_keeps c.args.plan.now c.requires.plan old.done c.enter_next.new.trail.done c.args.item c.args.way old.pending c.enter_next.new.trail.pending old.items c.enter_next.new.trail.items c.requires.trail next.0 next.1 next.2 c.in_ok-next.ensures.items

pub returns-then-next-clause-next : goal.returns-then-next-clause-next
returns-then-next-clause-next c =
    let old = c.args.trail.now in
    let next = rw c.if-next.true at c.in_ok-next.ensures.next in
    next_all c.args.plan.now c.requires.plan old.done c.enter_next.new.trail.done c.args.item c.args.way old.pending c.enter_next.new.trail.pending next.0 next.1 next.2

pub returns-clause-trail : goal.returns-clause-trail
returns-clause-trail c =
    let old = c.args.trail.now in
    let next = rw c.if-next.false at c.in_ok-next.ensures.next in
    none_keeps c.args.plan.now c.requires.plan old.done c.enter_next.new.trail.done c.args.item c.args.way old.pending c.enter_next.new.trail.pending old.items c.enter_next.new.trail.items c.requires.trail next.1 next.2 c.in_ok-next.ensures.items

pub returns-clause-next : goal.returns-clause-next
returns-clause-next c =
    let old = c.args.trail.now in
    let next = rw c.if-next.false at c.in_ok-next.ensures.next in
    (next.1, none_later c.args.plan.now c.requires.plan old.done c.enter_next.new.trail.done c.args.item c.args.way old.pending c.enter_next.new.trail.pending next.0 next.1 next.2)
