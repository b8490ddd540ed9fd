use Rattle.std.proofs.Common.{ℕ, List, Option, arith, refl, subst}
use Rattle.graph_order.specs.inside.Parts.{first_of}
use Rattle.graph_order.specs.inside.Line.{IsPut}
use Rattle.graph_order.proofs.Lines.{IsLine-past, look_whole, look_left, look_wait, look_held, put_length}
use Rattle.graph_order.proofs.line.look.Goals as goal

pub returns-then-next-callees-clause-line : goal.returns-then-next-callees-clause-line
returns-then-next-callees-clause-line c =
    λ due i at l. IsLine-past _ _ _ _ _ _ _ c.args.x c.requires.x due i at l (look_whole c.args.parts.now.calls c.args.parts.now.firsts.items c.args.line.now.done.items c.args.line.now.nexts.items c.args.line.now.free.items c.args.line.now.ready c.args.line.now.order.items c.args.x c.requires.x _ c.successors-callees.ensures.value _ refl _ c.index-next.ensures l.next_count 0 c.if-next-callees.true)

pub returns-in_ok-put-clause-line : goal.returns-in_ok-put-clause-line
returns-in_ok-put-clause-line c =
    λ due i at l. look_wait _ _ _ _ _ _ _ c.args.x c.requires.x _ c.successors-callees.ensures.value _ c.deref.ensures.value _ c.index-next.ensures l.next_count _ c.if-next-callees.false c.pass_done-last.ensures.more c.pass_done-last.ensures.within c.pass_done-last.ensures.passed c.pass_done-last.ensures.stops due i at l c.if-last-callees.true _ _ (subst (λ (fs : List (Option ℕ)). IsPut (first_of fs c.args.x) c.args.x c.args.line.now.free.items c.args.line.now.ready c.put.new.free.items c.put.new.ready) c.deref-then-last-callees.ensures.value c.in_ok-put.ensures)

pub returns-in_ok-put-clause-falls : goal.returns-in_ok-put-clause-falls
returns-in_ok-put-clause-falls c =
    let n = c.requires.line.2.next_count in
    let e = look_left c.args.parts.now.calls c.args.parts.now.firsts.items c.args.line.now.done.items c.args.line.now.nexts.items c.args.line.now.free.items c.args.line.now.ready c.args.line.now.order.items c.args.x c.requires.x _ c.successors-callees.ensures.value _ c.deref.ensures.value _ c.index-next.ensures n _ c.if-next-callees.false c.pass_done-last.ensures.more c.pass_done-last.ensures.within c.pass_done-last.ensures.passed c.pass_done-last.ensures.stops in
    let put = subst (λ (fs : List (Option ℕ)). IsPut (first_of fs c.args.x) c.args.x c.args.line.now.free.items c.args.line.now.ready c.put.new.free.items c.put.new.ready) c.deref-then-last-callees.ensures.value c.in_ok-put.ensures in
    let f = put_length (first_of c.args.parts.now.firsts.items c.args.x) c.args.x c.args.line.now.free.items c.args.line.now.ready c.put.new.free.items c.put.new.ready put in
    let m = c.if-last-callees.true in
    let k = c.if-next-callees.false in
    omega (arith, e, f, m, k)

pub returns-else-last-callees-clause-line : goal.returns-else-last-callees-clause-line
returns-else-last-callees-clause-line c =
    λ due i at l. look_held _ _ _ _ _ _ _ c.args.x c.requires.x _ c.successors-callees.ensures.value _ c.deref.ensures.value _ c.index-next.ensures l.next_count _ c.if-next-callees.false c.pass_done-last.ensures.more c.pass_done-last.ensures.within c.pass_done-last.ensures.passed c.pass_done-last.ensures.stops due i at l c.if-last-callees.false

pub returns-else-last-callees-clause-falls : goal.returns-else-last-callees-clause-falls
returns-else-last-callees-clause-falls c =
    let n = c.requires.line.2.next_count in
    let e = look_left c.args.parts.now.calls c.args.parts.now.firsts.items c.args.line.now.done.items c.args.line.now.nexts.items c.args.line.now.free.items c.args.line.now.ready c.args.line.now.order.items c.args.x c.requires.x _ c.successors-callees.ensures.value _ c.deref.ensures.value _ c.index-next.ensures n _ c.if-next-callees.false c.pass_done-last.ensures.more c.pass_done-last.ensures.within c.pass_done-last.ensures.passed c.pass_done-last.ensures.stops in
    let m = c.pass_done-last.ensures.more in
    omega (arith, e, m)
