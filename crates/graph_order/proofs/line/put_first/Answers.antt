use Rattle.std.proofs.Common.{ℕ, List, Option, refl, subst}
use Rattle.graph_order.specs.inside.Parts.{first_of}
use Rattle.graph_order.specs.inside.Line.{IsPut}
use Rattle.graph_order.proofs.Lines.{IsLine-first, IsLine-second, look_whole, look_short}
use Rattle.graph_order.proofs.line.put_first.Goals as goal

pub returns-in_ok-put-clause-line : goal.returns-in_ok-put-clause-line
returns-in_ok-put-clause-line c =
    let l = c.requires.line in
    let whole = look_whole c.args.parts.now.calls c.args.parts.now.firsts.items c.args.line.now.done.items c.args.line.now.nexts.items c.args.line.now.free.items c.args.line.now.ready c.args.line.now.order.items c.args.x c.requires.x _ c.successors.ensures.value _ refl _ c.index.ensures l.next_count 0 c.if-successors-index.true in
    IsLine-first _ _ _ _ _ _ _ c.args.x l c.requires.none c.requires.x whole _ _ (subst (λ (fs : List (Option ℕ)). IsPut (first_of fs c.args.x) c.args.x c.args.line.now.free.items c.args.line.now.ready c.put.new.free.items c.put.new.ready) c.deref.ensures.value c.in_ok-put.ensures)

pub returns-else-successors-index-clause-line : goal.returns-else-successors-index-clause-line
returns-else-successors-index-clause-line c =
    let l = c.requires.line in
    let short = look_short c.args.parts.now.calls c.args.parts.now.firsts.items c.args.line.now.done.items c.args.line.now.nexts.items c.args.line.now.free.items c.args.line.now.ready c.args.line.now.order.items c.args.x c.requires.x _ c.successors.ensures.value _ refl _ c.index.ensures l.next_count 0 c.if-successors-index.false in
    IsLine-second _ _ _ _ _ _ _ c.args.x l c.requires.none short
