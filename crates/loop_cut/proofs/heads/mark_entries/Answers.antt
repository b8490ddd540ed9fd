use Rattle.std.proofs.Common.{◌<◌, ◌∙◌, length, arith, subst, sym}
use Rattle.loop_cut.specs.declared.found.CodeLoop.{CodeLoop}
use Rattle.std.proofs.lemmas.List.{length-set}
use Rattle.loop_cut.proofs.Arriving.{entries_next, entries_all}
use Rattle.loop_cut.proofs.heads.mark_entries.Goals as goal

pub loop-l-preserved : goal.loop-l-preserved
loop-l-preserved c =
    let fits : c.l-item.result.entry < length c.loop-l.marks.items =
    let at = subst (λ (l : CodeLoop). l.entry < length c.args.marks.now.items) (sym c.l-item.is) (c.requires c.loop-l.l-index c.l-item.result c.loop-l-test.true) in
    let count = c.loop-l.invariant.count in
    omega arith in
    record {
      count = length-set c.loop-l.marks.items c.l-item.result.entry _ ∙ c.loop-l.invariant.count;
      marked = λ x. entries_next c.args.loops.now c.loop-l.l-index c.l-item.result c.l-item.result c.args.marks.now.items c.loop-l.marks.items c.loop-l-test.true c.l-item.is fits c.loop-l.invariant.marked x;
    }

pub returns-clause-marked : goal.returns-clause-marked
returns-clause-marked c = λ x. entries_all c.args.loops.now c.loop-l.l-index c.args.marks.now.items c.loop-l.marks.items c.loop-l-test.false c.loop-l.invariant.marked x
