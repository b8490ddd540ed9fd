use Rattle.std.proofs.Common.{List, sym, arith, subst}
use Rattle.entries.specs.declared.survey.Mark.{Mark}
use Rattle.entries.specs.inside.Survey.{AreMarks}
use Rattle.entries.proofs.Marks.{marks_next}
use Rattle.entries.proofs.survey.marks_of.Goals as goal

pub loop-b-preserved : goal.loop-b-preserved
loop-b-preserved c = record {
  count = omega (arith, c.loop-b.invariant.count, c.in_ok-push.ensures.len);
  marks = subst (λ (xs : List Mark). AreMarks c.args.w.now c.args.heap.now c.args.g.now xs) (sym c.in_ok-push.ensures.items) (marks_next c.args.w.now c.args.heap.now c.args.g.now c.loop-b.b c.loop-b.marks.items c.in_ok-mark.mark c.loop-b.invariant.count c.loop-b.invariant.marks c.in_ok-mark.ensures);
}
