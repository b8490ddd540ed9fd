use Rattle.std.proofs.Common.{subst, List, ℕ, ◌+◌, ◌↔◌, sym, Vec, Global}
use Rattle.loop_cut.proofs.Exits.{not_both}
use Rattle.std.specs.Prelude.{Contains}
use Rattle.graph_core.specs.Marked.{IsMarked}
use Rattle.graph_core.proofs.LoopLaws.{HasMarked, HasMarked-push, HasMarked-skip, HasMarked-all}
use Rattle.loop_cut.proofs.heads.marked.Goals.{then-marks-x+in_ok-push, else-marks-x}
use Rattle.loop_cut.proofs.heads.marked.Goals as goal

pub loop-x-preserved : goal.loop-x-preserved
loop-x-preserved c = elim c.if-marks-x.branch [
  | then-marks-x+in_ok-push w ↦
      subst (λ (v : Vec ℕ Global). HasMarked c.args.marks.now (c.loop-x.x + 1) v.items) (sym w.found-is)
      (subst (HasMarked c.args.marks.now (c.loop-x.x + 1)) (sym w.in_ok-push.ensures.items) (HasMarked-push c.args.marks.now c.loop-x.x c.loop-x.found.items w.if-marks-x.true c.loop-x.invariant))
  | else-marks-x w ↦
      subst (λ (v : Vec ℕ Global). HasMarked c.args.marks.now (c.loop-x.x + 1) v.items) (sym w.found-is)
      (HasMarked-skip c.args.marks.now c.loop-x.x c.loop-x.found.items (not_both _ w.if-marks-x.false) c.loop-x.invariant)
]

pub returns-clause-all : goal.returns-clause-all
returns-clause-all c =
    subst (λ (xs : List ℕ). (x : ℕ) → Contains xs x ↔ IsMarked c.args.marks.now x) (sym c.from.ensures) (λ x. HasMarked-all c.args.marks.now c.loop-x.x c.loop-x.found.items c.loop-x-test.false c.loop-x.invariant x)
