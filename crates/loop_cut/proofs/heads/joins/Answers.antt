use Rattle.std.proofs.Common.{subst, sym, List, ℕ, refl, take}
use Rattle.common_laws.proofs.Parts.{take_next}
use Rattle.loop_cut.specs.declared.point.Point.{Point}
use Rattle.loop_cut.specs.inside.Arrivals.{AreMet}
use Rattle.loop_cut.proofs.heads.joins.Goals as goal

pub loop-x-preserved : goal.loop-x-preserved
loop-x-preserved c =
    subst (λ (l : List (ℕ × Point)). AreMet l c.args.size c.meet.new.met.firsts.items c.meet.new.met.joins.items)
    (sym (take_next c.args.came.now c.loop-x.x-index _ _ c.loop-x-test.true refl))
    (c.meet.ensures (take c.loop-x.x-index c.args.came.now) c.args.size c.loop-x.invariant)
