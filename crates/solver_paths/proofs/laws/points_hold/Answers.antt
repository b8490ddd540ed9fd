use Rattle.std.specs.Prelude.{pos}
use Rattle.std.proofs.Common.{sym, subst}
use Rattle.q128.specs.Fraction.{whole}
use Rattle.lin_rows.specs.Points.{RowsHoldAt}
use Rattle.solver_paths.proofs.Points.{point_holds}
use Rattle.solver_paths.proofs.laws.points_hold.Goals as goal

pub returns : goal.returns
returns c = λ rows v p. subst (RowsHoldAt rows (whole (pos 1))) (sym p.coordinates) (point_holds rows p.last p.own p.dictionary p.meets)
