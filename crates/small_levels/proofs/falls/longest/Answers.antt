use Rattle.std.specs.Prelude.{◌≤◌, length, All, List}
use Rattle.std.proofs.Common.{arith, subst}
use Rattle.std.proofs.lemmas.List.{take_all}
use Rattle.lin_rows.specs.Linear.{Linear}
use Rattle.small_levels.proofs.FallParts.{longer_more}
use Rattle.small_levels.proofs.falls.longest.Goals as goal

pub loop-lin-preserved : goal.loop-lin-preserved
loop-lin-preserved c = record {
  least = omega (arith, c.loop-lin.invariant.least, c.max-longest.ensures);
  each = longer_more c.args.lins.now c.loop-lin.lin-index c.loop-lin.longest c.max-longest.result c.lin-item.result c.loop-lin-test.true c.lin-item.is (omega (arith, c.max-longest.ensures, c.len.ensures)) c.loop-lin.invariant.each;
}

pub returns-clause-each : goal.returns-clause-each
returns-clause-each c = subst (λ (ls : List Linear). All (λ (e : Linear). length e.coefficients ≤ c.loop-lin.longest) ls) (take_all c.loop-lin.lin-index c.args.lins.now c.loop-lin-test.false) c.loop-lin.invariant.each
