use Rattle.std.proofs.Common.{arith, sym}
use Rattle.std.proofs.lemmas.Nat.Gcd.{IsGcd-from_zero, IsGcd-from_mod}
use Rattle.std.proofs.Math.Nat.{le_of_dvd, pos_of_dvd_of_pos}
use Rattle.q128.proofs.Divisors.{gcd-is}
use Rattle.q128.proofs.gcd.greatest_common_divisor.Goals as goal

pub loop-y-preserved : goal.loop-y-preserved
loop-y-preserved c g h = c.loop-y.invariant g (IsGcd-from_mod _ _ g h)

pub returns-clause-value : goal.returns-clause-value
returns-clause-value c = sym (gcd-is _ _ _ (c.loop-y.invariant _ (IsGcd-from_zero _ _ (omega arith))))

pub returns-clause-low : goal.returns-clause-low
returns-clause-low c low = pos_of_dvd_of_pos (c.loop-y.invariant _ (IsGcd-from_zero _ _ (omega arith))).1 low

pub returns-clause-high : goal.returns-clause-high
returns-clause-high c low = le_of_dvd low (c.loop-y.invariant _ (IsGcd-from_zero _ _ (omega arith))).1
