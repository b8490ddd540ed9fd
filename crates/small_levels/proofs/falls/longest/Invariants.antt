use Rattle.std.specs.Prelude.{◌≤◌, length, All}
use Rattle.std.proofs.Common.{take}
use Rattle.lin_rows.specs.Linear.{Linear}
use Rattle.small_levels.proofs.falls.longest.Given as goal

abbrev pub invariant-loop-lin : goal.invariant-loop-lin
invariant-loop-lin l = record {
  least : l.least ≤ l.longest;
  each : All (λ (e : Linear). length e.coefficients ≤ l.longest) (take l.lin-index l.lins);
}
