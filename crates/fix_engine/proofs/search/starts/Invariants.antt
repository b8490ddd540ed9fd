use Rattle.std.proofs.Common.{◌≡◌, ℕ, ◌<◌, Some, length}
use Rattle.std.specs.Prelude.{slice_get}
use Rattle.fix_engine.proofs.search.starts.Given as goal

abbrev pub invariant-loop-point : goal.invariant-loop-point
invariant-loop-point g l =
    record {
      count : length l.facts.items ≡ l.point;
      starts : (k : ℕ) → k < l.point → slice_get l.facts.items k ≡ Some ((g.F.Flow.problem l.flow).start k);
    }
