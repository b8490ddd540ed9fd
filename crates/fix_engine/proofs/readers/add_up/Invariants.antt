use Rattle.std.proofs.Common.{◌≡◌, ℕ, ◌+◌, ◌<◌, ◌≤◌}
use Rattle.std.specs.Prelude.{slice_index}
use Rattle.fix_engine.specs.Counting.{sum_below}
use Rattle.fix_engine.proofs.readers.add_up.Given as goal

abbrev pub invariant-loop-number : goal.invariant-loop-number
invariant-loop-number l =
    record {
      sum : l.sum ≡ sum_below (λ j. slice_index l.initial.numbers j) l.number-index;
      done : (k : ℕ) → k < l.number-index → slice_index l.numbers k ≡ sum_below (λ j. slice_index l.initial.numbers j) (k + 1);
      left : (k : ℕ) → l.number-index ≤ k → slice_index l.numbers k ≡ slice_index l.initial.numbers k;
    }
