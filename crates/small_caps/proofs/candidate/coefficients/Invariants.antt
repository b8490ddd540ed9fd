use Rattle.std.proofs.Common.{◌≡◌, ◌<◌, ℕ, pos, get_or, length}
use Rattle.small_cert.specs.Multiples.{times_of}
use Rattle.small_caps.specs.inside.Numbers.{IsCoefficientAt}
use Rattle.small_caps.proofs.candidate.coefficients.Given as goal

abbrev pub invariant-loop-v : goal.invariant-loop-v
invariant-loop-v l = record {
  long : length l.list.items ≡ l.v;
  each : (i : ℕ) → i < l.v → IsCoefficientAt l.sum l.l l.entry (times_of l.multiple) i (get_or l.list.items i (pos 0));
}
