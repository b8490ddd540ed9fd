use Rattle.std.proofs.Common.{◌≡◌, ◌≤◌, ◌<◌, ℕ, length, take}
use Rattle.entries.specs.Entry.{words_of_values}
use Rattle.entries.specs.Entering.{IsGoodArgument}
use Rattle.entries.proofs.entering.first_bad.Given as goal

abbrev pub invariant-loop-i : goal.invariant-loop-i
invariant-loop-i l =
    record {
      before : (j : ℕ) → j < l.i → IsGoodArgument l.w l.heap l.types l.method l.code l.arguments j;
      words : l.words ≡ length (words_of_values (take l.i l.arguments));
      few : l.words ≤ 65535;
    }
