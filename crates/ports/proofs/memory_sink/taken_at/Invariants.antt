use Rattle.std.proofs.Common.{◌≡◌, drop}
use Rattle.ports.specs.Memory.{taken_at}
use Rattle.ports.proofs.memory_sink.taken_at.Given as goal

abbrev pub invariant-loop-fail : goal.invariant-loop-fail
invariant-loop-fail l = taken_at (drop l.fail-index l.fails) l.call ≡ taken_at l.fails l.call
