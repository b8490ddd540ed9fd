use Rattle.std.proofs.Common.{◌≡◌, drop, []}
use Rattle.bound_text.specs.inside.Runs.{run}
use Rattle.bound_text.specs.inside.Sums.{nothing_open}
use Rattle.bound_text.specs.inside.Readers.{stand_of, between, step}
use Rattle.bound_text.proofs.reading.guessed.Given as goal

abbrev pub invariant-loop-byte : goal.invariant-loop-byte
invariant-loop-byte l = run step (drop l.byte-index l.text) (stand_of l.reader) ≡ run step l.text (between nothing_open [])
