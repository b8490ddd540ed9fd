use Rattle.std.proofs.Common.{◌≡◌, take}
use Rattle.std.specs.Prelude.{All}
use Rattle.q128.specs.Laws.{IsNarrow}
use Rattle.small_cert.specs.inside.Levels.{scaled_list}
use Rattle.small_cert.proofs.multiple.scaled.Given as goal

abbrev pub invariant-loop-number : goal.invariant-loop-number
invariant-loop-number l = record {
  narrow : All IsNarrow l.all.items;
  made : l.all.items ≡ scaled_list l.factor (take l.number-index l.numbers);
}
