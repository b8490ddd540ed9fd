use Rattle.std.proofs.Common.{◌≡◌, take}
use Rattle.entries.specs.Entry.{words_of_values}
use Rattle.entries.proofs.entering.words_of_values.Given as goal

abbrev pub invariant-loop-value : goal.invariant-loop-value
invariant-loop-value l = l.words.items ≡ words_of_values (take l.value-index l.arguments)
