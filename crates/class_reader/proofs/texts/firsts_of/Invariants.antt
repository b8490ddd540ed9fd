use Rattle.class_reader.specs.TextTable.{first_in, HasFirsts}
use Rattle.class_reader.proofs.texts.firsts_of.Given as goal

abbrev pub invariant-loop-i : goal.invariant-loop-i
invariant-loop-i l = HasFirsts l.slots l.i (first_in l.firsts)
