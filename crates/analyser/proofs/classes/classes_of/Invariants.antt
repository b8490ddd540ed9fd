use Rattle.std.proofs.Common.{take}
use Rattle.analyser.specs.Classes.{AreClasses}
use Rattle.analyser.proofs.classes.classes_of.Given as goal

abbrev pub invariant-loop-file : goal.invariant-loop-file
invariant-loop-file l = AreClasses (take l.file-index l.files) l.classes.items
