use Rattle.std.proofs.Common.{refl}
use Rattle.analyser.specs.Answers.{no_world}
use Rattle.analyser.proofs.top.on_classes.Goals as goal

pub returns : goal.returns
returns c = no_world c.in-Err.fault (c.in-Err.ensures.fault (c.is_memory.ensures.no c.if-is_memory.false)) refl
