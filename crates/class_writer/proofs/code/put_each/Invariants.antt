use Rattle.std.proofs.Common.{◌≡◌, ◌++◌, take}
use Rattle.std.specs.List.{flat_map}
use Rattle.class_writer.specs.Writing.{handler_bytes}
use Rattle.class_writer.proofs.code.put_each.Given as goal

abbrev pub invariant-loop-handler : goal.invariant-loop-handler
invariant-loop-handler l = l.out ≡ l.initial.out ++ flat_map (handler_bytes l.indices) (take l.handler-index l.handlers)
