use Rattle.std.proofs.Common.{◌≡◌, ◌++◌, take}
use Rattle.std.specs.List.{flat_map}
use Rattle.class_writer.specs.Writing.{class_index}
use Rattle.class_writer.proofs.writer.put_each_interface.Given as goal

abbrev pub invariant-loop-name : goal.invariant-loop-name
invariant-loop-name l = l.out ≡ l.initial.out ++ flat_map (class_index l.indices) (take l.name-index l.names)
