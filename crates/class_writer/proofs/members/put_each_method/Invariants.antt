use Rattle.std.proofs.Common.{◌≡◌, ◌++◌, take}
use Rattle.std.specs.List.{flat_map}
use Rattle.class_writer.specs.Writing.{method_bytes}
use Rattle.class_writer.proofs.members.put_each_method.Given as goal

abbrev pub invariant-loop-method : goal.invariant-loop-method
invariant-loop-method l = l.out ≡ l.initial.out ++ flat_map (method_bytes l.indices) (take l.method-index l.methods)
