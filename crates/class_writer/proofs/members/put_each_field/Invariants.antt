use Rattle.std.proofs.Common.{◌≡◌, ◌++◌, take}
use Rattle.std.specs.List.{flat_map}
use Rattle.class_writer.specs.Writing.{field_bytes}
use Rattle.class_writer.proofs.members.put_each_field.Given as goal

abbrev pub invariant-loop-field : goal.invariant-loop-field
invariant-loop-field l = l.out ≡ l.initial.out ++ flat_map (field_bytes l.indices) (take l.field-index l.fields)
