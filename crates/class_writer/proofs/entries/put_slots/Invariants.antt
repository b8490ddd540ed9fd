use Rattle.std.proofs.Common.{◌≡◌, ◌++◌, take}
use Rattle.std.specs.List.{flat_map}
use Rattle.class_writer.specs.Writing.{slot_bytes}
use Rattle.class_writer.proofs.entries.put_slots.Given as goal

abbrev pub invariant-loop-slot : goal.invariant-loop-slot
invariant-loop-slot l = l.out ≡ l.initial.out ++ flat_map slot_bytes (take l.slot-index l.slots)
