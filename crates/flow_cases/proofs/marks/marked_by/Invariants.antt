use Rattle.std.proofs.Common.{◌≡◌, map}
use Rattle.std.specs.List.{list_any, range_with_len}
use Rattle.std.specs.Option.{option_copied}
use Rattle.flow_cases.specs.Marking.{marks_slot}
use Rattle.flow_cases.proofs.marks.marked_by.Given as goal

abbrev pub invariant-loop-slot : goal.invariant-loop-slot
invariant-loop-slot l = l.slots.items ≡ map (λ slot. list_any (λ way. marks_slot l.fact (option_copied l.also) slot way) l.ways) (range_with_len 0 l.slot)
