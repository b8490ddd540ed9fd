use Rattle.std.proofs.Common.{refl}
use Rattle.machine_cases.proofs.Held.{all_held, some_copied}
use Rattle.machine_cases.proofs.lengths.answer.Goals as goal

pub put_length-requires : goal.put_length-requires
put_length-requires c = all_held c.heap_of-heap.result c.last-number.result (c.if-is_closed.ensures refl) (some_copied c.get.result _ c.get.ensures c.if-is_some.ensures)
