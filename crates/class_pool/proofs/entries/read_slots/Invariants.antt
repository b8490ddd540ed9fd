use Rattle.std.proofs.Common.{◌≡◌, ◌-◌, false}
use Rattle.class_pool.specs.PoolReading.{slots_at}
use Rattle.class_pool.proofs.Loops.{with_front}
use Rattle.class_pool.proofs.entries.read_slots.Given as goal

abbrev pub invariant-loop-index : goal.invariant-loop-index
invariant-loop-index l = with_front l.slots.items (slots_at (l.count - l.index) l.gap l.cursor) ≡ slots_at l.count false l.fn.cursor
