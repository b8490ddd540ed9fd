use Rattle.std.proofs.Common.{◌-◌}
use Rattle.class_reader.specs.Met.{times}
use Rattle.class_reader.specs.ClassReading.{skipped_at}
use Rattle.class_reader.proofs.Loops.{Leads}
use Rattle.class_reader.proofs.attributes.skip_so_many.Given as goal

abbrev pub invariant-loop : goal.invariant-loop
invariant-loop l = Leads l.fn.kept (times (skipped_at l.pool) l.count l.fn.cursor) l.kept (times (skipped_at l.pool) (l.count - l.counter) l.cursor)
