use Rattle.std.proofs.Common.{◌-◌, []}
use Rattle.class_pool.specs.Pool.{class_name_at}
use Rattle.class_reader.specs.Met.{times, pushed}
use Rattle.class_reader.specs.ClassReading.{name_at}
use Rattle.class_reader.proofs.Loops.{Leads}
use Rattle.class_reader.proofs.reader.read_so_many_names.Given as goal

abbrev pub invariant-loop : goal.invariant-loop
invariant-loop l = Leads l.fn.kept (times (pushed (name_at (class_name_at l.pool))) l.count ([], l.fn.cursor)) l.kept (times (pushed (name_at (class_name_at l.pool))) (l.count - l.counter) (l.names.items, l.cursor))
