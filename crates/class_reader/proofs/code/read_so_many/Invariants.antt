use Rattle.std.proofs.Common.{◌-◌, []}
use Rattle.class_reader.specs.Met.{times, pushed}
use Rattle.class_reader.specs.ClassReading.{handler_at}
use Rattle.class_reader.proofs.Loops.{Leads}
use Rattle.class_reader.proofs.code.read_so_many.Given as goal

abbrev pub invariant-loop : goal.invariant-loop
invariant-loop l = Leads l.fn.kept (times (pushed (handler_at l.pool)) l.count ([], l.fn.cursor)) l.kept (times (pushed (handler_at l.pool)) (l.count - l.counter) (l.handlers.items, l.cursor))
