use Rattle.std.proofs.Common.{◌-◌, None, false}
use Rattle.class_reader.specs.Met.{times}
use Rattle.class_reader.specs.ClassReading.{method_attribute_at}
use Rattle.class_reader.proofs.Loops.{Leads}
use Rattle.class_reader.proofs.method_code.read_so_many.Given as goal

abbrev pub invariant-loop : goal.invariant-loop
invariant-loop l = Leads l.fn.kept (times (method_attribute_at l.allowed l.pool) l.count (record { met = false; code = None }, l.fn.cursor)) l.kept (times (method_attribute_at l.allowed l.pool) (l.count - l.counter) (l.found, l.cursor))
