use Rattle.std.proofs.Common.{◌≡◌, ◌-◌, []}
use Rattle.class_reader.specs.Met.{times, pushed}
use Rattle.class_reader.specs.ClassReading.{method_at}
use Rattle.class_reader.proofs.Loops.{Leads}
use Rattle.class_reader.proofs.members.read_so_many_methods.Given as goal

abbrev pub invariant-loop : goal.invariant-loop
invariant-loop l = record {
  same : l.declared.pool ≡ l.fn.declared.pool;
  leads : Leads l.fn.kept (times (pushed (method_at l.fn.declared.pool)) l.count ([], (l.fn.declared.members, l.fn.cursor))) l.kept (times (pushed (method_at l.fn.declared.pool)) (l.count - l.counter) (l.methods.items, (l.declared.members, l.cursor)));
}
