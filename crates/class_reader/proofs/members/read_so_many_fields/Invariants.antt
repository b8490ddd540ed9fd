use Rattle.std.proofs.Common.{◌≡◌, ◌-◌, []}
use Rattle.class_reader.specs.Met.{times, pushed}
use Rattle.class_reader.specs.ClassReading.{field_at}
use Rattle.class_reader.proofs.Loops.{Leads}
use Rattle.class_reader.proofs.members.read_so_many_fields.Given as goal

abbrev pub invariant-loop : goal.invariant-loop
invariant-loop l = record {
  same : l.declared.pool ≡ l.fn.declared.pool;
  leads : Leads l.fn.kept (times (pushed (field_at l.fn.declared.pool)) l.count ([], (l.fn.declared.members, l.fn.cursor))) l.kept (times (pushed (field_at l.fn.declared.pool)) (l.count - l.counter) (l.fields.items, (l.declared.members, l.cursor)));
}
