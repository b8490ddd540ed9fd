use Rattle.std.proofs.Common.{◌≡◌, ◌+◌, drop}
use Rattle.base_relations.proofs.tracing.drop_way.Given as goal

abbrev pub invariant-loop : goal.invariant-loop
invariant-loop l = l.pending ≡ drop (l.counter + 1) l.fn.pending
