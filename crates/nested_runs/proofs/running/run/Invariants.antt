use Rattle.std.proofs.Common.{drop}
use Rattle.nested_runs.specs.Counting.{State, first_state, Runs, IsNested}
use Rattle.nested_runs.proofs.running.run.Given as goal

-- the nest so far, and the runs of what is left are those of all
abbrev pub invariant-loop-action : goal.invariant-loop-action
invariant-loop-action l = record {
  nested : IsNested l.fn.counter l.counters;
  onward : (last : State) → Runs (drop l.action-index l.actions) l.counters last → Runs l.actions (first_state l.fn.counter) last;
  back : (last : State) → Runs l.actions (first_state l.fn.counter) last → Runs (drop l.action-index l.actions) l.counters last;
}
