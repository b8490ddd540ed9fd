use Rattle.std.proofs.Common.{◌<◌, length, get_or, refl, arith}
use Rattle.nested_runs.specs.declared.counting.Action.TheVariants.{Count}
use Rattle.nested_runs.proofs.CountingLaws.{nested_first, nested_after, nested_bounded, runs_past, runs_before}
use Rattle.nested_runs.proofs.running.run.Goals as goal

pub loop-action-init : goal.loop-action-init
loop-action-init c = rw c.new-counters.ensures (record {
  nested = nested_first c.args.counter;
  onward = λ last runs. runs;
  back = λ last runs. runs;
})

pub make-requires-clause-room : goal.make-requires-clause-room
make-requires-clause-room c =
    let within = nested_bounded c.args.counter c.loop-action.counters c.loop-action.invariant.nested in omega (arith, within)

pub loop-action-preserved : goal.loop-action-preserved
loop-action-preserved c =
    let actions = c.args.actions.now in
    let i = c.loop-action.action-index in
    let before = c.loop-action.counters in
    let within : i < length actions = omega arith in
    let possible = c.if-not-can.ensures.0 refl in
    rw c.in_ok-make.ensures.ok (record {
      nested = nested_after (get_or actions i Count) c.args.counter before possible c.loop-action.invariant.nested;
      onward = λ last runs. c.loop-action.invariant.onward last (runs_before actions i Count before last within possible runs);
      back = λ last runs. runs_past actions i Count before last within (c.loop-action.invariant.back last runs);
    })

pub returns-clause-bounded : goal.returns-clause-bounded
returns-clause-bounded c = nested_bounded c.args.counter c.loop-action.counters c.loop-action.invariant.nested
