use Rattle.std.proofs.Common.{◌<ℤ◌, ◌≤ℤ◌, arith, sym}
use Rattle.std.proofs.lemmas.Int.{ints}
use Rattle.op_table.proofs.Rising.{rises-on, falls}
use Rattle.op_table.proofs.switches.are_rising.Goals as goal

pub returns-then-value_of : goal.returns-then-value_of
returns-then-value_of c =
    let under : c.value_of.result ≤ℤ c.value_of-in-loop-k.result = omega (arith, ints) in
    sym (falls c.loop-k.k c.args.count c.args.pairs.now (omega arith) (omega arith) (rw (← c.value_of.ensures, ← c.value_of-in-loop-k.ensures) under))

pub loop-k-preserved : goal.loop-k-preserved
loop-k-preserved c =
    let above : c.value_of-in-loop-k.result <ℤ c.value_of.result = omega (arith, ints) in
    rises-on c.loop-k.k c.args.pairs.now (omega arith) c.loop-k.invariant (rw (← c.value_of.ensures, ← c.value_of-in-loop-k.ensures) above)
