use Rattle.std.proofs.Common.{arith}
use Rattle.small_rank.proofs.Moves.{none_left}
use Rattle.small_rank.proofs.functions.by_pairs.Goals as goal

pub returns : goal.returns
returns c = none_left c.args.steps.now c.args.sizes c.loop-i.i (omega (arith, c.loop-i-test.false)) c.loop-i.invariant
