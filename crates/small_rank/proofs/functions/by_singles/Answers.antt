use Rattle.std.specs.Prelude.{[], ◌∷◌}
use Rattle.std.proofs.Common.{arith}
use Rattle.small_rank.proofs.Moves.{moved, to_pairs}
use Rattle.small_rank.proofs.functions.by_singles.Goals as goal

pub returns : goal.returns
returns c = moved c.args.steps.now c.args.sizes (1 ∷ c.loop-i.i ∷ []) (2 ∷ 0 ∷ []) (to_pairs c.args.sizes c.loop-i.i (omega (arith, c.loop-i-test.false))) c.loop-i.invariant
