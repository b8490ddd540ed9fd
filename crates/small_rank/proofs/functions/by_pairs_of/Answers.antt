use Rattle.std.specs.Prelude.{[], ◌∷◌, ◌+◌}
use Rattle.std.proofs.Common.{arith}
use Rattle.small_rank.proofs.Moves.{moved, to_second, to_first}
use Rattle.small_rank.proofs.functions.by_pairs_of.Goals as goal

pub loop-j-init : goal.loop-j-init
loop-j-init c = moved c.args.steps.now c.args.sizes (2 ∷ c.args.i ∷ []) (2 ∷ c.args.i ∷ (c.args.i + 1) ∷ []) (to_second c.args.sizes c.args.i) c.requires.before

pub returns : goal.returns
returns c = moved c.args.steps.now c.args.sizes (2 ∷ c.args.i ∷ c.loop-j.j ∷ []) (2 ∷ (c.args.i + 1) ∷ []) (to_first c.args.sizes c.args.i c.loop-j.j (omega (arith, c.loop-j-test.false))) c.loop-j.invariant
