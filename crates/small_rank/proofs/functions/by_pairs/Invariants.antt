use Rattle.std.specs.Prelude.{[], ◌∷◌}
use Rattle.small_rank.specs.inside.Search.{HasNoneBefore}
use Rattle.small_rank.proofs.functions.by_pairs.Given as goal

abbrev pub invariant-loop-i : goal.invariant-loop-i
invariant-loop-i l = HasNoneBefore l.steps l.sizes (2 ∷ l.i ∷ [])
