use Rattle.std.specs.Prelude.{[], ◌∷◌}
use Rattle.small_rank.specs.inside.Search.{HasNoneBefore}
use Rattle.small_rank.proofs.functions.by_pairs_of.Given as goal

abbrev pub invariant-loop-j : goal.invariant-loop-j
invariant-loop-j l = HasNoneBefore l.steps l.sizes (2 ∷ l.i ∷ l.j ∷ [])
