use Rattle.std.specs.Prelude.{[], ◌∷◌, Option}
use Rattle.std.proofs.Common.{subst}
use Rattle.small_rank.specs.declared.functions.Found.{Found}
use Rattle.small_rank.specs.inside.Search.{HasNoneUpTo}
use Rattle.small_rank.proofs.Moves.{followed, to_singles}
use Rattle.small_rank.proofs.Answered.{Searched}
use Rattle.small_rank.proofs.functions.first_ranking.Goals as goal

pub by_sizes-requires-clause-before : goal.by_sizes-requires-clause-before
by_sizes-requires-clause-before c =
    let none : HasNoneUpTo c.args.steps.now c.args.sizes (0 ∷ []) = subst (λ (o : Option Found). Searched c.args.steps.now c.args.sizes (0 ∷ []) o) c.in-None.is c.in_ok-found.ensures in
    followed c.args.steps.now c.args.sizes (0 ∷ []) (1 ∷ 0 ∷ []) (to_singles c.args.sizes) none
