use Rattle.std.specs.Prelude.{[], ◌∷◌, ◌+◌, Option, MatchOption}
use Rattle.std.proofs.Common.{subst}
use Rattle.small_rank.specs.declared.functions.Found.{Found}
use Rattle.small_rank.specs.inside.Search.{HasNoneBefore, IsFirstFound}
use Rattle.small_rank.proofs.Moves.{moved, to_plus, to_later}
use Rattle.small_rank.proofs.Answered.{answer_moved}
use Rattle.small_rank.proofs.functions.by_pair.Goals as goal

pub by_half_pair-requires-clause-before : goal.by_half_pair-requires-clause-before
by_half_pair-requires-clause-before c = moved c.args.steps.now c.args.sizes (2 ∷ c.args.i ∷ c.args.j ∷ []) (2 ∷ c.args.i ∷ c.args.j ∷ 0 ∷ []) (to_plus c.args.sizes c.args.i c.args.j) c.requires.before

pub by_half_pair-requires-in-None-clause-before : goal.by_half_pair-requires-in-None-clause-before
by_half_pair-requires-in-None-clause-before c =
    subst (λ (o : Option Found). MatchOption o (HasNoneBefore c.args.steps.now c.args.sizes (2 ∷ c.args.i ∷ c.args.j ∷ 1 ∷ [])) (IsFirstFound c.args.steps.now c.args.sizes)) c.in-None.is c.in_ok-found.ensures

pub returns-in-None : goal.returns-in-None
returns-in-None c =
    let steps = c.args.steps.now in
    let n = c.args.sizes in
    answer_moved (HasNoneBefore steps n (2 ∷ c.args.i ∷ c.args.j ∷ 2 ∷ [])) (HasNoneBefore steps n (2 ∷ c.args.i ∷ (c.args.j + 1) ∷ [])) (IsFirstFound steps n) c.by_half_pair-in-None.result
    (moved steps n (2 ∷ c.args.i ∷ c.args.j ∷ 2 ∷ []) (2 ∷ c.args.i ∷ (c.args.j + 1) ∷ []) (to_later n c.args.i c.args.j)) c.by_half_pair-in-None.ensures
