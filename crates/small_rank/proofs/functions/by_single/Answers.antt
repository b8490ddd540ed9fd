use Rattle.std.specs.Prelude.{[], ◌∷◌, ◌+◌, Option}
use Rattle.std.proofs.Common.{subst}
use Rattle.small_rank.specs.declared.functions.Found.{Found}
use Rattle.small_rank.specs.inside.Search.{HasNoneBefore, HasNoneUpTo, IsFirstFound}
use Rattle.small_rank.proofs.Moves.{moved, followed, to_one, to_minus, to_next}
use Rattle.small_rank.proofs.Answered.{Searched, answer_moved}
use Rattle.small_rank.proofs.functions.by_single.Goals as goal

pub by_one-requires-clause-before : goal.by_one-requires-clause-before
by_one-requires-clause-before c = moved c.args.steps.now c.args.sizes (1 ∷ c.args.i ∷ []) (1 ∷ c.args.i ∷ 0 ∷ []) (to_one c.args.sizes c.args.i) c.requires.before

pub by_one-requires-in-None-clause-before : goal.by_one-requires-in-None-clause-before
by_one-requires-in-None-clause-before c =
    let none : HasNoneUpTo c.args.steps.now c.args.sizes (1 ∷ c.args.i ∷ 0 ∷ []) = subst (λ (o : Option Found). Searched c.args.steps.now c.args.sizes (1 ∷ c.args.i ∷ 0 ∷ []) o) c.in-None.is c.in_ok-found.ensures in
    followed c.args.steps.now c.args.sizes (1 ∷ c.args.i ∷ 0 ∷ []) (1 ∷ c.args.i ∷ 1 ∷ []) (to_minus c.args.sizes c.args.i) none

pub returns-in-None : goal.returns-in-None
returns-in-None c =
    let steps = c.args.steps.now in
    let n = c.args.sizes in
    answer_moved (HasNoneUpTo steps n (1 ∷ c.args.i ∷ 1 ∷ [])) (HasNoneBefore steps n (1 ∷ (c.args.i + 1) ∷ [])) (IsFirstFound steps n) c.by_one-in-None.result
    (followed steps n (1 ∷ c.args.i ∷ 1 ∷ []) (1 ∷ (c.args.i + 1) ∷ []) (to_next n c.args.i)) c.by_one-in-None.ensures
