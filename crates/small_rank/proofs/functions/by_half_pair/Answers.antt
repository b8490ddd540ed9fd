use Rattle.std.specs.Prelude.{[], ◌∷◌, ◌+◌, Option, FitsSigned}
use Rattle.std.specs.Int.{w128}
use Rattle.std.proofs.Common.{rules, subst}
use Rattle.std.proofs.lemmas.Int.{to_z-of_z}
use Rattle.small_cert.specs.Order.{rank_of}
use Rattle.small_rank.specs.declared.functions.Found.{Found}
use Rattle.small_rank.specs.inside.Search.{HasNoneBefore, HasNoneUpTo, IsFirstFound}
use Rattle.small_rank.proofs.Moves.{moved, followed, to_two, to_two_minus, to_rank}
use Rattle.small_rank.proofs.Answered.{Searched, answer_moved}
use Rattle.small_rank.proofs.functions.by_half_pair.Goals as goal

pub by_two-requires-clause-before : goal.by_two-requires-clause-before
by_two-requires-clause-before c =
    let fits : FitsSigned w128 c.args.a = search rules in
    let a = rank_of c.args.a in
    simp to_z-of_z (moved c.args.steps.now c.args.sizes (2 ∷ c.args.i ∷ c.args.j ∷ a ∷ []) (2 ∷ c.args.i ∷ c.args.j ∷ a ∷ 0 ∷ []) (to_two c.args.sizes c.args.i c.args.j a) c.requires.before)

pub by_two-requires-in-None-clause-before : goal.by_two-requires-in-None-clause-before
by_two-requires-in-None-clause-before c =
    let fits : FitsSigned w128 c.args.a = search rules in
    let a = rank_of c.args.a in
    let none : HasNoneUpTo c.args.steps.now c.args.sizes (2 ∷ c.args.i ∷ c.args.j ∷ a ∷ 0 ∷ []) = subst (λ (o : Option Found). Searched c.args.steps.now c.args.sizes (2 ∷ c.args.i ∷ c.args.j ∷ a ∷ 0 ∷ []) o) c.in-None.is (simp to_z-of_z at c.in_ok-found.ensures) in
    simp to_z-of_z (followed c.args.steps.now c.args.sizes (2 ∷ c.args.i ∷ c.args.j ∷ a ∷ 0 ∷ []) (2 ∷ c.args.i ∷ c.args.j ∷ a ∷ 1 ∷ []) (to_two_minus c.args.sizes c.args.i c.args.j a) none)

pub returns-in-None : goal.returns-in-None
returns-in-None c =
    let fits : FitsSigned w128 c.args.a = search rules in
    let steps = c.args.steps.now in
    let n = c.args.sizes in
    let a = rank_of c.args.a in
    answer_moved (HasNoneUpTo steps n (2 ∷ c.args.i ∷ c.args.j ∷ a ∷ 1 ∷ [])) (HasNoneBefore steps n (2 ∷ c.args.i ∷ c.args.j ∷ (a + 1) ∷ [])) (IsFirstFound steps n) c.by_two-in-None.result
    (followed steps n (2 ∷ c.args.i ∷ c.args.j ∷ a ∷ 1 ∷ []) (2 ∷ c.args.i ∷ c.args.j ∷ (a + 1) ∷ []) (to_rank n c.args.i c.args.j a)) (simp to_z-of_z at c.by_two-in-None.ensures)
