use Rattle.std.proofs.Common.{ℕ, List, ◌∙◌, subst, sym}
use Rattle.graph_core.specs.Leaving.{IsRound, IsReaching, IsMoreFrom}
use Rattle.graph_core.proofs.Rounds.{round_leave, leave_more, step_all, IsMoreFrom-none}
use Rattle.graph_core.proofs.round.step.Goals as goal

pub returns-then-next-successors-clause-round : goal.returns-then-next-successors-clause-round
returns-then-next-successors-clause-round c =
    let was = subst (λ (xs : List ℕ). IsRound c.args.g.now c.args.round.now.found.items c.args.round.now.nexts.items xs c.args.round.now.order.items) c.in-Some.ensures.items c.requires.round in
    subst (IsRound c.args.g.now c.args.round.now.found.items c.args.round.now.nexts.items c.pop.new.self.items) (sym c.in_ok-push.ensures.items) (round_leave _ _ _ _ _ _ was (step_all _ _ _ _ _ _ was _ _ c.index-next.ensures c.successors.ensures.value c.if-next-successors.true))

pub returns-then-next-successors-clause-more : goal.returns-then-next-successors-clause-more
returns-then-next-successors-clause-more c =
    λ root all. let h = leave_more c.args.g.now c.pop.new.self.items c.args.round.now.order.items c.in-Some.v root (subst (IsReaching c.args.g.now root) c.in-Some.ensures.items all) in (h.0, subst (IsMoreFrom c.args.g.now root c.args.round.now.order.items) (sym c.in_ok-push.ensures.items) h.1)

pub returns-clause-more : goal.returns-clause-more
returns-clause-more c =
    λ root all. (c.in_ok-look.ensures.reaching root (subst (IsReaching c.args.g.now root) (c.in-Some.ensures.items ∙ sym c.in_ok-push-2.ensures.items) all), IsMoreFrom-none _ _ _ _ c.in_ok-look.ensures.order)
