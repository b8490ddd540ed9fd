use Rattle.std.specs.Prelude.{List, length, IfOk, MatchOption}
use Rattle.std.proofs.Common.{sym, subst, ◌∙◌}
use Rattle.lin_rows.specs.declared.row.Transition.{Transition}
use Rattle.rankings.specs.SelfCalls.{self_steps}
use Rattle.small_rank.specs.Answer.{IsSmallRank, HasNoSmallRank}
use Rattle.node_certificates.specs.Nodes.{AreStepsOf}
use Rattle.node_certificates.proofs.RankedPoints.{next_sizes, answer_ranked}
use Rattle.node_certificates.proofs.ranking.rank.Goals as goal

pub small_rank-requires-clause-rows : goal.small_rank-requires-clause-rows
small_rank-requires-clause-rows c = (subst (λ (steps : List Transition). AreStepsOf (length c.args.node.now.lengths) steps) (sym (c.as_slice.ensures ∙ c.in_ok-steps.ensures)) c.requires).rows

pub small_rank-requires-clause-next : goal.small_rank-requires-clause-next
small_rank-requires-clause-next c =
    next_sizes (length c.args.node.now.lengths) c.as_slice.result.now (subst (λ (steps : List Transition). AreStepsOf (length c.args.node.now.lengths) steps) (sym (c.as_slice.ensures ∙ c.in_ok-steps.ensures)) c.requires).next

pub returns-clause-ranking : goal.returns-clause-ranking
returns-clause-ranking c =
    answer_ranked (length c.args.node.now.lengths) (self_steps c.args.node.now.node c.args.node.now.rules) c.small_rank.result c.requires.next
    (subst (λ (steps : List Transition). IfOk c.small_rank.result (λ answer. MatchOption answer (HasNoSmallRank steps) (IsSmallRank steps))) (c.as_slice.ensures ∙ c.in_ok-steps.ensures) c.small_rank.ensures)
