use Rattle.std.proofs.Common.{ℕ, ◌<◌, ◌∙◌, length, refl, subst, sym, ap, arith}
use Rattle.std.specs.Prelude.{is_some}
use Rattle.graph_core.specs.Graphs.{IsRising, successors_of}
use Rattle.graph_core.proofs.Walks.{look_again, look_falls, look_found, here_below, found_below, IsWalk-moved}
use Rattle.graph_core.proofs.walk.look.Goals as goal

pub returns-then-is_some-clause-walk : goal.returns-then-is_some-clause-walk
returns-then-is_some-clause-walk c =
    look_again _ _ _ _ c.requires.walk _ _ _ c.node-node.ensures c.index-next.ensures c.successors.ensures.value c.requires.more _ refl (sym (ap is_some c.number.ensures) ∙ (sym c.is_some.ensures ∙ c.if-is_some.true))

pub returns-then-is_some-clause-falls : goal.returns-then-is_some-clause-falls
returns-then-is_some-clause-falls c =
    look_falls _ _ _ _ c.requires.walk _ _ _ c.node-node.ensures c.index-next.ensures c.successors.ensures.value c.requires.more _ refl _ (here_below _ _ _ _ c.requires.walk _ _ _ c.node-node.ensures c.index-next.ensures c.successors.ensures.value c.requires.more _ refl)

pub returns-clause-walk : goal.returns-clause-walk
returns-clause-walk c =
    let fresh = sym (ap is_some c.number.ensures) ∙ (sym c.is_some.ensures ∙ c.if-is_some.false) in
    let rising = subst (λ (v : ℕ). IsRising (successors_of c.args.g.now v)) c.node-node.ensures c.successors.ensures.rising in
    IsWalk-moved _ _ _ _ _ _ c.in_ok-find.ensures c.found-number.ensures (look_found _ _ _ _ c.requires.walk _ _ _ c.node-node.ensures c.index-next.ensures c.successors.ensures.value c.requires.more _ refl c.nodes-nodes.ensures.ends rising fresh)

pub returns-clause-falls : goal.returns-clause-falls
returns-clause-falls c =
    let fresh = sym (ap is_some c.number.ensures) ∙ (sym c.is_some.ensures ∙ c.if-is_some.false) in
    let rising = subst (λ (v : ℕ). IsRising (successors_of c.args.g.now v)) c.node-node.ensures c.successors.ensures.rising in
    let below = found_below _ _ _ _ c.requires.walk _ _ _ c.node-node.ensures c.index-next.ensures c.successors.ensures.value c.requires.more _ refl c.nodes-nodes.ensures.ends rising fresh in
    let low : c.found-number.result < length c.args.g.now = omega (arith, below, c.found-number.ensures) in
    look_falls _ _ _ _ c.requires.walk _ _ _ c.node-node.ensures c.index-next.ensures c.successors.ensures.value c.requires.more _ refl _ low
