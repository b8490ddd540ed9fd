use Rattle.std.proofs.Common.{refl, ◌<◌, All, length, sym, ◌∙◌, subst}
use Rattle.graph_core.specs.Paths.{IsWithoutRepeat}
use Rattle.plain_graphs.proofs.Listings.{list_within, first_all}
use Rattle.plain_graphs.proofs.trunks.is_first.Goals as goal

pub is_no_earlier-requires-clause-other : goal.is_no_earlier-requires-clause-other
is_no_earlier-requires-clause-other c =
    subst (All (λ x. x < length c.args.g.now)) (sym (c.as_slice.ensures ∙ c.way-item.is)) (list_within _ _ c.requires.lists _ _ c.loop-way-test.true).1

pub is_no_earlier-requires-clause-no_repeat : goal.is_no_earlier-requires-clause-no_repeat
is_no_earlier-requires-clause-no_repeat c =
    subst IsWithoutRepeat (sym (c.as_slice.ensures ∙ c.way-item.is)) (list_within _ _ c.requires.lists _ _ c.loop-way-test.true).0

pub returns : goal.returns
returns c =
    (λ t. first_all _ c.nodes-nodes.ensures.ends _ c.requires.lists _ _ _ _ c.loop-way-test.false c.loop-way.invariant, λ h. refl)
