use Rattle.std.proofs.Common.{◌<◌, ◌∙◌, All, length, sym, subst}
use Rattle.graph_core.specs.Paths.{IsWithoutRepeat}
use Rattle.plain_graphs.proofs.Listings.{list_within, no_path}
use Rattle.plain_graphs.proofs.listing.leads_there.Goals as goal

pub is_path-requires-clause-rest : goal.is_path-requires-clause-rest
is_path-requires-clause-rest c =
    subst (All (λ x. x < length c.args.g.now)) (sym (c.as_slice.ensures ∙ c.way-item.is)) (list_within _ _ c.requires.lists _ _ c.loop-way-test.true).1

pub is_path-requires-clause-no_repeat : goal.is_path-requires-clause-no_repeat
is_path-requires-clause-no_repeat c =
    subst IsWithoutRepeat (sym (c.as_slice.ensures ∙ c.way-item.is)) (list_within _ _ c.requires.lists _ _ c.loop-way-test.true).0

pub returns : goal.returns
returns c =
    (λ no_way. absurd (cc), λ h. absurd (no_path _ c.nodes-nodes.ensures.ends _ c.requires.lists _ _ _ c.loop-way-test.false c.loop-way.invariant h))
