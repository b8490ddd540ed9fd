use Rattle.std.proofs.Common.{◌<◌, All, length, sym, ◌∙◌, subst}
use Rattle.graph_core.specs.Paths.{IsWithoutRepeat}
use Rattle.plain_graphs.proofs.Listings.{list_within, no_first}
use Rattle.plain_graphs.proofs.trunks.first_among.Goals as goal

pub is_first_path-requires-clause-rest : goal.is_first_path-requires-clause-rest
is_first_path-requires-clause-rest c =
    subst (All (λ x. x < length c.args.g.now)) (sym (c.as_slice.ensures ∙ c.index-lists-i.is)) (list_within _ _ c.requires.lists _ _ c.loop-i-test.true).1

pub is_first_path-requires-clause-no_repeat : goal.is_first_path-requires-clause-no_repeat
is_first_path-requires-clause-no_repeat c =
    subst IsWithoutRepeat (sym (c.as_slice.ensures ∙ c.index-lists-i.is)) (list_within _ _ c.requires.lists _ _ c.loop-i-test.true).0

pub returns-clause-none : goal.returns-clause-none
returns-clause-none c =
    no_first _ c.nodes-nodes.ensures.ends _ c.requires.lists _ _ _ c.loop-i-test.false c.loop-i.invariant
