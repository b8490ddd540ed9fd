use Rattle.std.proofs.Common.{ℕ, List, [], ◌∷◌, ◌∙◌, get_or, ap}
use Rattle.std.proofs.lemmas.List.{get_or_default}
use Rattle.plain_graphs.proofs.Listings.{trunk_is}
use Rattle.plain_graphs.proofs.trunks.trunk_of.Goals as goal

pub returns : goal.returns
returns c =
    let first = c.in-Some.ensures.some in
    let rest = c.as_slice.ensures ∙ (c.index-lists-i.is ∙ get_or_default c.args.lists.now c.in-Some.i c.index-lists-i.result [] first.0) in
    trunk_is c.args.g.now c.args.root c.args.b (get_or c.args.lists.now c.in-Some.i []) _ (c.in_ok-nodes.ensures ∙ ap (λ (xs : List ℕ). c.args.root ∷ xs) rest) first.1
