use Rattle.std.proofs.Common.{ℕ, List, ◌≡◌, [], ◌∷◌, ◌++◌, ◌∙◌, ◌+◌, get_or, ap, sym, subst, arith}
use Rattle.std.proofs.lemmas.List.{get_or_default}
use Rattle.plain_graphs.proofs.Listings.{ArePutTo, put_none, put_more, put_all}
use Rattle.plain_graphs.proofs.listing.put_before.Goals as goal

pub loop-tail-init : goal.loop-tail-init
loop-tail-init c = put_none _ _ _

pub loop-tail-preserved : goal.loop-tail-preserved
loop-tail-preserved c =
    let tail = c.as_slice.ensures ∙ (c.tail-item.is ∙ get_or_default c.args.tails.now c.loop-tail.tail-index c.tail-item.result [] c.loop-tail-test.true) in
    let w : c.in_ok-nodes.nodes.items ≡ c.args.x ∷ get_or c.args.tails.now c.loop-tail.tail-index [] = c.in_ok-nodes.ensures ∙ ap (λ (xs : List ℕ). c.args.x ∷ xs) tail in
    subst (ArePutTo c.args.x c.args.tails.now (c.loop-tail.tail-index + 1) c.args.lists.now.items) (sym (c.in_ok-push.ensures.items ∙ ap (λ (xs : List ℕ). c.loop-tail.lists.items ++ xs ∷ []) w)) (put_more _ _ _ _ _ c.loop-tail.invariant)

pub returns : goal.returns
returns c =
    let a = c.loop-tail-test.false in
    let b = c.loop-tail.auto.tail-index-end in
    put_all _ _ c.loop-tail.tail-index _ _ (omega arith) c.loop-tail.invariant
