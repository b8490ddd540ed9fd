use Rattle.std.specs.Prelude.{◌≡◌, ℤ, pos, List, [], ◌∷◌, slice_set, replicate}
use Rattle.std.proofs.Common.{rules, ap, ◌∙◌}
use Rattle.lin_rows.specs.Linear.{Linear}
use Rattle.small_rank.proofs.TermLists.{one_made, made_ok, IsMadeOf}
use Rattle.small_rank.proofs.functions.single.Goals as goal

pub returns : goal.returns
returns c =
    let zeros : c.in_ok-list.list.items ≡ replicate c.args.sizes (pos 0) = c.in_ok-list.ensures.items_if_clones_equal (λ y h. h) in
    let set : c.deref.result.now ≡ slice_set c.in_ok-list.list.items c.args.i c.args.a = search rules in
    let list = set ∙ ap (λ (xs : List ℤ). slice_set xs c.args.i c.args.a) zeros in
    let f : Linear = record { coefficients = c.deref.result.now; constant = pos 0 } in
    made_ok (λ l. IsMadeOf c.args.sizes l ((c.args.i, c.args.a) ∷ [])) c.new.result f
    (one_made c.args.sizes c.args.i c.args.a f c.requires.place c.requires.unit (ap (λ (xs : List ℤ). record { coefficients = xs; constant = pos 0 }) list)) c.new.ensures
