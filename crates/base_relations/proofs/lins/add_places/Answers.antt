use Rattle.std.specs.Prelude.{pos, FitsSigned, MatchOption}
use Rattle.std.specs.Int.{w128}
use Rattle.std.proofs.Common.{◌≡◌, ◌+◌, ◌∙◌, ℤ, List, [], arith, rules, sym, subst, get_or, take, drop, Some, None}
use Rattle.std.proofs.lemmas.Int.{to_z-of_z}
use Rattle.base_relations.specs.Substitution.{places_added}
use Rattle.base_relations.proofs.Numbering.{places_some, places_none, places_end}
use Rattle.base_relations.proofs.lins.add_places.Goals as goal

pub returns-in_err-add_at-clause-answer : goal.returns-in_err-add_at-clause-answer
returns-in_err-add_at-clause-answer c =
    let i = c.loop-i.i in
    let xs = c.loop-i.places.items in
    let cs = c.args.coefficients.now in
    let fit_c : FitsSigned w128 c.args.c = search rules in
    let fit_e : FitsSigned w128 (get_or cs i (pos 0)) = search rules in
    let none = simp to_z-of_z at c.in_err-add_at.ensures.answer in
    let left : places_added (take i xs) (drop i xs) c.args.c (drop i cs) ≡ places_added [] c.args.places.now.items c.args.c cs = simp to_z-of_z at c.loop-i.invariant.left in
    rw c.from_residual.ensures (places_none xs c.args.c cs i _ (omega arith) (omega (arith, c.loop-i.invariant.same)) none left)

pub loop-i-preserved : goal.loop-i-preserved
loop-i-preserved c =
    let i = c.loop-i.i in
    let xs = c.loop-i.places.items in
    let cs = c.args.coefficients.now in
    let fit_c : FitsSigned w128 c.args.c = search rules in
    let fit_e : FitsSigned w128 (get_or cs i (pos 0)) = search rules in
    let added = simp to_z-of_z at c.in_ok-add_at.ensures.answer in
    let left : places_added (take i xs) (drop i xs) c.args.c (drop i cs) ≡ places_added [] c.args.places.now.items c.args.c cs = simp to_z-of_z at c.loop-i.invariant.left in
    let some = places_some xs c.args.c cs i added.0 _ (omega arith) (omega (arith, c.loop-i.invariant.same)) added.1 left in
    let now = subst (λ (ys : List ℤ). places_added (take (i + 1) ys) (drop (i + 1) ys) c.args.c (drop (i + 1) cs) ≡ places_added [] c.args.places.now.items c.args.c cs) (sym added.2) some in
    record { left = simp to_z-of_z now; same = c.in_ok-add_at.ensures.len ∙ c.loop-i.invariant.same }

pub returns-clause-answer : goal.returns-clause-answer
returns-clause-answer c =
    let fit_c : FitsSigned w128 c.args.c = search rules in
    let left : places_added (take c.loop-i.i c.loop-i.places.items) (drop c.loop-i.i c.loop-i.places.items) c.args.c (drop c.loop-i.i c.args.coefficients.now) ≡ places_added [] c.args.places.now.items c.args.c c.args.coefficients.now = simp to_z-of_z at c.loop-i.invariant.left in
    places_end c.loop-i.places.items c.args.c c.args.coefficients.now c.loop-i.i _ (omega arith) left
