use Rattle.std.proofs.Common.{rules, ℕ, ◌+◌, ◌<◌, ℤ, pos, List, length, get_or, drop, sym, subst}
use Rattle.std.specs.Prelude.{All, FitsSigned}
use Rattle.std.specs.Int.{w128}
use Rattle.std.proofs.lemmas.List.{drop_more}
use Rattle.std.proofs.lemmas.List.Elements.{All-cons}
use Rattle.bound_normal.proofs.normalizing.see_numbers.Goals as goal

seen : (xs : List ℤ) (i : ℕ) → i < length xs → FitsSigned w128 (get_or xs i (pos 0)) → (All (FitsSigned w128) (drop i xs) → All (FitsSigned w128) xs) → All (FitsSigned w128) (drop (i + 1) xs) → All (FitsSigned w128) xs
seen xs i h fit was rest = was (subst (All (FitsSigned w128)) (sym (drop_more xs i (pos 0) h)) (All-cons (FitsSigned w128) (get_or xs i (pos 0)) (drop (i + 1) xs) fit rest))

pub loop-number-preserved : goal.loop-number-preserved
loop-number-preserved c =
    let fit : FitsSigned w128 (get_or c.args.numbers.now c.loop-number.number-index (pos 0)) = search rules in
    seen c.args.numbers.now c.loop-number.number-index c.loop-number-test.true fit c.loop-number.invariant
