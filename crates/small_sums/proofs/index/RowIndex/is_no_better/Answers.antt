use Rattle.std.specs.Prelude.{◌≡◌, ◌≤ℤ◌, List, FitsSigned}
use Rattle.std.specs.Int.{w128}
use Rattle.std.proofs.Common.{arith, rules, ap, ◌∙◌}
use Rattle.std.proofs.lemmas.Int.{ints}
use Rattle.lin_rows.specs.declared.row.Row.{Row}
use Rattle.lin_rows.specs.Rows.{lins}
use Rattle.small_sums.specs.inside.Search.{constant_sum}
use Rattle.small_sums.proofs.Matches.{no_better}
use Rattle.small_sums.proofs.index.RowIndex.is_no_better.Goals as goal

pub returns-in-Some-Some : goal.returns-in-Some-Some
returns-in-Some-Some c =
    let first : FitsSigned w128 c.in-Some-Some.sum.constant = search rules in
    let second : FitsSigned w128 c.in-Some-Some.constant = search rules in
    let is : c.in-Some-Some.constant ≡ constant_sum (lins c.args.self.now) c.args.terms = (rw c.in-Some-Some.is-1 at c.constant_of.ensures) ∙ ap (λ (rows : List Row). constant_sum (lins rows) c.args.terms) c.self.view_is in
    λ below goal.
    let le : c.in-Some-Some.sum.constant ≤ℤ c.in-Some-Some.constant = grind (arith, ints) in
    no_better (lins c.args.self.now) c.args.terms c.args.best c.in-Some-Some.sum c.in-Some-Some.constant c.in-Some-Some.is-0 is le goal
