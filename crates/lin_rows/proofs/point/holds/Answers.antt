use Rattle.std.specs.Prelude.{pos, FitsSigned, ◌≡◌, ◌≤ℤ◌, Ok}
use Rattle.std.specs.Int.{w128}
use Rattle.std.proofs.Common.{arith, rules, sym, ◌∙◌}
use Rattle.std.proofs.lemmas.Int.{ints}
use Rattle.lin_rows.specs.Combining.{value_made}
use Rattle.lin_rows.proofs.Meaning.{holds-there, holds-back}
use Rattle.lin_rows.proofs.point.holds.Goals as goal

pub returns-clause-exact : goal.returns-clause-exact
returns-clause-exact c =
    let row = c.args.row.now.lin in
    let z = c.in_ok-value.value in
    let made : value_made row c.args.p.now.t c.args.p.now.v ≡ Ok z = sym c.value.ensures ∙ c.in_ok-value.was in
    let fit : FitsSigned w128 c.numerator.result = search rules in
    let same : c.numerator.result ≡ z.num = c.numerator.ensures.value in (
      λ h. let g : pos 0 ≤ℤ z.num = omega (arith, ints) in holds-there row c.args.p.now.t c.args.p.now.v z made g,
      λ h. let g : pos 0 ≤ℤ z.num = holds-back row c.args.p.now.t c.args.p.now.v z made h in grind (arith, ints),
    )
