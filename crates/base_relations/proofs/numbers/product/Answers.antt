use Rattle.std.specs.Prelude.{FitsSigned}
use Rattle.std.specs.Int.{w128}
use Rattle.std.proofs.Common.{rules, sym}
use Rattle.std.proofs.lemmas.Int.{to_z-of_z}
use Rattle.base_relations.proofs.Limits.{limited_unfit}
use Rattle.base_relations.proofs.numbers.product.Goals as goal

pub returns-in-None : goal.returns-in-None
returns-in-None c =
    let fit_a : FitsSigned w128 c.args.a = search rules in
    let fit_b : FitsSigned w128 c.args.b = search rules in
    sym (simp to_z-of_z at (limited_unfit _ c.in-None.ensures))
