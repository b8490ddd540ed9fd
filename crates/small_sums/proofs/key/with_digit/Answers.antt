use Rattle.std.proofs.lemmas.Int.{to_z-of_z}
use Rattle.std.specs.Prelude.{FitsSigned}
use Rattle.std.specs.Int.{w128}
use Rattle.small_sums.specs.Keys.{IsResidue}
use Rattle.small_sums.proofs.Residues.{digit_residue}
use Rattle.small_sums.proofs.key.with_digit.Goals as goal

pub returns : goal.returns
returns c =
    let fits : FitsSigned w128 c.args.digit = c.ranges.digit in
    let here : IsResidue c.args.digit c.residue.result = simp to_z-of_z at c.residue.ensures in
    λ z h. digit_residue c.args.digit z c.residue.result c.args.key _ here h c.low.ensures
