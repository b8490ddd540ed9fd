use Rattle.std.specs.Prelude.{[], ◌∷◌, FitsSigned}
use Rattle.std.specs.Int.{w128}
use Rattle.std.proofs.Common.{rules}
use Rattle.std.proofs.lemmas.Int.{to_z-of_z}
use Rattle.small_rank.proofs.Answered.{own_size, tried_searched}
use Rattle.small_rank.proofs.functions.by_two.Goals as goal

pub tried-requires : goal.tried-requires
tried-requires c = own_size c.args.sizes c.in_ok-function.function c.in_ok-function.ensures.0

pub returns : goal.returns
returns c =
    let fits_a : FitsSigned w128 c.args.a = search rules in
    let fits_b : FitsSigned w128 c.args.b = search rules in
    let h = simp to_z-of_z at c.in_ok-function.ensures in
    tried_searched c.args.steps.now c.args.sizes c.in_ok-function.function ((c.args.i, c.args.a) ∷ (c.args.j, c.args.b) ∷ []) c.tried.result h.0 h.1 c.requires.before c.tried.ensures
