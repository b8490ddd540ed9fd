use Rattle.std.proofs.Common.{◌≡◌, true, false, sym, ◌∙◌}
use Rattle.null_flow.specs.inside.Lattice.{joined_with_below, below_unless_rise}
use Rattle.null_flow.proofs.fact.NullFactLattice.join.Goals as goal

pub returns-then-is_below-clause-joined : goal.returns-then-is_below-clause-joined
returns-then-is_below-clause-joined c = joined_with_below c.args.self.now c.args.other.now c.requires (sym c.is_below.ensures ∙ c.if-is_below.true)

pub returns-clause-changed : goal.returns-clause-changed
returns-clause-changed c = λ same.
    let up = below_unless_rise c.args.self.now c.args.other.now c.requires (sym same ∙ c.in_ok-self.ensures) in
    let both : true ≡ false = sym up ∙ sym c.is_below.ensures ∙ c.if-is_below.false in
    absurd cc
