use Rattle.std.proofs.Common.{◌≡◌, true, false, sym, ◌∙◌}
use Rattle.flow_cases.proofs.Joined.{joined_above, below_join}
use Rattle.flow_cases.proofs.slots.SlotsLattice.join.Goals as goal

-- src/slots.rt:60:13
pub returns-then-leq-clause-joined : goal.returns-then-leq-clause-joined
returns-then-leq-clause-joined c = joined_above c.args.self.now c.args.other.now c.requires (sym c.leq.ensures ∙ c.if-leq.true)

-- src/slots.rt:67:5
pub returns-clause-changed : goal.returns-clause-changed
returns-clause-changed c = λ same.
    let up = below_join c.args.self.now c.args.other.now c.requires (sym same ∙ c.drop.view_is ∙ c.in_ok-self-inside.ensures) in
    let both : true ≡ false = sym up ∙ sym c.leq.ensures ∙ c.if-leq.false in
    absurd cc
