use Rattle.std.proofs.Common.{◌&&◌, sym, ap, ◌∙◌}
use Rattle.world.specs.Standings.{is_several}
use Rattle.world.proofs.Standings.{override_by}
use Rattle.world.proofs.world.World.is_met_across.Goals as goal

pub returns-then-standing : goal.returns-then-standing
returns-then-standing c = λ k r h.
    c.is_several.ensures
    ∙ ap (λ b. b && is_several c.args.standing.now.chain.packages) (sym c.if-standing.true)
    ∙ override_by c.args.self.now k c.args.m r c.args.standing.now h (rw c.method_at.ensures at (sym c.is_private.ensures ∙ c.if-not-is_private.true))

pub returns-else-standing : goal.returns-else-standing
returns-else-standing c = λ k r h.
    c.if-standing.false
    ∙ ap (λ b. b && is_several c.args.standing.now.chain.packages) (sym c.if-standing.false)
    ∙ override_by c.args.self.now k c.args.m r c.args.standing.now h (rw c.method_at.ensures at (sym c.is_private.ensures ∙ c.if-not-is_private.true))
