use Rattle.std.proofs.Common.{ap, arith}
use Rattle.fix_engine.specs.Agenda.{Waiting}
use Rattle.fix_engine.proofs.Agendas.{IsMarked-push}
use Rattle.fix_engine.proofs.agenda.Agenda.add.Goals as goal

pub invariant_of-self-then-not-index : goal.invariant_of-self-then-not-index
invariant_of-self-then-not-index c =
    let count = ap (λ (w : Waiting). w.edges) c.self.view_is in
    rw c.in_ok-push_back.ensures.items (IsMarked-push _ _ _ (omega arith) c.self.invariant)
