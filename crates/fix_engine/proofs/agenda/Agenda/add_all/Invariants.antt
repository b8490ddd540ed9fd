use Rattle.std.proofs.Common.{ℕ, ◌<◌, slice_index, Contains}
use Rattle.fix_engine.specs.Agenda.{Grows}
use Rattle.fix_engine.proofs.agenda.Agenda.add_all.Given as goal

abbrev pub invariant-loop-edge : goal.invariant-loop-edge
invariant-loop-edge l =
    record { grows : Grows l.initial.self l.self l.edge-index; listed : (k : ℕ) → k < l.edge-index → Contains l.self.list (slice_index l.edges k) }
