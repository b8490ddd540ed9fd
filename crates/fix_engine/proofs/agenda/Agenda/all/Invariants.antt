use Rattle.std.proofs.Common.{◌≡◌, ℕ, ◌<◌, length, slice_index}
use Rattle.fix_engine.proofs.agenda.Agenda.all.Given as goal

abbrev pub invariant-loop-edge : goal.invariant-loop-edge
invariant-loop-edge l =
    record { count : length l.waiting.items ≡ l.edge; at : (k : ℕ) → k < l.edge → slice_index l.waiting.items k ≡ k }
