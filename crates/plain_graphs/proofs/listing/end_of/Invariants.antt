use Rattle.std.proofs.Common.{ℕ, ◌<◌, ◌↔◌, length, drop}
use Rattle.graph_core.specs.Paths.{Leads}
use Rattle.plain_graphs.proofs.listing.end_of.Given as goal

abbrev pub invariant-loop-c : goal.invariant-loop-c
invariant-loop-c l =
    record { at : l.at < length l.g; left : (b : ℕ) → Leads l.g l.a l.rest b ↔ Leads l.g l.at (drop l.c-index l.rest) b }
