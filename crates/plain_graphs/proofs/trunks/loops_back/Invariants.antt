use Rattle.std.proofs.Common.{ℕ, ◌<◌, [], get_or}
use Rattle.plain_graphs.specs.Plain.{LoopsBackBy}
use Rattle.plain_graphs.proofs.trunks.loops_back.Given as goal

abbrev pub invariant-loop-way : goal.invariant-loop-way
invariant-loop-way l =
    (k : ℕ) → k < l.way-index → LoopsBackBy l.p.graph.now l.p.root l.h l.x (get_or l.p.lists.items k []) → ⊥
