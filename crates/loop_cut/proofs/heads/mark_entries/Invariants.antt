use Rattle.std.proofs.Common.{◌≡◌, ◌⊎◌, ◌↔◌, ℕ, length, take}
use Rattle.std.specs.Prelude.{Contains}
use Rattle.graph_core.specs.Marked.{IsMarked}
use Rattle.loop_cut.specs.declared.found.CodeLoop.{CodeLoop}
use Rattle.loop_cut.proofs.heads.mark_entries.Given as goal

abbrev pub invariant-loop-l : goal.invariant-loop-l
invariant-loop-l g = record {
  count : length g.marks.items ≡ length g.fn.marks.items;
  marked : (x : ℕ) → IsMarked g.marks.items x ↔ (IsMarked g.fn.marks.items x ⊎ ((l : CodeLoop) × Contains (take g.l-index g.loops) l × (l.entry ≡ x)));
}
