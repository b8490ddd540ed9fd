use Rattle.std.proofs.Common.{◌≡◌, drop}
use Rattle.std.specs.List.{list_all}
use Rattle.frames.specs.Heap.{own_fields}
use Rattle.entries.specs.inside.Cells.{has_own, has_value}
use Rattle.entries.proofs.cells.has_own.Given as goal

abbrev pub invariant-loop-place : goal.invariant-loop-place
invariant-loop-place l =
    has_own l.w l.heap l.fields l.class ≡ list_all (has_value l.w l.heap l.fields) (own_fields l.class l.place (drop l.place l.declared))
