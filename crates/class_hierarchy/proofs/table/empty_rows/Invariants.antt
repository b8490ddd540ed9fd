use Rattle.std.proofs.Common.{◌≡◌, ℕ, [], length}
use Rattle.class_hierarchy.specs.Tables.{row_at}
use Rattle.class_hierarchy.proofs.table.empty_rows.Given as goal

abbrev pub invariant-loop : goal.invariant-loop
invariant-loop l = (length l.rows.items ≡ l.counter) × ((c : ℕ) → row_at l.rows.items c ≡ [])
