use Rattle.std.proofs.Common.{◌≡◌, ◌≢◌, ◌<◌, ◌≤◌, length, ℕ, get_or, []}
use Rattle.lp_lines.specs.inside.Lines.{IsNext}
use Rattle.lp_lines.proofs.table.put_in_all.Given as goal

abbrev pub invariant-loop-h : goal.invariant-loop-h
invariant-loop-h l = record {
  size : length l.lines.items ≡ length l.fn.lines.items;
  done : (g : ℕ) → g < l.h → g ≢ l.line → IsNext l.column l.pivot (get_or l.fn.lines.items g []) (get_or l.lines.items g []);
  left : (g : ℕ) → l.h ≤ g → get_or l.lines.items g [] ≡ get_or l.fn.lines.items g [];
}
