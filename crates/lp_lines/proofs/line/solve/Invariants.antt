use Rattle.std.proofs.Common.{◌≡◌, ◌<◌, ◌≤◌, length, ℕ, nat_eq}
use Rattle.std.specs.Prelude.{Ok}
use Rattle.lp_lines.specs.Numbers.{place_of}
use Rattle.lp_lines.specs.inside.Lines.{solved_unless}
use Rattle.lp_lines.proofs.line.solve.Given as goal

abbrev pub invariant-loop-p : goal.invariant-loop-p
invariant-loop-p l = record {
  size : length l.line.items ≡ length l.fn.line.items;
  made : (u : ℕ) → u < l.p → solved_unless (nat_eq u l.column) l.k (place_of l.fn.line.items u) ≡ Ok (place_of l.line.items u);
  left : (u : ℕ) → l.p ≤ u → place_of l.line.items u ≡ place_of l.fn.line.items u;
}
