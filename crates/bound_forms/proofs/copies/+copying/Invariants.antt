use Rattle.std.proofs.Common.{◌≡◌, ◌++◌, map, drop}
use Rattle.bound_terms.specs.Bounds.{term_of}
use Rattle.bound_forms.proofs.copies.+copying.Given as goal

abbrev pub invariant-copy_all-loop-bound : goal.invariant-copy_all-loop-bound
invariant-copy_all-loop-bound l = map term_of l.copies.items ++ map term_of (drop l.bound-index l.bounds) ≡ map term_of l.bounds
