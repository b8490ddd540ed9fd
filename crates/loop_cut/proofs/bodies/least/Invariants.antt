use Rattle.std.proofs.Common.{ℕ, List, ◌++◌, take}
use Rattle.loop_cut.specs.inside.Gathered.{IsLeastOf}
use Rattle.loop_cut.proofs.bodies.least.Given as goal

abbrev pub invariant-loop-n : goal.invariant-loop-n
invariant-loop-n l = (xs : List ℕ) → IsLeastOf xs l.fn.so_far → IsLeastOf (xs ++ take l.n-index l.numbers) l.least
