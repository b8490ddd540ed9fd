use Rattle.std.proofs.Common.{◌≡◌, ◌<◌, drop, ℕ, false, nat_eq}
use Rattle.std.specs.List.{starts_with}
use Rattle.cost_words.proofs.Cuts.{colon}
use Rattle.cost_words.proofs.target.place_of_colon.Given as goal

abbrev pub invariant-loop-place : goal.invariant-loop-place
invariant-loop-place l = (k : ℕ) → k < l.place → starts_with nat_eq (drop k l.word) colon ≡ false
