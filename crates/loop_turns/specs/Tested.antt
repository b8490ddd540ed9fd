-- Machines of numbers, each given by its tests: which of them move, start, end and resume, at which cost.
use Rattle.std.specs.Prelude.{◌≡◌, ℕ, Bool, true}
use Rattle.nested_runs.specs.Nest.{Machine}

pub record Tested : Type 0 where
  pub moves : ℕ → ℕ → ℕ → Bool
  pub starts : ℕ → ℕ → ℕ → Bool
  pub ends : ℕ → ℕ → ℕ → Bool
  pub resumes : ℕ → ℕ → ℕ → Bool

abbrev pub machine_of : Tested → Machine ℕ ℕ
machine_of t = record {
  moves = λ a k b. t.moves a k b ≡ true;
  starts = λ w k b. t.starts w k b ≡ true;
  ends = λ d k e. t.ends d k e ≡ true;
  resumes = λ w e r. t.resumes w e r ≡ true;
}
