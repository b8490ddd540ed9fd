-- The counters once more, finer: a counter is a frame, and a turn within it that takes one step or waits.
use Rattle.std.specs.Prelude.{ℕ, suc, List, [], ◌∷◌}
use Rattle.nested_runs.specs.Nest.{Machine}

pub data Layer : Type 0 where
  Frame : ℕ → Layer
  Turn : ℕ → Layer

-- a frame starts a turn for nothing, and a turn calls a frame
pub data LayerStarts : Layer → ℕ → Layer → Type 0 where
  turns : {n : ℕ} → LayerStarts (Frame n) 0 (Turn n)
  calls : {n : ℕ} → LayerStarts (Turn (suc n)) 2 (Frame n)

-- a turn ends as it has counted down, or as its frame returns, and the frame then ends for nothing
pub data LayerEnds : Layer → ℕ → ℕ → Type 0 where
  counted : {n : ℕ} → LayerEnds (Turn (suc n)) 1 n
  returning : {n : ℕ} → LayerEnds (Turn n) 1 n
  left : {n : ℕ} → LayerEnds (Frame n) 0 n

-- what waits goes on with what is left
pub data LayerResumes : Layer → ℕ → Layer → Type 0 where
  frame : {w n : ℕ} → LayerResumes (Frame w) n (Frame n)
  turn : {w n : ℕ} → LayerResumes (Turn w) n (Turn n)

abbrev pub looped : Machine Layer ℕ
looped = record {
  moves = λ a k b. ⊥;
  starts = λ w k b. LayerStarts w k b;
  ends = λ d k e. LayerEnds d k e;
  resumes = λ w e r. LayerResumes w e r;
}

-- a counter is seen as its turn, in the frame as it stood when the turn began
pub data SeesTurn : ℕ → List Layer → Type 0 where
  sees_turn : {n f : ℕ} → SeesTurn n (Turn n ∷ Frame f ∷ [])
