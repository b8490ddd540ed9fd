-- The laws of turns, at each machine of numbers and all places of them.
use Rattle.std.specs.Prelude.{ℕ, List, [], ◌∷◌}
use Rattle.nested_runs.specs.Nest.{Went, Done, Nest}
use Rattle.nested_runs.specs.Keeping.{Keeps}
use Rattle.nested_runs.specs.Refining.{Seen}
use Rattle.loop_turns.specs.Regions.{Passage}
use Rattle.loop_turns.specs.Turns.{Places, Turn, turn, Returned, turns, AreLooped, IsOnTop, Sees}
use Rattle.loop_turns.specs.Tested.{Tested, machine_of}

-- A nest of activations is one of turns at the same cost. It begins with the turn of the first activation's method, and
-- each activation is seen in it as its home's turn and those around.
abbrev pub NestsAreTurns : Type 0
NestsAreTurns =
    (t : Tested) (at : Places ℕ) (first : ℕ) (stack : List ℕ) (c : ℕ)
    → AreLooped (machine_of t) at → Passage [] (at.place first) (at.home first) → Nest (machine_of t) first stack c
    → (list : List (Turn ℕ)) × (Seen (λ a xs. Sees at a xs) stack list × Nest (turns (machine_of t) at) (turn first []) list c)

-- so the running activation's turn is on top
abbrev pub RunningIsOnTop : Type 0
RunningIsOnTop =
    (t : Tested) (at : Places ℕ) (first now : ℕ) (rest : List ℕ) (c : ℕ)
    → AreLooped (machine_of t) at → Passage [] (at.place first) (at.home first) → Nest (machine_of t) first (now ∷ rest) c
    → IsOnTop (machine_of t) at (turn first []) now c

-- a call that is done is its method's turn, done
abbrev pub CallsAreTurns : Type 0
CallsAreTurns =
    (t : Tested) (at : Places ℕ) (first e c : ℕ)
    → AreLooped (machine_of t) at → Passage [] (at.place first) (at.home first) → Done (machine_of t) first c e
    → Done (turns (machine_of t) at) (turn first []) c (Returned e)

-- what an activation went through since it started, and over the whole of a call, is kept by each step
abbrev pub HistoryIsKept : Type 0
HistoryIsKept =
    (t : Tested)
    → Keeps (machine_of t) (λ s a. (c : ℕ) × Went (machine_of t) s c a) (λ a e. (c : ℕ) × Done (machine_of t) a c e)
