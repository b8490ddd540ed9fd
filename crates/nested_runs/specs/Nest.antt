-- What a stack of calls has done: the calls that came back in brackets, one inside another, and the
-- calls that are open. (The valid paths of Sharir and Pnueli, Two approaches to interprocedural data
-- flow analysis, 1981, with what each step costs.)
use Rattle.std.specs.Prelude.{ℕ, ◌+◌, List, [], ◌∷◌}

-- A machine of activations. A state of an activation may move to another one; it may start a new
-- activation, and waits; it may end with a value. A state that waits may resume, in another one, with
-- the value that the activation ended with which it started. Moves, starts and ends have a cost. An end
-- and the resume behind it are one step, which costs what the end costs.
pub record Machine (A E : Type 0) : Type 1 where
  pub moves : A → ℕ → A → Type 0
  pub starts : A → ℕ → A → Type 0
  pub ends : A → ℕ → E → Type 0
  pub resumes : A → E → A → Type 0

-- what one activation went through, from one of its states to a later one, at a cost: moves, and calls
-- that came back, with all that was done in them
pub data Went {A E : Type 0} (m : Machine A E) : A → ℕ → A → Type 0 where
  stays : {a : A} → Went m a 0 a
  moved : {a b d : A} {c k : ℕ} → Went m a c b → m.moves b k d → Went m a (c + k) d
  called :
      {a w b d r : A} {e : E} {c k j i : ℕ}
      → Went m a c w → m.starts w k b → Went m b j d → m.ends d i e → m.resumes w e r
      → Went m a (c + (k + (j + i))) r

-- an activation from its start to its end
pub data Done {A E : Type 0} (m : Machine A E) : A → ℕ → E → Type 0 where
  done : {a d : A} {e : E} {c k : ℕ} → Went m a c d → m.ends d k e → Done m a (c + k) e

-- the nest of open activations, the running one first, and the cost of all that was done since the first
-- of them started. One that waits stands as it stood before its call.
pub data Nest {A E : Type 0} (m : Machine A E) (first : A) : List A → ℕ → Type 0 where
  base : {b : A} {c : ℕ} → Went m first c b → Nest m first (b ∷ []) c
  above :
      {w b d : A} {rest : List A} {c k j : ℕ}
      → Nest m first (w ∷ rest) c → m.starts w k b → Went m b j d
      → Nest m first (d ∷ w ∷ rest) (c + (k + j))
