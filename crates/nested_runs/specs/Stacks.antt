-- Flat runs: a stack of activations, the running one first, and one step after another.
use Rattle.std.specs.Prelude.{ℕ, ◌+◌, List, ◌∷◌}
use Rattle.nested_runs.specs.Nest.{Machine}

-- one step: the running activation moves; it waits and another one starts; or it ends, and the one that
-- waits for it resumes
pub data Step {A E : Type 0} (m : Machine A E) : List A → ℕ → List A → Type 0 where
  move : {a b : A} {rest : List A} {k : ℕ} → m.moves a k b → Step m (a ∷ rest) k (b ∷ rest)
  start : {w b : A} {rest : List A} {k : ℕ} → m.starts w k b → Step m (w ∷ rest) k (b ∷ w ∷ rest)
  return :
      {d w r : A} {e : E} {rest : List A} {k : ℕ}
      → m.ends d k e → m.resumes w e r → Step m (d ∷ w ∷ rest) k (r ∷ rest)

-- any number of steps, with the sum of their costs
pub data Steps {A E : Type 0} (m : Machine A E) : List A → ℕ → List A → Type 0 where
  here : {s : List A} → Steps m s 0 s
  next : {s t u : List A} {c k : ℕ} → Steps m s c t → Step m t k u → Steps m s (c + k) u
