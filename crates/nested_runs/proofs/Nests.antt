-- Each step keeps the nest; nests are flat runs, and flat runs are nests.
use Rattle.std.proofs.Common.{◌≡◌, ℕ, ◌+◌, List, [], ◌∷◌, subst, arith}
use Rattle.nested_runs.specs.Nest.{Machine, Went, stays, moved, called, Done, done, Nest, base, above}
use Rattle.nested_runs.specs.Stacks.{Step, move, start, return, Steps, here, next}

-- what is nested at one cost is nested at an equal one
pub nest_at : {A E : Type 0} {m : Machine A E} {first : A} {s : List A} {c k : ℕ} → c ≡ k → Nest m first s c → Nest m first s k
nest_at {m = m} {first = first} {s = s} e n = subst (λ i. Nest m first s i) e n

-- what the running activation goes through is done in the nest
pub nest_went :
    {A E : Type 0} {m : Machine A E} {first b d : A} {rest : List A} {c : ℕ} (k : ℕ)
    → Nest m first (b ∷ rest) c → ((a : A) (i : ℕ) → Went m a i b → Went m a (i + k) d) → Nest m first (d ∷ rest) (c + k)
nest_went k (base g) more = base (more _ _ g)
nest_went k (above {c = c} {k = i} {j = j} n st g) more = nest_at (omega arith) (above n st (more _ _ g))

-- a move keeps the nest
pub nest_moves :
    {A E : Type 0} {m : Machine A E} {first b d : A} {rest : List A} {c k : ℕ}
    → Nest m first (b ∷ rest) c → m.moves b k d → Nest m first (d ∷ rest) (c + k)
nest_moves n mv = nest_went _ n (λ a i g. moved g mv)

-- a start keeps the nest
pub nest_starts :
    {A E : Type 0} {m : Machine A E} {first w b : A} {rest : List A} {c k : ℕ}
    → Nest m first (w ∷ rest) c → m.starts w k b → Nest m first (b ∷ w ∷ rest) (c + k)
nest_starts {c = c} {k = k} n st = nest_at (omega arith) (above n st stays)

-- an end with its resume keeps the nest
pub nest_returns :
    {A E : Type 0} {m : Machine A E} {first d w r : A} {e : E} {rest : List A} {c k : ℕ}
    → Nest m first (d ∷ w ∷ rest) c → m.ends d k e → m.resumes w e r → Nest m first (r ∷ rest) (c + k)
nest_returns {k = k} (above {c = c} {k = i} {j = j} n st g) en re =
    nest_at (omega arith) (nest_went _ n (λ a h before. called before st g en re))

-- the end of the first activation, when it alone is open
pub nest_done :
    {A E : Type 0} {m : Machine A E} {first d : A} {e : E} {c k : ℕ}
    → Nest m first (d ∷ []) c → m.ends d k e → Done m first (c + k) e
nest_done (base g) en = done g en

-- one step of the stack, whichever it is
pub nest_step :
    {A E : Type 0} {m : Machine A E} {first : A} {s t : List A} {c k : ℕ}
    → Nest m first s c → Step m s k t → Nest m first t (c + k)
nest_step n (move mv) = nest_moves n mv
nest_step n (start st) = nest_starts n st
nest_step n (return en re) = nest_returns n en re

-- what a flat run has done on top of a nest is a nest
pub nest_steps :
    {A E : Type 0} {m : Machine A E} {first : A} {s t : List A} {c k : ℕ}
    → Nest m first s c → Steps m s k t → Nest m first t (c + k)
nest_steps {c = c} n here = nest_at (omega arith) n
nest_steps {c = c} n (next {c = j} {k = k} g x) = nest_at (omega arith) (nest_step (nest_steps n g) x)

-- a flat run from one activation is a nest
pub nest_of_steps :
    {A E : Type 0} {m : Machine A E} {first : A} {s : List A} {c : ℕ}
    → Steps m (first ∷ []) c s → Nest m first s c
nest_of_steps {c = c} g = nest_at (omega arith) (nest_steps (base stays) g)

-- ---- and back

pub steps_at : {A E : Type 0} {m : Machine A E} {s t : List A} {c k : ℕ} → c ≡ k → Steps m s c t → Steps m s k t
steps_at {m = m} {s = s} {t = t} e g = subst (λ i. Steps m s i t) e g

-- one run behind another
pub steps_append :
    {A E : Type 0} {m : Machine A E} {s t u : List A} {c k : ℕ}
    → Steps m s c t → Steps m t k u → Steps m s (c + k) u
steps_append {c = c} g here = steps_at (omega arith) g
steps_append {c = c} g (next {c = j} {k = k} h x) = steps_at (omega arith) (next (steps_append g h) x)

-- what an activation went through is a flat run that leaves alone what lies below
pub steps_of_went :
    {A E : Type 0} {m : Machine A E} {a b : A} {c : ℕ}
    → Went m a c b → (rest : List A) → Steps m (a ∷ rest) c (b ∷ rest)
steps_of_went stays rest = here
steps_of_went (moved g mv) rest = next (steps_of_went g rest) (move mv)
steps_of_went (called {w = w} {c = c} {k = k} {j = j} {i = i} g st h en re) rest =
    steps_at (omega arith) (next (steps_append (next (steps_of_went g rest) (start st)) (steps_of_went h (w ∷ rest))) (return en re))

-- a nest is a flat run from its first activation
pub steps_of_nest :
    {A E : Type 0} {m : Machine A E} {first : A} {s : List A} {c : ℕ}
    → Nest m first s c → Steps m (first ∷ []) c s
steps_of_nest (base g) = steps_of_went g []
steps_of_nest (above {w = w} {rest = rest} {c = c} {k = k} {j = j} n st g) =
    steps_at (omega arith) (steps_append (next (steps_of_nest n) (start st)) (steps_of_went g (w ∷ rest)))
