-- Nests of a machine within another one, and of a finer one.
use Rattle.std.proofs.Common.{ℕ, ◌+◌, List, ◌∷◌, ◌++◌, sym, subst}
use Rattle.std.proofs.lemmas.List.{append-nil}
use Rattle.nested_runs.specs.Nest.{Machine, Went, stays, moved, called, Done, done, Nest, base, above}
use Rattle.nested_runs.specs.Stacks.{Step, move, start, return, Steps, here, next}
use Rattle.nested_runs.specs.Refining.{IsWithin, Seen, nothing, beside, Becomes, Refines}
use Rattle.nested_runs.proofs.Nests.{steps_append, nest_steps, steps_of_nest}

module _ {A E : Type 0} {n m : Machine A E} (within : IsWithin n m) where
  went_within : {a b : A} {c : ℕ} → Went n a c b → Went m a c b
  went_within stays = stays
  went_within (moved g mv) = moved (went_within g) (within.moves mv)
  went_within (called g st inner en re) =
      called (went_within g) (within.starts st) (went_within inner) (within.ends en) (within.resumes re)

  -- what is done in the one machine is done in the other
  pub done_within : {a : A} {e : E} {c : ℕ} → Done n a c e → Done m a c e
  done_within (done g en) = done (went_within g) (within.ends en)

  -- a nest of the one machine is one of the other
  pub nest_within : {first : A} {s : List A} {c : ℕ} → Nest n first s c → Nest m first s c
  nest_within (base g) = base (went_within g)
  nest_within (above below st g) = above (nest_within below) (within.starts st) (went_within g)

-- ---- a finer machine

-- what a finer machine has for a stack: a stack of its own that is seen so, and a run to it
pub record Carried {A B D : Type 0} (n : Machine B D) (Sees : A → List B → Type 0) (before : List B) (k : ℕ) (s : List A) : Type 0 where
  pub stack : List B
  pub seen : Seen Sees s stack
  pub made : Steps n before k stack

module _ {A E B D : Type 0} {m : Machine A E} {n : Machine B D} {Sees : A → List B → Type 0} (refines : Refines m n Sees) where
  -- the top of the stack is seen anew
  on_top :
      {before bs : List B} {a : A} {s : List A} {k : ℕ}
      → Becomes n Sees before k a bs → Seen Sees s bs → Carried n Sees before k (a ∷ s)
  on_top becomes seen = record { stack = becomes.list ++ _; seen = beside becomes.seen seen; made = becomes.made }

  -- a step of the machine is some steps of the finer one
  step_refined : {s t : List A} {bs : List B} {k : ℕ} → Step m s k t → Seen Sees s bs → Carried n Sees bs k t
  step_refined (move mv) (beside {bs = bs} sees seen) = on_top (refines.over_move mv sees bs) seen
  step_refined (start st) (beside {bs = bs} sees seen) = on_top (refines.over_start st sees bs) (beside sees seen)
  step_refined (return en re) (beside sees_d (beside {bs = bs} sees_w seen)) = on_top (refines.over_return en re sees_d sees_w bs) seen

  -- one run behind another
  carried_on :
      {bs : List B} {t u : List A} {c k : ℕ}
      → Carried n Sees bs c t → ((cs : List B) → Seen Sees t cs → Carried n Sees cs k u) → Carried n Sees bs (c + k) u
  carried_on before go =
      let now = go before.stack before.seen in
      record { stack = now.stack; seen = now.seen; made = steps_append before.made now.made }

  steps_refined : {s t : List A} {bs : List B} {c : ℕ} → Steps m s c t → Seen Sees s bs → Carried n Sees bs c t
  steps_refined here seen = record { stack = _; seen = seen; made = here }
  steps_refined (next g x) seen = carried_on (steps_refined g seen) (λ cs sees. step_refined x sees)

-- a nest of the machine is, seen list by list, one of the finer machine, in which the first activation
-- became what the machine's first one is seen as
pub nest_refined :
    {A E B D : Type 0} {m : Machine A E} {n : Machine B D} {Sees : A → List B → Type 0} {first : A} {s : List A} {x : B} {xs : List B} {c j : ℕ}
    → Refines m n Sees → Sees first xs → Nest n x xs j → Nest m first s c
    → (stack : List B) × (Seen Sees s stack × Nest n x stack (j + c))
nest_refined {n = n} {x = x} {xs = xs} {j = j} refines sees begun nest =
    let carried = steps_refined refines (steps_of_nest nest) (beside sees nothing) in
    let there = subst (λ ys. Nest n x ys j) (sym (append-nil xs)) begun in
    (carried.stack, (carried.seen, nest_steps there carried.made))
