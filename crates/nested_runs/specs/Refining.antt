-- One machine within another, and one machine seen as a finer one.
use Rattle.std.specs.Prelude.{ℕ, List, [], ◌∷◌, ◌++◌}
use Rattle.nested_runs.specs.Nest.{Machine}
use Rattle.nested_runs.specs.Stacks.{Steps}

-- each step of the one machine is a step of the other, at the same cost
pub record IsWithin {A E : Type 0} (n m : Machine A E) : Type 0 where
  pub moves : {a b : A} {k : ℕ} → n.moves a k b → m.moves a k b
  pub starts : {w b : A} {k : ℕ} → n.starts w k b → m.starts w k b
  pub ends : {d : A} {e : E} {k : ℕ} → n.ends d k e → m.ends d k e
  pub resumes : {w r : A} {e : E} → n.resumes w e r → m.resumes w e r

-- the finer stack is, one behind another, the lists as which the activations of the stack are seen
pub data Seen {A B : Type 0} (Sees : A → List B → Type 0) : List A → List B → Type 0 where
  nothing : Seen Sees [] []
  beside : {a : A} {s : List A} {xs bs : List B} → Sees a xs → Seen Sees s bs → Seen Sees (a ∷ s) (xs ++ bs)

-- at this cost the finer machine comes from a stack to one that begins with a list as which the
-- activation is seen, with the rest behind it
pub record Becomes {A B D : Type 0} (n : Machine B D) (Sees : A → List B → Type 0) (before : List B) (k : ℕ) (now : A) (rest : List B) : Type 0 where
  pub list : List B
  pub seen : Sees now list
  pub made : Steps n before k (list ++ rest)

-- each step of a machine is some steps of a finer one, which sees an activation as a list of its own, and
-- leaves alone what lies behind
pub record Refines {A E B D : Type 0} (m : Machine A E) (n : Machine B D) (Sees : A → List B → Type 0) : Type 0 where
  pub over_move :
      {a b : A} {k : ℕ} {xs : List B}
      → m.moves a k b → Sees a xs → (rest : List B) → Becomes n Sees (xs ++ rest) k b rest
  pub over_start :
      {w b : A} {k : ℕ} {xs : List B}
      → m.starts w k b → Sees w xs → (rest : List B) → Becomes n Sees (xs ++ rest) k b (xs ++ rest)
  pub over_return :
      {d w r : A} {e : E} {k : ℕ} {ys xs : List B}
      → m.ends d k e → m.resumes w e r → Sees d ys → Sees w xs
      → (rest : List B) → Becomes n Sees (ys ++ (xs ++ rest)) k r rest
