-- What each step keeps, as a relation between the start of an activation and its state now, and between
-- the start of a call and its end.
use Rattle.std.specs.Prelude.{ℕ, List, [], ◌∷◌}
use Rattle.nested_runs.specs.Nest.{Machine}

-- each step of the machine keeps the two relations
pub record Keeps {A E : Type 0} (m : Machine A E) (Since : A → A → Type 0) (Over : A → E → Type 0) : Type 0 where
  pub at_start : {s w b : A} {k : ℕ} → Since s w → m.starts w k b → Since b b
  pub over_move : {s a b : A} {k : ℕ} → Since s a → m.moves a k b → Since s b
  pub over_call : {s w b r : A} {e : E} {k : ℕ} → Since s w → m.starts w k b → Over b e → m.resumes w e r → Since s r
  pub at_end : {s d : A} {e : E} {k : ℕ} → Since s d → m.ends d k e → Over s e

-- a fact of states, and one of what calls end with, that each step keeps
pub record KeepsFact {A E : Type 0} (m : Machine A E) (Fact : A → Type 0) (EndFact : E → Type 0) : Type 0 where
  pub at_start : {w b : A} {k : ℕ} → Fact w → m.starts w k b → Fact b
  pub over_move : {a b : A} {k : ℕ} → Fact a → m.moves a k b → Fact b
  pub over_call : {w b r : A} {e : E} {k : ℕ} → Fact w → m.starts w k b → EndFact e → m.resumes w e r → Fact r
  pub at_end : {d : A} {e : E} {k : ℕ} → Fact d → m.ends d k e → EndFact e

-- a reflexive and transitive relation that holds over each step by itself
pub record KeepsOrder {A E : Type 0} (m : Machine A E) (Since : A → A → Type 0) (Over : A → E → Type 0) : Type 0 where
  pub reflexive : (a : A) → Since a a
  pub transitive : {a b d : A} → Since a b → Since b d → Since a d
  pub transitive_over : {a d : A} {e : E} → Since a d → Over d e → Over a e
  pub over_move : {a b : A} {k : ℕ} → m.moves a k b → Since a b
  pub over_call : {w b r : A} {e : E} {k : ℕ} → m.starts w k b → Over b e → m.resumes w e r → Since w r
  pub at_end : {d : A} {e : E} {k : ℕ} → m.ends d k e → Over d e

-- each activation of the stack stands in the relation to the state in which it started: the last one to
-- the first state, each other one to a state that the one below it, which waits, started
pub data EachSince {A E : Type 0} (m : Machine A E) (first : A) (Since : A → A → Type 0) : List A → Type 0 where
  last : {b : A} → Since first b → EachSince m first Since (b ∷ [])
  upon :
      {w b d : A} {rest : List A} {k : ℕ}
      → EachSince m first Since (w ∷ rest) → m.starts w k b → Since b d
      → EachSince m first Since (d ∷ w ∷ rest)

-- ---- the machine strengthened by the relations

-- a move, with what holds before and after it
pub record KnownMove {A E : Type 0} (m : Machine A E) (Since : A → A → Type 0) (a : A) (k : ℕ) (b : A) : Type 0 where
  pub made : m.moves a k b
  pub from : A
  pub before : Since from a
  pub now : Since from b

-- a start, with what holds of the activation that waits and of the new one
pub record KnownStart {A E : Type 0} (m : Machine A E) (Since : A → A → Type 0) (w : A) (k : ℕ) (b : A) : Type 0 where
  pub made : m.starts w k b
  pub from : A
  pub before : Since from w
  pub now : Since b b

-- an end, with what holds before it and over the whole call
pub record KnownEnd {A E : Type 0} (m : Machine A E) (Since : A → A → Type 0) (Over : A → E → Type 0) (d : A) (k : ℕ) (e : E) : Type 0 where
  pub made : m.ends d k e
  pub from : A
  pub before : Since from d
  pub whole : Over from e

-- a resume, with what held when it began to wait, what holds over the call, and what holds now
pub record KnownResume {A E : Type 0} (m : Machine A E) (Since : A → A → Type 0) (Over : A → E → Type 0) (w : A) (e : E) (r : A) : Type 0 where
  pub made : m.resumes w e r
  pub from : A
  pub before : Since from w
  pub callee : A
  pub cost : ℕ
  pub started : m.starts w cost callee
  pub whole : Over callee e
  pub now : Since from r

-- the steps of the machine at which the relations are known
abbrev pub guarded : {A E : Type 0} → Machine A E → (A → A → Type 0) → (A → E → Type 0) → Machine A E
guarded m Since Over = record {
  moves = λ a k b. KnownMove m Since a k b;
  starts = λ w k b. KnownStart m Since w k b;
  ends = λ d k e. KnownEnd m Since Over d k e;
  resumes = λ w e r. KnownResume m Since Over w e r;
}
