-- What may be spent from a state on.
use Rattle.std.specs.Prelude.{ℕ, ◌+◌}
use Rattle.nested_runs.specs.Nest.{Machine}

-- "From this state on the activation may pass at this cost with this end" and "from this state on this
-- may be spent" are closed under what a machine does. Nothing is spent before a step; what comes behind
-- a move, or behind a call that came back, may come from the state before it; what is spent in a call
-- that is open may be spent from the state before it; an activation passes by its end.
pub record IsClosed {A E : Type 0} (m : Machine A E) (Passes : A → ℕ → E → Type 0) (Spends : A → ℕ → Type 0) : Type 0 where
  pub spends_nothing : (a : A) → Spends a 0
  pub spends_move : {a b : A} {k c : ℕ} → m.moves a k b → Spends b c → Spends a (k + c)
  pub spends_start : {w b : A} {k c : ℕ} → m.starts w k b → Spends b c → Spends w (k + c)
  pub spends_call :
      {w b r : A} {e : E} {k j c : ℕ}
      → m.starts w k b → Passes b j e → m.resumes w e r → Spends r c → Spends w (k + (j + c))
  pub passes_move : {a b : A} {e : E} {k c : ℕ} → m.moves a k b → Passes b c e → Passes a (k + c) e
  pub passes_call :
      {w b r : A} {e f : E} {k j c : ℕ}
      → m.starts w k b → Passes b j e → m.resumes w e r → Passes r c f → Passes w (k + (j + c)) f
  pub passes_end : {d : A} {e : E} {k : ℕ} → m.ends d k e → Passes d k e

-- What may be spent and passed is closed where the relations hold: each rule is asked for the steps of an
-- activation that began at s, with what is known before and after the step, and over the call.
pub record IsClosedWhere {A E : Type 0} (m : Machine A E) (Since : A → A → Type 0) (Over : A → E → Type 0) (Passes : A → ℕ → E → Type 0) (Spends : A → ℕ → Type 0) : Type 0 where
  pub spends_nothing : {s a : A} → Since s a → Spends a 0
  pub spends_move : {s a b : A} {k c : ℕ} → Since s a → m.moves a k b → Since s b → Spends b c → Spends a (k + c)
  pub spends_start : {s w b : A} {k c : ℕ} → Since s w → m.starts w k b → Since b b → Spends b c → Spends w (k + c)
  pub spends_call :
      {s w b r : A} {e : E} {k j c : ℕ}
      → Since s w → m.starts w k b → Since b b → Passes b j e → Over b e → m.resumes w e r → Since s r → Spends r c
      → Spends w (k + (j + c))
  pub passes_move : {s a b : A} {e : E} {k c : ℕ} → Since s a → m.moves a k b → Since s b → Passes b c e → Over s e → Passes a (k + c) e
  pub passes_call :
      {s w b r : A} {e f : E} {k j c : ℕ}
      → Since s w → m.starts w k b → Since b b → Passes b j e → Over b e → m.resumes w e r → Since s r → Passes r c f → Over s f
      → Passes w (k + (j + c)) f
  pub passes_end : {s d : A} {e : E} {k : ℕ} → Since s d → m.ends d k e → Over s e → Passes d k e
