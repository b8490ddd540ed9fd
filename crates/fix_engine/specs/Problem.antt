use Rattle.std.specs.Prelude.{ℕ, Option, Some, None}

-- A data flow problem (Kildall 1973): points and edges, each numbered from 0. An edge makes a fact
-- of its goal of the fact at its source, and of that at a second point where it has one.
pub record Problem (Fact : Type 0) : Type 1 where
  pub points : ℕ
  pub edges : ℕ
  -- how many facts a rising chain at one point has at most
  pub height : ℕ
  pub source : ℕ → ℕ
  pub also : ℕ → Option ℕ
  pub goal : ℕ → ℕ
  -- which facts are facts at a point
  pub IsFact : ℕ → Fact → Type 0
  -- what holds at a point before any edge is followed
  pub start : ℕ → Fact
  pub transfer : ℕ → Fact → Option Fact → Fact

-- a relation between a point and a fact holds of the second point and its fact, or there is neither
abbrev pub Both : {A B : Type 0} → (A → B → Type 0) → Option A → Option B → Type 0
Both R None None = Unit {0}
Both R (Some a) (Some b) = R a b
Both R None (Some b) = ⊥
Both R (Some a) None = ⊥
