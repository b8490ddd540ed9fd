-- What may be reached from the places of a frame, for each method of a program by its number and each pc.
use Rattle.std.specs.Prelude.{ℕ, Bool, true}
use Rattle.slot_facts.specs.declared.place.Place.{Place}

-- Which places there are before an instruction, which two of them may share, and which may reach a cycle. Nothing is
-- told of others.
pub record Shapes : Type 1 where
  pub IsPlace : ℕ → ℕ → Place → Type 0
  pub pair : ℕ → ℕ → Place → Place → Bool
  pub cyclic : ℕ → ℕ → Place → Bool

-- nothing is known
abbrev pub any_shape : Shapes
any_shape = record { IsPlace = λ method pc a. Unit {0}; pair = λ method pc a b. true; cyclic = λ method pc a. true }
