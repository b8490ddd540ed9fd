-- The lowest words of the operand stack, which stands from the top down.
use Rattle.std.specs.Prelude.{◌≡◌, ℕ, ◌<◌, List, ◌++◌, drop, reverse, slice_get}
use Rattle.frames.specs.declared.value.Value.{Value}
use Rattle.frames.specs.declared.here.Here.{Here}

-- the words below so many are left
abbrev pub LeavesBelow : ℕ → List Value → List Value → Type 0
LeavesBelow n before now = (above : List Value) × (now ≡ above ++ drop n before)

-- so many of the lowest words are the same
abbrev pub KeepsLowest : ℕ → Here → Here → Type 0
KeepsLowest n a b = (j : ℕ) → j < n → slice_get (reverse b.frame.stack) j ≡ slice_get (reverse a.frame.stack) j
