-- Heaps that hold whatever is referred to.
use Rattle.std.specs.Prelude.{ℕ, All, IsSome}
use Rattle.frames.specs.declared.value.Value.{Value}
use Rattle.frames.specs.declared.value.Value.TheVariants.{Int, Long, Pad, Null, Ref}
use Rattle.frames.specs.Heap.{Cells, cell_at}
use Rattle.entries.specs.Entry.{values_in}

abbrev pub IsHeldValue : Cells → Value → Type 0
IsHeldValue heap (Int z) = Unit {0}
IsHeldValue heap (Long z) = Unit {0}
IsHeldValue heap Pad = Unit {0}
IsHeldValue heap Null = Unit {0}
IsHeldValue heap (Ref r) = IsSome (cell_at heap r)

-- what the values in the object or array with the number refer to
abbrev pub HoldsValues : Cells → ℕ → Type 0
HoldsValues heap a = All (IsHeldValue heap) (values_in (cell_at heap a))

abbrev pub IsClosed : Cells → Type 0
IsClosed heap = (a : ℕ) → HoldsValues heap a
