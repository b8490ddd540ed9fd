-- What has a number keeps it: an object its class and its fields, an array the type of its elements and how many there
-- are (JVMS 2.4).
use Rattle.std.specs.Prelude.{◌≡◌, ℕ, List, length, map, Option, Some, None, true}
use Rattle.class_hierarchy.specs.World.{World}
use Rattle.world.specs.declared.member.MemberId.{MemberId}
use Rattle.frames.specs.declared.value.Value.{Value}
use Rattle.frames.specs.declared.heap.Cell.{Cell}
use Rattle.frames.specs.declared.heap.Cell.TheVariants.{Object, Array}
use Rattle.frames.specs.Heap.{Cells, cell_at, is_of_type, with_cell, with_element, with_field}

pub data IsKept : Option Cell → Option Cell → Type 0 where
  nothing : {now : Option Cell} → IsKept None now
  object :
      {class : ℕ} {before now : List (MemberId × Value)} → map (λ f. f.0) now ≡ map (λ f. f.0) before
      → IsKept (Some (Object class before)) (Some (Object class now))
  array :
      {type : List ℕ} {before now : List Value} → length now ≡ length before
      → IsKept (Some (Array type before)) (Some (Array type now))

abbrev pub KeepsHeap : Cells → Cells → Type 0
KeepsHeap before now = (r : ℕ) → IsKept (cell_at before r) (cell_at now r)

-- ---- the laws

abbrev pub NewCellsKeep : Type 0
NewCellsKeep = (cell : Cell) (heap : Cells) → KeepsHeap heap (with_cell cell heap)

abbrev pub ElementsKeep : Type 0
ElementsKeep = (r i : ℕ) (value : Value) (heap : Cells) → KeepsHeap heap (with_element r i value heap)

abbrev pub FieldsKeep : Type 0
FieldsKeep = (r : ℕ) (m : MemberId) (value : Value) (heap : Cells) → KeepsHeap heap (with_field r m value heap)

-- and so values stay of their types
abbrev pub TypesKeep : Type 0
TypesKeep =
    (w : World) (before now : Cells) (type : List ℕ) (value : Value)
    → KeepsHeap before now → is_of_type w before type value ≡ true → is_of_type w now type value ≡ true
