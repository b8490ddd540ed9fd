-- What an instruction changes in the heap: aastore and its kin one element, putfield one field, newarray and anewarray
-- add one array, and the others nothing (JVMS 6.5).
use Rattle.std.specs.Prelude.{◌≡◌, ℕ, ℤ, List, Ok}
use Rattle.op_table.specs.declared.acts.Action.{Action}
use Rattle.op_table.specs.declared.acts.Action.TheVariants as acts
use Rattle.op_table.specs.declared.acts.Element.{Element}
use Rattle.world.specs.declared.member.MemberId.{MemberId}
use Rattle.class_hierarchy.specs.World.{World}
use Rattle.frames.specs.declared.value.Value.{Value}
use Rattle.frames.specs.declared.here.Here.{Here}
use Rattle.frames.specs.Heap.{Cells, with_cell, with_element, with_field}
use Rattle.frames.specs.Kept.{KeepsHeap}
use Rattle.frames.specs.Standing.{Standing}
use Rattle.object_steps.specs.After.{After}
use Rattle.object_steps.specs.Arrays.{new_array, array_after}
use Rattle.object_steps.specs.Fields.{field_after}
use Rattle.object_steps.specs.Casts.{cast_after}

pub data HeapChange (before : Cells) : Action → Cells → Type 0 where
  none : {action : Action} → HeapChange before action before
  element : {e : Element} (r i : ℕ) (value : Value) → HeapChange before (acts.StoreElement e) (with_element r i value before)
  field : {i : ℕ} (r : ℕ) (m : MemberId) (value : Value) → HeapChange before (acts.PutField i) (with_field r m value before)
  array : {kind : ℤ} (type : List ℕ) (n : ℕ) → HeapChange before (acts.NewArray kind) (with_cell (new_array type n) before)
  references : {i : ℕ} (type : List ℕ) (n : ℕ) → HeapChange before (acts.NewReferenceArray i) (with_cell (new_array type n) before)

-- ---- the laws

abbrev pub ArraysChange : Type 0
ArraysChange = (w : World) (s : Standing) (at : Here) (action : Action) (a : After) → array_after w s at action ≡ Ok a → HeapChange at.heap action a.heap

abbrev pub FieldsChange : Type 0
FieldsChange = (w : World) (s : Standing) (at : Here) (action : Action) (a : After) → field_after w s at action ≡ Ok a → HeapChange at.heap action a.heap

abbrev pub CastsChange : Type 0
CastsChange = (w : World) (s : Standing) (at : Here) (action : Action) (a : After) → cast_after w s at action ≡ Ok a → HeapChange at.heap action a.heap

-- what has a number keeps it
abbrev pub ChangesKeep : Type 0
ChangesKeep = (before now : Cells) (action : Action) → HeapChange before action now → KeepsHeap before now
