-- What an instruction changes in the heap.
use Rattle.std.proofs.Common.{◌≡◌, Ok, subst}
use Rattle.op_table.specs.declared.acts.Action.{Action}
use Rattle.class_hierarchy.specs.World.{World}
use Rattle.frames.specs.declared.here.Here.{Here}
use Rattle.frames.specs.Heap.{Cells}
use Rattle.frames.specs.Kept.{KeepsHeap}
use Rattle.frames.specs.Standing.{Standing}
use Rattle.frames.proofs.Keeping.{cell_keeps, element_keeps, field_keeps, heap_itself}
use Rattle.object_steps.specs.After.{After}
use Rattle.word_steps.specs.Narrowing.{narrowed_to}
use Rattle.object_steps.specs.Classes.{type_named}
use Rattle.object_steps.specs.Arrays.{array_after, new_array}
use Rattle.object_steps.specs.Fields.{field_after}
use Rattle.object_steps.specs.Casts.{cast_after}
use Rattle.object_steps.specs.ArrayCases.{ArrayChange, IsArrayCase}
use Rattle.object_steps.specs.ArrayCases as array_rows
use Rattle.object_steps.specs.FieldCases.{FieldChange, IsFieldCase}
use Rattle.object_steps.specs.FieldCases as field_rows
use Rattle.object_steps.specs.CastCases.{CastChange, IsCastCase}
use Rattle.object_steps.specs.CastCases as cast_rows
use Rattle.object_steps.specs.HeapChanges.{HeapChange}
use Rattle.object_steps.specs.HeapChanges as changes
use Rattle.object_steps.proofs.ArrayLaws.{arrays_are_cases}
use Rattle.object_steps.proofs.FieldLaws.{fields_are_cases}
use Rattle.object_steps.proofs.CastLaws.{casts_are_cases}

array_row_changes : {w : World} {s : Standing} {at : Here} {action : Action} {a : After} → ArrayChange w s at action a → HeapChange at.heap action a.heap
array_row_changes (array_rows.loads is of inside there) = changes.none
array_row_changes (array_rows.stores {v = v} {a = x} {i = i} top is of inside fits) = changes.element x.number i (narrowed_to x.type v.value)
array_row_changes (array_rows.length_read top is there few) = changes.none
array_row_changes (array_rows.makes {type = type} {n = n} of top is) = changes.array type n
array_row_changes (array_rows.makes_references {name = name} {n = n} of described top is) = changes.references (type_named name) n

pub arrays_change : (w : World) (s : Standing) (at : Here) (action : Action) (a : After) → array_after w s at action ≡ Ok a → HeapChange at.heap action a.heap
arrays_change w s at action a is = array_row_changes (subst (IsArrayCase w s at action) is (arrays_are_cases w s at action))

field_row_changes : {w : World} {s : Standing} {at : Here} {action : Action} {a : After} → FieldChange w s at action a → HeapChange at.heap action a.heap
field_row_changes (field_rows.gets of top is held) = changes.none
field_row_changes (field_rows.puts {r = r} {f = f} {v = v} of top below is held) = changes.field r f.field (narrowed_to f.type v.value)
field_row_changes (field_rows.gets_static of held) = changes.none
field_row_changes (field_rows.puts_static of top held) = changes.none

pub fields_change : (w : World) (s : Standing) (at : Here) (action : Action) (a : After) → field_after w s at action ≡ Ok a → HeapChange at.heap action a.heap
fields_change w s at action a is = field_row_changes (subst (IsFieldCase w s at action) is (fields_are_cases w s at action))

cast_row_changes : {w : World} {s : Standing} {at : Here} {action : Action} {a : After} → CastChange w s at action a → HeapChange at.heap action a.heap
cast_row_changes (cast_rows.null_passes of top is) = changes.none
cast_row_changes (cast_rows.passes of top is instance) = changes.none
cast_row_changes (cast_rows.null_is_none of top is) = changes.none
cast_row_changes (cast_rows.is_one of top is instance) = changes.none
cast_row_changes (cast_rows.is_none of top is instance) = changes.none

pub casts_change : (w : World) (s : Standing) (at : Here) (action : Action) (a : After) → cast_after w s at action ≡ Ok a → HeapChange at.heap action a.heap
casts_change w s at action a is = cast_row_changes (subst (IsCastCase w s at action) is (casts_are_cases w s at action))

pub changes_keep : (before now : Cells) (action : Action) → HeapChange before action now → KeepsHeap before now
changes_keep before now action changes.none = heap_itself before
changes_keep before now action (changes.element r i value) = element_keeps r i value before
changes_keep before now action (changes.field r m value) = field_keeps r m value before
changes_keep before now action (changes.array type n) = cell_keeps (new_array type n) before
changes_keep before now action (changes.references type n) = cell_keeps (new_array type n) before
