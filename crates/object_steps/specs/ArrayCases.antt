-- What an instruction on arrays leaves, by cases (JVMS 6.5.newarray, 6.5.anewarray, 6.5.arraylength, 6.5.aaload, 6.5.aastore).
use Rattle.std.specs.Prelude.{◌≡◌, ℕ, true, false, ℤ, pos, negsuc, List, ◌∷◌, length, Some, None, Result, Ok, Err, slice_get}
use Rattle.class_pool.specs.Pool.{class_name_at}
use Rattle.op_table.specs.declared.acts.Action.{Action}
use Rattle.op_table.specs.declared.acts.Action.TheVariants as acts
use Rattle.op_table.specs.declared.acts.Element.{Element}
use Rattle.op_table.specs.declared.acts.Element.TheVariants as elements
use Rattle.op_table.specs.declared.acts.Kind.TheVariants as kinds
use Rattle.op_table.specs.declared.acts.Width.TheVariants as widths
use Rattle.descriptors.specs.Tests.{is_field}
use Rattle.class_hierarchy.specs.World.{World}
use Rattle.frames.specs.declared.value.Value.{Value}
use Rattle.frames.specs.declared.value.Value.TheVariants.{Int, Null, Ref}
use Rattle.frames.specs.declared.heap.Cell.TheVariants.{Array}
use Rattle.frames.specs.declared.here.Here.{Here}
use Rattle.frames.specs.declared.failure.Failure.{Failure}
use Rattle.frames.specs.declared.failure.Failure.TheVariants.{Throws, Stops}
use Rattle.frames.specs.declared.failure.Raised.{Raised}
use Rattle.frames.specs.declared.failure.Raised.TheVariants as raised
use Rattle.frames.specs.Words.{Popped, PoppedNumber, popped, popped_number}
use Rattle.frames.specs.Heap.{Cells, cell_at, free_number, with_cell, with_element, is_of_type}
use Rattle.frames.specs.Standing.{Standing}
use Rattle.word_steps.specs.Narrowing.{narrowed_to}
use Rattle.object_steps.specs.Classes.{class_known, type_named}
use Rattle.object_steps.specs.After.{After, read, heap_changed}
use Rattle.object_steps.specs.Arrays.{Elements, Place, is_element, kind_of, place_on, index_in, is_storable, counts, type_of_kind, new_array, array_after}

-- a reference refers to an array of such elements
pub record IsArrayOf (e : Element) (heap : Cells) (array : Value) (a : Elements) : Type 0 where
  pub refers : array ≡ Ref a.number
  pub holds : cell_at heap a.number ≡ Some (Array a.type a.items)
  pub typed : is_element e a.type ≡ true

-- By the action: what is left where it goes on.
pub data ArrayChange (w : World) (s : Standing) (at : Here) : Action → After → Type 0 where
  loads :
      {e : Element} {p : Place} {a : Elements} {i : ℕ} {value : Value}
      → place_on at.frame.stack ≡ Some p → IsArrayOf e at.heap p.array a → index_in p.index a.items ≡ Some i → slice_get a.items i ≡ Some value
      → ArrayChange w s at (acts.LoadElement e) (read at value p.rest)
  stores :
      {e : Element} {v : Popped} {p : Place} {a : Elements} {i : ℕ}
      → popped (kind_of e) at.frame.stack ≡ Some v → place_on v.rest ≡ Some p → IsArrayOf e at.heap p.array a → index_in p.index a.items ≡ Some i
      → is_storable w at.heap e a.type v.value ≡ true
      → ArrayChange w s at (acts.StoreElement e) (heap_changed at p.rest (with_element a.number i (narrowed_to a.type v.value) at.heap))
  length_read :
      {p : Popped} {r : ℕ} {type : List ℕ} {items : List Value}
      → popped kinds.Reference at.frame.stack ≡ Some p → p.value ≡ Ref r → cell_at at.heap r ≡ Some (Array type items) → counts items ≡ true
      → ArrayChange w s at acts.ArrayLength (read at (Int (pos (length items))) p.rest)
  makes :
      {kind : ℤ} {type : List ℕ} {p : PoppedNumber} {n : ℕ}
      → type_of_kind kind ≡ Some type → popped_number widths.Int at.frame.stack ≡ Some p → p.number ≡ pos n
      → ArrayChange w s at (acts.NewArray kind) (heap_changed at (Ref (free_number at.heap) ∷ p.rest) (with_cell (new_array type n) at.heap))
  makes_references :
      {i : ℕ} {name : List ℕ} {p : PoppedNumber} {n : ℕ}
      → class_known w (class_name_at s.class.pool i) ≡ Ok name → is_field (91 ∷ type_named name) ≡ true
      → popped_number widths.Int at.frame.stack ≡ Some p → p.number ≡ pos n
      → ArrayChange w s at (acts.NewReferenceArray i) (heap_changed at (Ref (free_number at.heap) ∷ p.rest) (with_cell (new_array (type_named name) n) at.heap))

-- What it throws, and what it saw.
pub data ArrayThrows (w : World) (s : Standing) (at : Here) : Action → Raised → Type 0 where
  null_load :
      {e : Element} {p : Place} → place_on at.frame.stack ≡ Some p → p.array ≡ Null
      → ArrayThrows w s at (acts.LoadElement e) raised.NullPointer
  null_store :
      {e : Element} {v : Popped} {p : Place} → popped (kind_of e) at.frame.stack ≡ Some v → place_on v.rest ≡ Some p → p.array ≡ Null
      → ArrayThrows w s at (acts.StoreElement e) raised.NullPointer
  null_length :
      {p : Popped} → popped kinds.Reference at.frame.stack ≡ Some p → p.value ≡ Null
      → ArrayThrows w s at acts.ArrayLength raised.NullPointer
  load_outside :
      {e : Element} {p : Place} {a : Elements}
      → place_on at.frame.stack ≡ Some p → IsArrayOf e at.heap p.array a → index_in p.index a.items ≡ None
      → ArrayThrows w s at (acts.LoadElement e) raised.ArrayIndex
  store_outside :
      {e : Element} {v : Popped} {p : Place} {a : Elements}
      → popped (kind_of e) at.frame.stack ≡ Some v → place_on v.rest ≡ Some p → IsArrayOf e at.heap p.array a → index_in p.index a.items ≡ None
      → ArrayThrows w s at (acts.StoreElement e) raised.ArrayIndex
  not_storable :
      {v : Popped} {p : Place} {a : Elements} {i : ℕ}
      → popped kinds.Reference at.frame.stack ≡ Some v → place_on v.rest ≡ Some p → IsArrayOf elements.Reference at.heap p.array a
      → index_in p.index a.items ≡ Some i → is_of_type w at.heap a.type v.value ≡ false
      → ArrayThrows w s at (acts.StoreElement elements.Reference) raised.ArrayStore
  negative :
      {kind : ℤ} {type : List ℕ} {p : PoppedNumber} {n : ℕ}
      → type_of_kind kind ≡ Some type → popped_number widths.Int at.frame.stack ≡ Some p → p.number ≡ negsuc n
      → ArrayThrows w s at (acts.NewArray kind) raised.NegativeSize
  negative_references :
      {i : ℕ} {name : List ℕ} {p : PoppedNumber} {n : ℕ}
      → class_known w (class_name_at s.class.pool i) ≡ Ok name → is_field (91 ∷ type_named name) ≡ true
      → popped_number widths.Int at.frame.stack ≡ Some p → p.number ≡ negsuc n
      → ArrayThrows w s at (acts.NewReferenceArray i) raised.NegativeSize

-- ---- the laws

-- what is left is one of the cases, or what is thrown is, or the run stops
abbrev pub IsArrayCase : World → Standing → Here → Action → Result After Failure → Type 0
IsArrayCase w s at action (Ok a) = ArrayChange w s at action a
IsArrayCase w s at action (Err (Throws what)) = ArrayThrows w s at action what
IsArrayCase w s at action (Err (Stops k)) = Unit {0}

abbrev pub ArraysAreCases : Type 0
ArraysAreCases = (w : World) (s : Standing) (at : Here) (action : Action) → IsArrayCase w s at action (array_after w s at action)

-- each of the cases is met
abbrev pub ArrayCasesAreLeft : Type 0
ArrayCasesAreLeft =
    (w : World) (s : Standing) (at : Here) (action : Action) (a : After) → ArrayChange w s at action a → array_after w s at action ≡ Ok a

abbrev pub ArrayCasesAreThrown : Type 0
ArrayCasesAreThrown =
    (w : World) (s : Standing) (at : Here) (action : Action) (what : Raised)
    → ArrayThrows w s at action what → array_after w s at action ≡ Err (Throws what)
