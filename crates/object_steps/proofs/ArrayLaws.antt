-- What an instruction on arrays leaves is one of the cases, and each of these is met.
use Rattle.std.proofs.Common.{◌≡◌, ℕ, Bool, true, false, List, ◌∷◌, length, Option, Some, None, Result, Ok, Err, refl, sym, subst}
use Rattle.std.specs.Prelude.{ℤ, pos, negsuc, if◌then◌else◌, slice_get}
use Rattle.class_pool.specs.Pool.{class_name_at}
use Rattle.descriptors.specs.Tests.{is_field}
use Rattle.op_table.specs.declared.acts.Action.{Action}
use Rattle.op_table.specs.declared.acts.Action.TheVariants as acts
use Rattle.op_table.specs.declared.acts.Element.{Element}
use Rattle.op_table.specs.declared.acts.Element.TheVariants as elements
use Rattle.op_table.specs.declared.acts.Kind.TheVariants as kinds
use Rattle.op_table.specs.declared.acts.Width.TheVariants as widths
use Rattle.op_table.specs.declared.construct.Construct.{Construct}
use Rattle.class_hierarchy.specs.World.{World}
use Rattle.frames.specs.declared.value.Value.{Value}
use Rattle.frames.specs.declared.value.Value.TheVariants.{Int, Long, Pad, Null, Ref}
use Rattle.frames.specs.declared.heap.Cell.{Cell}
use Rattle.frames.specs.declared.heap.Cell.TheVariants.{Object, Array}
use Rattle.frames.specs.declared.here.Here.{Here}
use Rattle.frames.specs.declared.failure.Failure.{Failure}
use Rattle.frames.specs.declared.failure.Failure.TheVariants.{Throws, Stops}
use Rattle.frames.specs.declared.failure.Raised.{Raised}
use Rattle.frames.specs.declared.failure.Raised.TheVariants as raised
use Rattle.frames.specs.Words.{Popped, PoppedNumber, popped, popped_number}
use Rattle.frames.specs.Heap.{Cells, cell_at}
use Rattle.frames.specs.Standing.{Standing}
use Rattle.word_steps.specs.Narrowing.{narrowed_to}
use Rattle.object_steps.specs.Classes.{class_known, type_named}
use Rattle.object_steps.specs.After.{After, reads, or_misfit, misfit}
use Rattle.object_steps.specs.Arrays as arrays
use Rattle.object_steps.specs.Arrays.{Elements, Place, is_element, kind_of, place_on, index_in, is_storable, type_of_kind, elements_in, elements_of, array_after}
use Rattle.object_steps.specs.ArrayCases as rows
use Rattle.object_steps.specs.ArrayCases.{IsArrayOf, IsArrayCase, ArrayChange, ArrayThrows}

-- ---- the array that a reference refers to

abbrev IsFound : Element → Cells → Value → Result Elements Failure → Type 0
IsFound e heap v (Ok a) = IsArrayOf e heap v a
IsFound e heap v (Err (Throws what)) = (what ≡ raised.NullPointer) × (v ≡ Null)
IsFound e heap v (Err (Stops k)) = Unit {0}

typed_in : (e : Element) (heap : Cells) (r : ℕ) (type : List ℕ) (items : List Value) (typed : Bool) → cell_at heap r ≡ Some (Array type items) → is_element e type ≡ typed
    → IsFound e heap (Ref r) (or_misfit (if typed then Some (record { number = r; type = type; items = items }) else None))
typed_in e heap r type items true at of = record { refers = refl; holds = at; typed = of }
typed_in e heap r type items false at of = tt

found_in : (e : Element) (heap : Cells) (r : ℕ) (at : Option Cell) → cell_at heap r ≡ at → IsFound e heap (Ref r) (or_misfit (elements_in e r at))
found_in e heap r None is = tt
found_in e heap r (Some (Object class fields)) is = tt
found_in e heap r (Some (Array type items)) is = typed_in e heap r type items (is_element e type) is refl

found : (e : Element) (heap : Cells) (v : Value) → IsFound e heap v (elements_of e heap v)
found e heap (Int n) = tt
found e heap (Long n) = tt
found e heap Pad = tt
found e heap Null = (refl, refl)
found e heap (Ref r) = found_in e heap r (cell_at heap r) refl

elements_are : (e : Element) (heap : Cells) (v : Value) (a : Elements) → IsArrayOf e heap v a → elements_of e heap v ≡ Ok a
elements_are e heap v a is = rw (is.refers, is.holds, is.typed) refl

-- ---- loads

value_loaded : (w : World) (s : Standing) (at : Here) (e : Element) (p : Place) (a : Elements) (i : ℕ) (value : Option Value)
    → place_on at.frame.stack ≡ Some p → IsArrayOf e at.heap p.array a → index_in p.index a.items ≡ Some i → slice_get a.items i ≡ value
    → IsArrayCase w s at (acts.LoadElement e) (reads at p.rest (or_misfit value))
value_loaded w s at e p a i None is of inside there = tt
value_loaded w s at e p a i (Some value) is of inside there = rows.loads is of inside there

index_loaded : (w : World) (s : Standing) (at : Here) (e : Element) (p : Place) (a : Elements) (i : Option ℕ)
    → place_on at.frame.stack ≡ Some p → IsArrayOf e at.heap p.array a → index_in p.index a.items ≡ i
    → IsArrayCase w s at (acts.LoadElement e) (reads at p.rest (arrays.element_at a.items i))
index_loaded w s at e p a None is of inside = rows.load_outside is of inside
index_loaded w s at e p a (Some i) is of inside = value_loaded w s at e p a i (slice_get a.items i) is of inside refl

array_loaded : (w : World) (s : Standing) (at : Here) (e : Element) (p : Place) (a : Result Elements Failure)
    → place_on at.frame.stack ≡ Some p → IsFound e at.heap p.array a
    → IsArrayCase w s at (acts.LoadElement e) (reads at p.rest (arrays.element_in p.index a))
array_loaded w s at e p (Ok a) is of = index_loaded w s at e p a (index_in p.index a.items) is of refl
array_loaded w s at e p (Err (Throws what)) is of = subst (λ (what : Raised). ArrayThrows w s at (acts.LoadElement e) what) (sym of.0) (rows.null_load is of.1)
array_loaded w s at e p (Err (Stops k)) is of = tt

place_loaded : (w : World) (s : Standing) (at : Here) (e : Element) (p : Option Place) → place_on at.frame.stack ≡ p
    → IsArrayCase w s at (acts.LoadElement e) (arrays.load_at at e p)
place_loaded w s at e None is = tt
place_loaded w s at e (Some p) is = array_loaded w s at e p (elements_of e at.heap p.array) is (found e at.heap p.array)

-- ---- stores

unstorable : (w : World) (s : Standing) (at : Here) (e : Element) (v : Popped) (p : Place) (a : Elements) (i : ℕ)
    → popped (kind_of e) at.frame.stack ≡ Some v → place_on v.rest ≡ Some p → IsArrayOf e at.heap p.array a → index_in p.index a.items ≡ Some i
    → is_storable w at.heap e a.type v.value ≡ false → ArrayThrows w s at (acts.StoreElement e) raised.ArrayStore
unstorable w s at elements.Reference v p a i top is of inside fits = rows.not_storable top is of inside fits
unstorable w s at elements.Int v p a i top is of inside fits = absurd (cc)
unstorable w s at elements.Long v p a i top is of inside fits = absurd (cc)
unstorable w s at elements.Byte v p a i top is of inside fits = absurd (cc)
unstorable w s at elements.Char v p a i top is of inside fits = absurd (cc)
unstorable w s at elements.Short v p a i top is of inside fits = absurd (cc)

value_stored : (w : World) (s : Standing) (at : Here) (e : Element) (v : Popped) (p : Place) (a : Elements) (i : ℕ) (fits : Bool)
    → popped (kind_of e) at.frame.stack ≡ Some v → place_on v.rest ≡ Some p → IsArrayOf e at.heap p.array a → index_in p.index a.items ≡ Some i
    → is_storable w at.heap e a.type v.value ≡ fits
    → IsArrayCase w s at (acts.StoreElement e)
    (arrays.writes at p.rest (if fits then Ok (record { array = a.number; index = i; value = narrowed_to a.type v.value }) else Err (Throws raised.ArrayStore)))
value_stored w s at e v p a i true top is of inside fits = rows.stores top is of inside fits
value_stored w s at e v p a i false top is of inside fits = unstorable w s at e v p a i top is of inside fits

index_stored : (w : World) (s : Standing) (at : Here) (e : Element) (v : Popped) (p : Place) (a : Elements) (i : Option ℕ)
    → popped (kind_of e) at.frame.stack ≡ Some v → place_on v.rest ≡ Some p → IsArrayOf e at.heap p.array a → index_in p.index a.items ≡ i
    → IsArrayCase w s at (acts.StoreElement e) (arrays.writes at p.rest (arrays.write_at w at.heap e v.value a i))
index_stored w s at e v p a None top is of inside = rows.store_outside top is of inside
index_stored w s at e v p a (Some i) top is of inside =
    value_stored w s at e v p a i (is_storable w at.heap e a.type v.value) top is of inside refl

array_stored : (w : World) (s : Standing) (at : Here) (e : Element) (v : Popped) (p : Place) (a : Result Elements Failure)
    → popped (kind_of e) at.frame.stack ≡ Some v → place_on v.rest ≡ Some p → IsFound e at.heap p.array a
    → IsArrayCase w s at (acts.StoreElement e) (arrays.writes at p.rest (arrays.write_in w at.heap e v.value p.index a))
array_stored w s at e v p (Ok a) top is of = index_stored w s at e v p a (index_in p.index a.items) top is of refl
array_stored w s at e v p (Err (Throws what)) top is of =
    subst (λ (what : Raised). ArrayThrows w s at (acts.StoreElement e) what) (sym of.0) (rows.null_store top is of.1)
array_stored w s at e v p (Err (Stops k)) top is of = tt

place_stored : (w : World) (s : Standing) (at : Here) (e : Element) (v : Popped) (p : Option Place)
    → popped (kind_of e) at.frame.stack ≡ Some v → place_on v.rest ≡ p
    → IsArrayCase w s at (acts.StoreElement e) (arrays.store_at w at e v.value p)
place_stored w s at e v None top is = tt
place_stored w s at e v (Some p) top is = array_stored w s at e v p (elements_of e at.heap p.array) top is (found e at.heap p.array)

popped_stored : (w : World) (s : Standing) (at : Here) (e : Element) (v : Option Popped) → popped (kind_of e) at.frame.stack ≡ v
    → IsArrayCase w s at (acts.StoreElement e) (arrays.store_popped w at e v)
popped_stored w s at e None top = tt
popped_stored w s at e (Some v) top = place_stored w s at e v (place_on v.rest) top refl

-- ---- lengths

items_counted : (w : World) (s : Standing) (at : Here) (p : Popped) (r : ℕ) (type : List ℕ) (items : List Value) (few : Bool)
    → popped kinds.Reference at.frame.stack ≡ Some p → p.value ≡ Ref r → cell_at at.heap r ≡ Some (Array type items) → arrays.counts items ≡ few
    → IsArrayCase w s at acts.ArrayLength (reads at p.rest (if few then Ok (Int (pos (length items))) else misfit))
items_counted w s at p r type items true top is there few = rows.length_read top is there few
items_counted w s at p r type items false top is there few = tt

cell_counted : (w : World) (s : Standing) (at : Here) (p : Popped) (r : ℕ) (cell : Option Cell)
    → popped kinds.Reference at.frame.stack ≡ Some p → p.value ≡ Ref r → cell_at at.heap r ≡ cell
    → IsArrayCase w s at acts.ArrayLength (reads at p.rest (arrays.length_in cell))
cell_counted w s at p r None top is there = tt
cell_counted w s at p r (Some (Object class fields)) top is there = tt
cell_counted w s at p r (Some (Array type items)) top is there = items_counted w s at p r type items (arrays.counts items) top is there refl

value_counted : (w : World) (s : Standing) (at : Here) (p : Popped) (value : Value) → popped kinds.Reference at.frame.stack ≡ Some p → p.value ≡ value
    → IsArrayCase w s at acts.ArrayLength (reads at p.rest (arrays.length_of at.heap value))
value_counted w s at p (Int n) top is = tt
value_counted w s at p (Long n) top is = tt
value_counted w s at p Pad top is = tt
value_counted w s at p Null top is = rows.null_length top is
value_counted w s at p (Ref r) top is = cell_counted w s at p r (cell_at at.heap r) top is refl

popped_counted : (w : World) (s : Standing) (at : Here) (p : Option Popped) → popped kinds.Reference at.frame.stack ≡ p
    → IsArrayCase w s at acts.ArrayLength (arrays.length_popped at p)
popped_counted w s at None top = tt
popped_counted w s at (Some p) top = value_counted w s at p p.value top refl

-- ---- new arrays

sized_made : (w : World) (s : Standing) (at : Here) (kind : ℤ) (type : List ℕ) (p : PoppedNumber) (n : ℤ)
    → type_of_kind kind ≡ Some type → popped_number widths.Int at.frame.stack ≡ Some p → p.number ≡ n
    → IsArrayCase w s at (acts.NewArray kind) (arrays.make_sized at type p.rest (arrays.size_of n))
sized_made w s at kind type p (pos n) of top is = rows.makes of top is
sized_made w s at kind type p (negsuc n) of top is = rows.negative of top is

popped_made : (w : World) (s : Standing) (at : Here) (kind : ℤ) (type : List ℕ) (p : Option PoppedNumber)
    → type_of_kind kind ≡ Some type → popped_number widths.Int at.frame.stack ≡ p
    → IsArrayCase w s at (acts.NewArray kind) (arrays.make_popped at type p)
popped_made w s at kind type None of top = tt
popped_made w s at kind type (Some p) of top = sized_made w s at kind type p p.number of top refl

array_made : (w : World) (s : Standing) (at : Here) (kind : ℤ) (type : Option (List ℕ)) → type_of_kind kind ≡ type
    → IsArrayCase w s at (acts.NewArray kind) (arrays.make_array at type)
array_made w s at kind None of = tt
array_made w s at kind (Some type) of = popped_made w s at kind type (popped_number widths.Int at.frame.stack) of refl

references_sized : (w : World) (s : Standing) (at : Here) (i : ℕ) (name : List ℕ) (p : PoppedNumber) (n : ℤ)
    → class_known w (class_name_at s.class.pool i) ≡ Ok name → is_field (91 ∷ type_named name) ≡ true
    → popped_number widths.Int at.frame.stack ≡ Some p → p.number ≡ n
    → IsArrayCase w s at (acts.NewReferenceArray i) (arrays.make_sized at (type_named name) p.rest (arrays.size_of n))
references_sized w s at i name p (pos n) of described top is = rows.makes_references of described top is
references_sized w s at i name p (negsuc n) of described top is = rows.negative_references of described top is

references_popped : (w : World) (s : Standing) (at : Here) (i : ℕ) (name : List ℕ) (p : Option PoppedNumber)
    → class_known w (class_name_at s.class.pool i) ≡ Ok name → is_field (91 ∷ type_named name) ≡ true
    → popped_number widths.Int at.frame.stack ≡ p
    → IsArrayCase w s at (acts.NewReferenceArray i) (arrays.make_popped at (type_named name) p)
references_popped w s at i name None of described top = tt
references_popped w s at i name (Some p) of described top = references_sized w s at i name p p.number of described top refl

references_described : (w : World) (s : Standing) (at : Here) (i : ℕ) (name : List ℕ) (described : Bool)
    → class_known w (class_name_at s.class.pool i) ≡ Ok name → is_field (91 ∷ type_named name) ≡ described
    → IsArrayCase w s at (acts.NewReferenceArray i)
    (if described then arrays.make_popped at (type_named name) (popped_number widths.Int at.frame.stack) else misfit)
references_described w s at i name true of described = references_popped w s at i name (popped_number widths.Int at.frame.stack) of described refl
references_described w s at i name false of described = tt

references_made : (w : World) (s : Standing) (at : Here) (i : ℕ) (name : Result (List ℕ) Construct) → class_known w (class_name_at s.class.pool i) ≡ name
    → IsArrayCase w s at (acts.NewReferenceArray i) (arrays.make_references at name)
references_made w s at i (Err construct) of = tt
references_made w s at i (Ok name) of = references_described w s at i name (is_field (91 ∷ type_named name)) of refl

-- ---- all

pub arrays_are_cases : (w : World) (s : Standing) (at : Here) (action : Action) → IsArrayCase w s at action (array_after w s at action)
unfolding array_after
arrays_are_cases w s at (acts.LoadElement e) = place_loaded w s at e (place_on at.frame.stack) refl
arrays_are_cases w s at (acts.StoreElement e) = popped_stored w s at e (popped (kind_of e) at.frame.stack) refl
arrays_are_cases w s at acts.ArrayLength = popped_counted w s at (popped kinds.Reference at.frame.stack) refl
arrays_are_cases w s at (acts.NewArray kind) = array_made w s at kind (type_of_kind kind) refl
arrays_are_cases w s at (acts.NewReferenceArray i) = references_made w s at i (class_known w (class_name_at s.class.pool i)) refl
arrays_are_cases w s at action = tt

pub array_cases_left : (w : World) (s : Standing) (at : Here) (action : Action) (a : After) → ArrayChange w s at action a → array_after w s at action ≡ Ok a
unfolding array_after
array_cases_left w s at action a (rows.loads {e} {p} {a = x} is of inside there) = rw (is, elements_are e at.heap p.array x of, inside, there) refl
array_cases_left w s at action a (rows.stores {e} {v} {p} {a = x} top is of inside fits) = rw (top, is, elements_are e at.heap p.array x of, inside, fits) refl
array_cases_left w s at action a (rows.length_read top is there few) = rw (top, is, there, few) refl
array_cases_left w s at action a (rows.makes of top is) = rw (of, top, is) refl
array_cases_left w s at action a (rows.makes_references of described top is) = rw (of, described, top, is) refl

pub array_cases_thrown : (w : World) (s : Standing) (at : Here) (action : Action) (what : Raised) → ArrayThrows w s at action what
    → array_after w s at action ≡ Err (Throws what)
unfolding array_after
array_cases_thrown w s at action what (rows.null_load is null) = rw (is, null) refl
array_cases_thrown w s at action what (rows.null_store top is null) = rw (top, is, null) refl
array_cases_thrown w s at action what (rows.null_length top null) = rw (top, null) refl
array_cases_thrown w s at action what (rows.load_outside {e} {p} {a = x} is of outside) = rw (is, elements_are e at.heap p.array x of, outside) refl
array_cases_thrown w s at action what (rows.store_outside {e} {v} {p} {a = x} top is of outside) = rw (top, is, elements_are e at.heap p.array x of, outside) refl
array_cases_thrown w s at action what (rows.not_storable {v} {p} {a = x} top is of inside fits) =
    rw (top, is, elements_are elements.Reference at.heap p.array x of, inside, fits) refl
array_cases_thrown w s at action what (rows.negative of top is) = rw (of, top, is) refl
array_cases_thrown w s at action what (rows.negative_references of described top is) = rw (of, described, top, is) refl
