-- Instructions on arrays have the effects on kinds that the table says.
use Rattle.std.proofs.Common.{◌≡◌, inl, inr, ℕ, ◌+◌, Bool, true, false, List, [], ◌∷◌, ◌++◌, length, drop, reverse, refl, sym, ap, subst, ◌∙◌, arith, ℤ, pos, Option, Some, None, Result, Ok, All, Contains}
use Rattle.std.specs.Prelude.{codes, if◌then◌else◌, slice_get, option_and_then, option_map}
use Rattle.std.specs.Ordering.{int_eq}
use Rattle.std.proofs.lemmas.Bool.{or_cases}
use Rattle.std.proofs.lemmas.List.{length-append, append_assoc}
use Rattle.std.proofs.lemmas.List.Elements.{All-head, All-tail, All-contains, All-from_recursion}
use Rattle.std.proofs.lemmas.Slice.Eq.{bytes_eq-Decides}
use Rattle.common_laws.proofs.Members.{contains_at}
use Rattle.class_pool.specs.Pool.{class_name_at}
use Rattle.descriptors.specs.Texts.{is_array}
use Rattle.op_table.specs.declared.acts.Action.{Action}
use Rattle.op_table.specs.declared.acts.Element.{Element}
use Rattle.op_table.specs.declared.acts.Element.TheVariants as elements
use Rattle.op_table.specs.declared.acts.Kind.TheVariants as value
use Rattle.op_table.specs.declared.acts.Width.TheVariants as widths
use Rattle.op_table.specs.declared.construct.Construct.{Construct}
use Rattle.slot_facts.specs.declared.kind.Kind.{Kind}
use Rattle.slot_facts.specs.declared.kind.Kind.TheVariants as kinds
use Rattle.kind_effects.specs.Types.{kind_of_reference, kinds_of_type, kind_of_element, array_of_numbers, array_named}
use Rattle.kind_effects.specs.Effects as effects
use Rattle.kind_effects.specs.Effects.{pops, locals_after, element_kinds, element_words, value_words, lowest}
use Rattle.class_hierarchy.specs.World.{World}
use Rattle.frames.specs.declared.value.Value.{Value}
use Rattle.frames.specs.declared.value.Value.TheVariants.{Int, Ref}
use Rattle.frames.specs.declared.heap.Cell.{Cell}
use Rattle.frames.specs.declared.heap.Cell.TheVariants.{Array}
use Rattle.frames.specs.declared.here.Here.{Here}
use Rattle.frames.specs.Words.{Popped, PoppedNumber, pushed, popped, popped_number}
use Rattle.frames.specs.Types.{is_type, is_int_type}
use Rattle.frames.specs.Heap.{Cells, cell_at, free_number, with_cell}
use Rattle.frames.specs.Standing.{Standing}
use Rattle.frames.proofs.Keeping.{heap_itself, element_keeps, cell_keeps}
use Rattle.word_steps.specs.Narrowing.{narrowed_to}
use Rattle.linking.specs.Told.{unless}
use Rattle.linking.specs.References.{against_class}
use Rattle.linking.specs.Members.{known}
use Rattle.object_steps.specs.Classes.{class_known, type_named}
use Rattle.object_steps.specs.After.{After}
use Rattle.object_steps.specs.Arrays.{Elements, Place, is_element, kind_of, place_below, place_on, type_of_kind, new_array}
use Rattle.object_steps.specs.ArrayCases as rows
use Rattle.object_steps.specs.ArrayCases.{IsArrayOf, ArrayChange}
use Rattle.entries.specs.Entry.{Agrees, IsArray, IsHeld, values_in}
use Rattle.entries.specs.Entering.{IsHeldFrom}
use Rattle.well_formed.specs.WellFormed.{IsWord}
use Rattle.well_formed.proofs.Held.{held_here, value_word, new_at}
use Rattle.kind_runs.specs.Meaning.{FitsElements, same, of_class, of_array, HasKind, array, no_array, object, no_object, any, HaveKinds, none, more, NamesNoArray}
use Rattle.kind_runs.proofs.Places.{have_at, have_one}
use Rattle.kind_runs.proofs.Fitting.{fits_through}
use Rattle.kind_runs.proofs.Typed.{ValueHas, int_has, int_type, long_type, reference_kinds, typed_has}
use Rattle.kind_runs.proofs.Frames.{Makes}
use Rattle.kind_runs.proofs.Making.{Tops, on_null, on_reference, tops, top_words, top_count, number_top, value_made, nothing_made}

-- ---- what is on top

one_word : {stack : List Value} {p : Popped} → Tops value.Reference stack p → stack ≡ (p.value ∷ []) ++ p.rest
one_word on_null = refl
one_word on_reference = refl

-- a reference
pub reference_top : (stack : List Value) (p : Popped) → popped value.Reference stack ≡ Some p → stack ≡ (p.value ∷ []) ++ p.rest
reference_top stack p e = one_word (tops value.Reference stack p e)

below_top : (stack : List Value) (i : PoppedNumber) (o : Option Popped) (p : Place) → stack ≡ (Int i.number ∷ []) ++ i.rest → ((q : Popped) → o ≡ Some q → i.rest ≡ (q.value ∷ []) ++ q.rest)
    → option_map (λ (a : Popped). record { array = a.value; index = i.number; rest = a.rest }) o ≡ Some p → stack ≡ (Int p.index ∷ p.array ∷ []) ++ p.rest
below_top stack i None p at below e = absurd cc
below_top stack i (Some q) p at below e =
    let is : record { array = q.value; index = i.number; rest = q.rest } ≡ p = cc in
    subst (λ (x : Place). stack ≡ (Int x.index ∷ x.array ∷ []) ++ x.rest) is (at ∙ ap (λ (ws : List Value). Int i.number ∷ ws) (below q refl))

place_in : (stack : List Value) (o : Option PoppedNumber) (p : Place) → ((q : PoppedNumber) → o ≡ Some q → stack ≡ (Int q.number ∷ []) ++ q.rest) → option_and_then place_below o ≡ Some p
    → stack ≡ (Int p.index ∷ p.array ∷ []) ++ p.rest
place_in stack None p each e = absurd cc
place_in stack (Some i) p each e = below_top stack i (popped value.Reference i.rest) p (each i refl) (λ q is. reference_top i.rest q is) e

-- a reference and an index
place_top : (stack : List Value) (p : Place) → place_on stack ≡ Some p → stack ≡ (Int p.index ∷ p.array ∷ []) ++ p.rest
place_top stack p e = place_in stack (popped_number widths.Int stack) p (λ q is. number_top widths.Int stack q is) e

-- ---- elements that are read

-- what an element is known to be, of an array that is known to be of elements that fit
class_above : {heap : Cells} (type : List ℕ) (v : Value) (is_it : Bool) → HasKind heap (if is_it then kinds.Arr (drop 1 type) else kinds.Obj) v → HasKind heap kinds.Obj v
class_above type v true (array at fits) = object
class_above type v true no_array = no_object
class_above type v false is = is

object_above : {heap : Cells} (type : List ℕ) (v : Value) → HasKind heap (kind_of_reference type) v → HasKind heap kinds.Obj v
object_above type v is = class_above type v (is_array type) is

plain_above : {heap : Cells} (known : List ℕ) (v : Value) (is_it : Bool) → is_array known ≡ is_it → is_it ≡ false → HasKind heap kinds.Obj v → HasKind heap (if is_it then kinds.Arr (drop 1 known) else kinds.Obj) v
plain_above known v true e bare is = absurd cc
plain_above known v false e bare is = is

array_above : {heap : Cells} {known type : List ℕ} {v : Value} → FitsElements known type → HasKind heap (kinds.Arr type) v → HasKind heap (kinds.Arr known) v
array_above fits (array at others) = array at (fits_through fits others)
array_above fits no_array = no_array

fitting_kind : {heap : Cells} {known type : List ℕ} {v : Value} → FitsElements known type → HasKind heap (kind_of_reference type) v → HasKind heap (kind_of_reference known) v
fitting_kind same is = is
fitting_kind {known = known} {type = type} {v = v} (of_class bare one other) is = plain_above known v (is_array known) refl bare (object_above type v is)
fitting_kind (of_array fits) is = array_above fits is

first_has : {heap : Cells} {a b : Kind} {words : List Value} → ((v : Value) → HasKind heap a v → HasKind heap b v) → HaveKinds heap (a ∷ []) words → HaveKinds heap (b ∷ []) words
first_has each (more {word = word} is none) = more (each word is) none

-- an array is of the kind that is known
element_reference : {heap : Cells} {kind : Kind} (r : ℕ) (type : List ℕ) (items words : List Value) → HasKind heap kind (Ref r) → cell_at heap r ≡ Some (Array type items) → HaveKinds heap (kind_of_reference type ∷ []) words
    → HaveKinds heap (kind_of_element kind ∷ []) words
element_reference {heap = heap} r type items words (array {element = element} {type = other} at fits) there is =
    let equal : other ≡ type = cc (at, there) in
    first_has (λ v has. fitting_kind (subst (λ (t : List ℕ). FitsElements element t) equal fits) has) is
element_reference r type items words object there is = first_has (λ v has. object_above type v has) is
element_reference r type items words any there is = first_has (λ v has. any) is

text_is : (text type : List ℕ) → is_type text type ≡ true → type ≡ text
text_is text type is = (bytes_eq-Decides type text).0 is

int_element : (text type : List ℕ) → is_type text type ≡ true → is_int_type text ≡ true → kinds_of_type type ≡ kinds.Int ∷ []
int_element text type is of = ap kinds_of_type (text_is text type is) ∙ int_type text of

element_has : {heap : Cells} {kind : Kind} (e : Element) (r : ℕ) (type : List ℕ) (items words : List Value) → HasKind heap kind (Ref r) → cell_at heap r ≡ Some (Array type items) → is_element e type ≡ true
    → HaveKinds heap (kinds_of_type type) words → HaveKinds heap (element_kinds e kind) words
element_has {heap = heap} elements.Int r type items words has there is typed = subst (λ (ks : List Kind). HaveKinds heap ks words) (int_element (codes "I") type is refl) typed
element_has {heap = heap} elements.Long r type items words has there is typed = subst (λ (ks : List Kind). HaveKinds heap ks words) (long_type type is) typed
element_has {heap = heap} elements.Reference r type items words has there is typed =
    element_reference r type items words has there (subst (λ (ks : List Kind). HaveKinds heap ks words) (reference_kinds type is) typed)
element_has {heap = heap} elements.Byte r type items words has there is typed =
    elim (or_cases (is_type (codes "B") type) (is_type (codes "Z") type) is) [
      | inl byte ↦ subst (λ (ks : List Kind). HaveKinds heap ks words) (int_element (codes "B") type byte refl) typed
      | inr boolean ↦ subst (λ (ks : List Kind). HaveKinds heap ks words) (int_element (codes "Z") type boolean refl) typed
    ]
element_has {heap = heap} elements.Char r type items words has there is typed = subst (λ (ks : List Kind). HaveKinds heap ks words) (int_element (codes "C") type is refl) typed
element_has {heap = heap} elements.Short r type items words has there is typed = subst (λ (ks : List Kind). HaveKinds heap ks words) (int_element (codes "S") type is refl) typed

-- an element agrees with the type of the elements
item_agrees : (w : World) (heap : Cells) (type : List ℕ) (items : List Value) (i : ℕ) (v : Value) → IsArray w heap type items → slice_get items i ≡ Some v → Agrees w heap type v
item_agrees w heap type items i v held there = All-contains (Agrees w heap type) items v (All-from_recursion (Agrees w heap type) items held.each) (contains_at items i v there)

read_has : (w : World) (heap : Cells) (e : Element) (p : Place) (a : Elements) (i : ℕ) (v : Value) (us : List Kind) → NamesNoArray w → IsWord w heap p.array → IsArrayOf e heap p.array a → slice_get a.items i ≡ Some v
    → HaveKinds heap us (p.array ∷ Int p.index ∷ []) → ValueHas heap (element_kinds e (lowest us)) v
read_has w heap e p a i v us plain word of there u =
    let held : IsHeldFrom w heap (Ref a.number) = subst (λ (x : Value). IsWord w heap x) of.refers word in
    let whole : IsArray w heap a.type a.items = subst (λ (cell : Option Cell). IsHeld w heap cell) of.holds (held_here w heap a.number held) in
    let inside : Contains (values_in (cell_at heap a.number)) v = subst (λ (o : Option Cell). Contains (values_in o) v) (sym of.holds) (contains_at a.items i v there) in
    let agrees : Agrees w heap a.type v = item_agrees w heap a.type a.items i v whole there in
    let has : HasKind heap (lowest us) p.array = have_at us (p.array ∷ Int p.index ∷ []) 0 p.array u refl in
    element_has e a.number a.type a.items (reverse (pushed v [])) (subst (λ (x : Value). HasKind heap (lowest us) x) of.refers has) of.holds of.typed
    (typed_has w heap a.type v plain (value_word w heap a.number v held inside) agrees.0)

-- ---- elements that are written

element_count : (e : Element) → value_words (kind_of e) ≡ element_words e
element_count elements.Int = refl
element_count elements.Long = refl
element_count elements.Reference = refl
element_count elements.Byte = refl
element_count elements.Char = refl
element_count elements.Short = refl

written_top : (e : Element) (stack : List Value) (v : Popped) (p : Place) → popped (kind_of e) stack ≡ Some v → place_on v.rest ≡ Some p → stack ≡ (pushed v.value [] ++ Int p.index ∷ p.array ∷ []) ++ p.rest
written_top e stack v p top is =
    top_words (tops (kind_of e) stack v top) ∙ ap (λ (ws : List Value). pushed v.value [] ++ ws) (place_top v.rest p is) ∙ sym (append_assoc (pushed v.value []) (Int p.index ∷ p.array ∷ []) p.rest)

written_count : (e : Element) (stack : List Value) (v : Popped) (p : Place) → popped (kind_of e) stack ≡ Some v → length (pushed v.value [] ++ Int p.index ∷ p.array ∷ []) ≡ 2 + element_words e
written_count e stack v p top =
    let all = length-append (pushed v.value []) (Int p.index ∷ p.array ∷ []) in
    let value_long = top_count (tops (kind_of e) stack v top) in
    let words = element_count e in
    omega (arith, all, value_long, words)

-- ---- new arrays

-- the kind says of which numbers
abbrev IsOf : List ℕ → Option (List ℕ) → Kind → Type 0
IsOf type o kind = o ≡ Some type → kind ≡ kinds.Arr type

of_if : (b : Bool) (text type : List ℕ) (o : Option (List ℕ)) (kind : Kind) → IsOf type o kind → IsOf type (if b then Some text else o) (if b then kinds.Arr text else kind)
of_if true text type o kind later e = let is : text ≡ type = cc in ap (λ (t : List ℕ). kinds.Arr t) is
of_if false text type o kind later e = later e

of_numbers : (n : ℤ) (type : List ℕ) → type_of_kind n ≡ Some type → array_of_numbers n ≡ kinds.Arr type
of_numbers n type e =
    of_if (int_eq n (pos 4)) (codes "Z") type _ _
    (of_if (int_eq n (pos 5)) (codes "C") type _ _
    (of_if (int_eq n (pos 8)) (codes "B") type _ _
    (of_if (int_eq n (pos 9)) (codes "S") type _ _
    (of_if (int_eq n (pos 10)) (codes "I") type _ _
    (of_if (int_eq n (pos 11)) (codes "J") type None kinds.Obj (λ never. absurd cc)))))) e

nothing_against : {A : Type 0} (answer : Result A Construct) (o : Option Construct) (a : A) → unless answer o ≡ Ok a → answer ≡ Ok a
nothing_against answer None a e = e
nothing_against answer (Some construct) a e = absurd cc

-- a class that is known is named
pub named_class : (w : World) (o : Option (List ℕ)) (name : List ℕ) → class_known w o ≡ Ok name → o ≡ Some name
named_class w None name e = absurd cc
named_class w (Some n) name e =
    let first = nothing_against (unless (Ok n) (known w n)) (against_class (Some n)) name e in
    let second = nothing_against (Ok n) (known w n) name first in
    let is : n ≡ name = cc in
    ap Some is

new_has : (heap : Cells) (type : List ℕ) (n : ℕ) → HasKind (with_cell (new_array type n) heap) (kinds.Arr type) (Ref (free_number heap))
new_has heap type n = array (new_at heap (new_array type n)) same

-- ---- each instruction

pub array_made : {w : World} {s : Standing} {at : Here} {action : Action} {a : After} → NamesNoArray w → All (IsWord w at.heap) at.frame.stack → ArrayChange w s at action a
    → Makes at.heap a.heap s.class.pool action at.frame.locals at.frame.stack at.frame.locals a.stack
unfolding pops effects.pushed locals_after
array_made {w = w} {at = at} plain words (rows.loads {e = e} {p = p} {a = a} {i = i} {value = v} is of inside there) =
    let takes = place_top at.frame.stack p is in
    let both : All (IsWord w at.heap) (Int p.index ∷ p.array ∷ p.rest) = subst (λ (ws : List Value). All (IsWord w at.heap) ws) takes words in
    let word : IsWord w at.heap p.array = All-head (IsWord w at.heap) p.array p.rest (All-tail (IsWord w at.heap) (Int p.index) (p.array ∷ p.rest) both) in
    value_made (Int p.index ∷ p.array ∷ []) p.rest v takes refl (heap_itself at.heap) (λ ks us. refl) (λ ks us k u. read_has w at.heap e p a i v us plain word of there u)
array_made {at = at} plain words (rows.stores {e = e} {v = v} {p = p} {a = a} {i = i} top is of inside fits) =
    nothing_made (pushed v.value [] ++ Int p.index ∷ p.array ∷ []) p.rest (written_top e at.frame.stack v p top is) (written_count e at.frame.stack v p top)
    (element_keeps a.number i (narrowed_to a.type v.value) at.heap) (λ ks us. refl) (λ ks us. refl)
array_made {at = at} plain words (rows.length_read {p = p} top is there few) =
    value_made (p.value ∷ []) p.rest (Int _) (reference_top at.frame.stack p top) refl (heap_itself at.heap) (λ ks us. refl) (λ ks us k u. int_has _)
array_made {at = at} plain words (rows.makes {kind = kind} {type = type} {p = p} {n = n} of top is) =
    value_made (Int p.number ∷ []) p.rest (Ref (free_number at.heap)) (number_top widths.Int at.frame.stack p top) refl (cell_keeps (new_array type n) at.heap) (λ ks us. refl)
    (λ ks us k u. subst (λ (x : Kind). HaveKinds (with_cell (new_array type n) at.heap) (x ∷ []) (Ref (free_number at.heap) ∷ [])) (sym (of_numbers kind type of)) (have_one (new_has at.heap type n)))
array_made {w = w} {s = s} {at = at} plain words (rows.makes_references {i = i} {name = name} {p = p} {n = n} of described top is) =
    value_made (Int p.number ∷ []) p.rest (Ref (free_number at.heap)) (number_top widths.Int at.frame.stack p top) refl (cell_keeps (new_array (type_named name) n) at.heap) (λ ks us. refl)
    (λ ks us k u.
    subst (λ (o : Option (List ℕ)). HaveKinds (with_cell (new_array (type_named name) n) at.heap) (array_named o ∷ []) (Ref (free_number at.heap) ∷ []))
    (sym (named_class w (class_name_at s.class.pool i) name of)) (have_one (new_has at.heap (type_named name) n)))
