-- Instructions on arrays keep what is held.
use Rattle.std.proofs.Common.{◌≡◌, inl, inr, ℕ, ◌<◌, ◌≤◌, ◌^◌, true, List, ◌∷◌, length, replicate, Option, Some, None, refl, sym, subst, arith, All, Contains, IsTrue, ℤ, pos}
use Rattle.std.specs.Prelude.{codes, option_and_then, option_map, slice_get}
use Rattle.std.proofs.lemmas.Bool.{or_cases, ltb-true, lt-ltb, leb-true}
use Rattle.std.proofs.lemmas.Slice.Eq.{bytes_eq-Decides}
use Rattle.std.proofs.lemmas.List.Elements.{All-cons, All-weaker}
use Rattle.common_laws.proofs.Members.{contains_at}
use Rattle.descriptors.proofs.Methods.{field_decided}
use Rattle.op_table.specs.declared.acts.Action.{Action}
use Rattle.op_table.specs.declared.acts.Element.{Element}
use Rattle.op_table.specs.declared.acts.Element.TheVariants as elements
use Rattle.op_table.specs.declared.acts.Kind.TheVariants as kinds
use Rattle.op_table.specs.declared.acts.Width.TheVariants as widths
use Rattle.class_hierarchy.specs.World.{World}
use Rattle.frames.specs.declared.value.Value.{Value}
use Rattle.frames.specs.declared.value.Value.TheVariants.{Int, Long, Pad, Ref}
use Rattle.frames.specs.declared.heap.Cell.{Cell}
use Rattle.frames.specs.declared.here.Here.{Here}
use Rattle.frames.specs.declared.failure.Raised.{Raised}
use Rattle.frames.specs.Words.{Popped, PoppedNumber, popped, popped_number}
use Rattle.frames.specs.Types.{is_type, is_int_type}
use Rattle.frames.specs.Heap.{Cells, cell_at, default_of, free_number, is_of_type, with_cell, with_element, with_item}
use Rattle.frames.specs.Standing.{Standing}
use Rattle.frames.proofs.Keeping.{element_keeps}
use Rattle.word_steps.specs.Numbers.{fits}
use Rattle.word_steps.specs.Narrowing.{narrowed_to}
use Rattle.object_steps.specs.Classes.{type_named}
use Rattle.object_steps.specs.After.{After}
use Rattle.object_steps.specs.Arrays.{Elements, Place, is_element, kind_of, place_below, place_on, is_storable, new_array}
use Rattle.object_steps.specs.ArrayCases as rows
use Rattle.object_steps.specs.ArrayCases.{IsArrayOf, ArrayChange, ArrayThrows}
use Rattle.entries.specs.Entry.{Agrees, AreStatics, IsArray, values_in}
use Rattle.entries.specs.Entering.{IsHeldFrom}
use Rattle.well_formed.specs.WellFormed.{IsWord}
use Rattle.well_formed.specs.Keeping.{KeepsWords, IsRaised}
use Rattle.well_formed.proofs.Words.{pushed_all, popped_all, number_all}
use Rattle.well_formed.proofs.Held.{value_word, changed_words, item_stays, item_puts, new_word, added_words}
use Rattle.well_formed.proofs.Defaults.{array_alone, array_held, IsPlain, kind_plain, named_agrees}
use Rattle.well_formed.proofs.Statics.{narrowed_word, narrowed_agrees}

-- what is left is well formed, and what was held is
pub record IsLeft (w : World) (at : Here) (a : After) : Type 0 where
  pub stack : All (IsWord w a.heap) a.stack
  pub statics : AreStatics w a.statics
  pub keeps : KeepsWords w at.heap a.heap

-- what a frame sees, before an instruction
pub record Sees (w : World) (at : Here) : Type 0 where
  pub stack : All (IsWord w at.heap) at.frame.stack
  pub statics : AreStatics w at.statics

pub all_kept : (w : World) (before now : Cells) (words : List Value) → KeepsWords w before now → All (IsWord w before) words → All (IsWord w now) words
all_kept w before now words keeps all = All-weaker (IsWord w before) (IsWord w now) keeps words all

-- ---- a reference and an index

pub record IsPlaced (w : World) (heap : Cells) (p : Place) : Type 0 where
  pub array : IsWord w heap p.array
  pub rest : All (IsWord w heap) p.rest

below_placed : (w : World) (heap : Cells) (index : ℤ) (o : Option Popped) (p : Place) → ((q : Popped) → o ≡ Some q → IsWord w heap q.value × All (IsWord w heap) q.rest)
    → option_map (λ (a : Popped). record { array = a.value; index = index; rest = a.rest }) o ≡ Some p → IsPlaced w heap p
below_placed w heap index None p each e = absurd cc
below_placed w heap index (Some q) p each e =
    let same : record { array = q.value; index = index; rest = q.rest } ≡ p = cc in
    let words = each q refl in
    subst (λ (x : Place). IsPlaced w heap x) same (record { array = words.0; rest = words.1 })

placed_in : (w : World) (heap : Cells) (o : Option PoppedNumber) (p : Place) → ((q : PoppedNumber) → o ≡ Some q → All (IsWord w heap) q.rest) → option_and_then place_below o ≡ Some p → IsPlaced w heap p
placed_in w heap None p each e = absurd cc
placed_in w heap (Some i) p each e =
    below_placed w heap i.number (popped kinds.Reference i.rest) p (λ q is. popped_all (IsWord w heap) tt kinds.Reference i.rest q is (each i refl)) e

place_words : (w : World) (heap : Cells) (stack : List Value) (p : Place) → place_on stack ≡ Some p → All (IsWord w heap) stack → IsPlaced w heap p
place_words w heap stack p e all = placed_in w heap (popped_number widths.Int stack) p (λ q is. (number_all (IsWord w heap) tt widths.Int stack q is all).1) e

-- ---- elements

texted : (w : World) (heap : Cells) (text type : List ℕ) (value : Value) → is_type text type ≡ true → is_of_type w heap text value ≡ true → is_of_type w heap type value ≡ true
texted w heap text type value is of =
    let same : type ≡ text = (bytes_eq-Decides type text).0 is in
    subst (λ (t : List ℕ). is_of_type w heap t value ≡ true) (sym same) of

int_of : (w : World) (heap : Cells) (text : List ℕ) (stack : List Value) (p : Popped) → is_int_type text ≡ true → popped kinds.Int stack ≡ Some p → is_of_type w heap text p.value ≡ true
unfolding is_of_type
int_of w heap text (Int n ∷ stack) p int e =
    let same : Int n ≡ p.value = cc in
    subst (λ (v : Value). is_of_type w heap text v ≡ true) same int
int_of w heap text stack p int e = absurd cc

long_of : (w : World) (heap : Cells) (stack : List Value) (p : Popped) → popped kinds.Long stack ≡ Some p → is_of_type w heap (codes "J") p.value ≡ true
unfolding is_of_type
long_of w heap (Pad ∷ Long n ∷ stack) p e =
    let same : Long n ≡ p.value = cc in
    subst (λ (v : Value). is_of_type w heap (codes "J") v ≡ true) same refl
long_of w heap stack p e = absurd cc

-- what is stored is of the type of the elements
element_typed : (w : World) (heap : Cells) (e : Element) (type : List ℕ) (stack : List Value) (p : Popped) → popped (kind_of e) stack ≡ Some p → is_element e type ≡ true → is_storable w heap e type p.value ≡ true
    → is_of_type w heap type p.value ≡ true
element_typed w heap elements.Int type stack p top is fits = texted w heap (codes "I") type p.value is (int_of w heap (codes "I") stack p refl top)
element_typed w heap elements.Long type stack p top is fits = texted w heap (codes "J") type p.value is (long_of w heap stack p top)
element_typed w heap elements.Reference type stack p top is fits = fits
element_typed w heap elements.Byte type stack p top is fits =
    elim (or_cases (is_type (codes "B") type) (is_type (codes "Z") type) is) [
      | inl byte ↦ texted w heap (codes "B") type p.value byte (int_of w heap (codes "B") stack p refl top)
      | inr boolean ↦ texted w heap (codes "Z") type p.value boolean (int_of w heap (codes "Z") stack p refl top)
    ]
element_typed w heap elements.Char type stack p top is fits = texted w heap (codes "C") type p.value is (int_of w heap (codes "C") stack p refl top)
element_typed w heap elements.Short type stack p top is fits = texted w heap (codes "S") type p.value is (int_of w heap (codes "S") stack p refl top)

-- ---- each instruction

loaded_left : (w : World) (at : Here) (e : Element) (p : Place) (a : Elements) (i : ℕ) (value : Value) → Sees w at → place_on at.frame.stack ≡ Some p → IsArrayOf e at.heap p.array a → slice_get a.items i ≡ Some value
    → IsWord w at.heap value × All (IsWord w at.heap) p.rest
loaded_left w at e p a i value sees is of there =
    let placed : IsPlaced w at.heap p = place_words w at.heap at.frame.stack p is sees.stack in
    let held : IsHeldFrom w at.heap (Ref a.number) = subst (λ (v : Value). IsWord w at.heap v) of.refers placed.array in
    let inside : Contains (values_in (cell_at at.heap a.number)) value =
    subst (λ (o : Option Cell). Contains (values_in o) value) (sym of.holds) (contains_at a.items i value there)
    in
    (value_word w at.heap a.number value held inside, placed.rest)

number_word : (w : World) (heap : Cells) (n : ℕ) → n ≤ 2147483647 → IsWord w heap (Int (pos n))
number_word w heap n few = lt-ltb n (2 ^ 31) (omega arith)

-- a number of elements is what an int can be
size_few : (w : World) (heap : Cells) (p : PoppedNumber) (n : ℕ) → IsWord w heap (Int p.number) → p.number ≡ pos n → n ≤ 2147483647
size_few w heap p n word is =
    let low : n < 2 ^ 31 = ltb-true n (2 ^ 31) (subst (λ (z : ℤ). IsTrue (fits widths.Int z)) is word) in
    omega arith

made_left : (w : World) (at : Here) (type : List ℕ) (n : ℕ) (rest : List Value) → Sees w at → All (IsWord w at.heap) rest → IsArray w (with_cell (new_array type n) at.heap) type (replicate n (default_of type))
    → IsLeft w at (record { stack = Ref (free_number at.heap) ∷ rest; heap = with_cell (new_array type n) at.heap; statics = at.statics })
made_left w at type n rest sees words held =
    let cell : Cell = new_array type n in
    let now : Cells = with_cell cell at.heap in
    let keeps : KeepsWords w at.heap now = added_words w at.heap cell held (array_alone type n) in
    record {
      stack = All-cons (IsWord w now) (Ref (free_number at.heap)) rest (new_word w at.heap cell held (array_alone type n)) (all_kept w at.heap now rest keeps words);
      statics = sees.statics;
      keeps = keeps;
    }

pub array_left : {w : World} {s : Standing} {at : Here} {action : Action} {a : After} → Sees w at → ArrayChange w s at action a → IsLeft w at a
array_left {w = w} {at = at} sees (rows.loads {e = e} {p = p} {a = a} {i = i} {value = value} is of inside there) =
    let words = loaded_left w at e p a i value sees is of there in
    record { stack = pushed_all (IsWord w at.heap) tt value p.rest words.0 words.1; statics = sees.statics; keeps = λ v word. word }
array_left {w = w} {at = at} sees (rows.stores {e = e} {v = v} {p = p} {a = a} {i = i} top is of inside fits) =
    let first = popped_all (IsWord w at.heap) tt (kind_of e) at.frame.stack v top sees.stack in
    let placed : IsPlaced w at.heap p = place_words w at.heap v.rest p is first.1 in
    let typed : is_of_type w at.heap a.type v.value ≡ true = element_typed w at.heap e a.type at.frame.stack v top of.typed fits in
    let value : Value = narrowed_to a.type v.value in
    let agrees : Agrees w at.heap a.type value = narrowed_agrees w at.heap a.type v.value typed first.0 in
    let keeps : KeepsWords w at.heap (with_element a.number i value at.heap) =
    changed_words w at.heap a.number (with_item i value) value (element_keeps a.number i value at.heap) (narrowed_word w at.heap a.type v.value first.0)
    (item_stays w at.heap a.number i a.type a.items value of.holds agrees) (item_puts i value)
    in
    record { stack = all_kept w at.heap (with_element a.number i value at.heap) p.rest keeps placed.rest; statics = sees.statics; keeps = keeps }
array_left {w = w} {at = at} sees (rows.length_read {p = p} {items = items} top is there few) =
    let first = popped_all (IsWord w at.heap) tt kinds.Reference at.frame.stack p top sees.stack in
    record {
      stack = All-cons (IsWord w at.heap) (Int (pos (length items))) p.rest (number_word w at.heap (length items) (leb-true (length items) 2147483647 few)) first.1;
      statics = sees.statics;
      keeps = λ v word. word;
    }
array_left {w = w} {at = at} sees (rows.makes {kind = kind} {type = type} {p = p} {n = n} of top is) =
    let first = number_all (IsWord w at.heap) tt widths.Int at.frame.stack p top sees.stack in
    let now : Cells = with_cell (new_array type n) at.heap in
    let plain : IsPlain w now type = kind_plain w now kind type of in
    made_left w at type n p.rest sees first.1 (array_held w now type n plain.described plain.agrees (size_few w at.heap p n first.0 is))
array_left {w = w} {at = at} sees (rows.makes_references {name = name} {p = p} {n = n} of described top is) =
    let first = number_all (IsWord w at.heap) tt widths.Int at.frame.stack p top sees.stack in
    let type : List ℕ = type_named name in
    let now : Cells = with_cell (new_array type n) at.heap in
    made_left w at type n p.rest sees first.1
    (array_held w now type n ((field_decided (91 ∷ type)).0 described) (named_agrees w now name) (size_few w at.heap p n first.0 is))

pub array_thrown : {w : World} {s : Standing} {at : Here} {action : Action} {what : Raised} → ArrayThrows w s at action what → IsRaised w at.heap what
array_thrown (rows.null_load a1 a2) = tt
array_thrown (rows.null_store a1 a2 a3) = tt
array_thrown (rows.null_length a1 a2) = tt
array_thrown (rows.load_outside a1 a2 a3) = tt
array_thrown (rows.store_outside a1 a2 a3 a4) = tt
array_thrown (rows.not_storable a1 a2 a3 a4 a5) = tt
array_thrown (rows.negative a1 a2 a3) = tt
array_thrown (rows.negative_references a1 a2 a3 a4) = tt
