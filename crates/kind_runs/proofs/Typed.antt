-- The words of a value have the kinds of its type.
use Rattle.std.proofs.Common.{◌≡◌, inl, inr, ℕ, ◌||◌, Bool, true, false, List, [], ◌∷◌, drop, reverse, Option, Some, None, nat_eq, refl, sym, ap, subst, ◌∙◌, ℤ}
use Rattle.std.specs.Prelude.{codes, if◌then◌else◌}
use Rattle.std.proofs.lemmas.Bool.{and_parts, or_cases, eqb-true}
use Rattle.std.proofs.lemmas.Slice.Eq.{bytes_eq-Decides}
use Rattle.descriptors.specs.Texts.{is_array, is_class, is_reference, name_of}
use Rattle.slot_facts.specs.declared.kind.Kind.{Kind}
use Rattle.slot_facts.specs.declared.kind.Kind.TheVariants as kinds
use Rattle.kind_effects.specs.Types.{long_kinds, kind_of_reference, kinds_of_number, kinds_of_type}
use Rattle.class_hierarchy.specs.World.{World}
use Rattle.world.specs.Instances.{is_array_of}
use Rattle.frames.specs.declared.value.Value.{Value}
use Rattle.frames.specs.declared.value.Value.TheVariants.{Int, Long, Pad, Null, Ref}
use Rattle.frames.specs.declared.heap.Cell.{Cell}
use Rattle.frames.specs.declared.heap.Cell.TheVariants.{Object, Array}
use Rattle.frames.specs.Words.{pushed}
use Rattle.frames.specs.Types.{is_type, is_int_type, is_int_letter}
use Rattle.frames.specs.Heap.{Cells, cell_at, is_instance, is_of_type}
use Rattle.entries.specs.Entry.{IsHeld}
use Rattle.well_formed.specs.WellFormed.{IsWord}
use Rattle.well_formed.proofs.Held.{held_here}
use Rattle.kind_runs.specs.Meaning.{HasKind, int, long, pad, array, no_array, object, no_object, HaveKinds, none, more, NamesNoArray}
use Rattle.kind_runs.proofs.Fitting.{array_text, instance_fits}
use Rattle.kind_runs.proofs.Places.{have_one}

-- ---- references

array_at : (w : World) (heap : Cells) (r : ℕ) (known : List ℕ) (cell : Option Cell) → NamesNoArray w → cell_at heap r ≡ cell → IsHeld w heap cell → is_instance w (91 ∷ known) cell ≡ true → HasKind heap (kinds.Arr known) (Ref r)
array_at w heap r known None plain at held is = absurd held
array_at w heap r known (Some (Object class fields)) plain at held is = absurd cc
array_at w heap r known (Some (Array type items)) plain at held is = array at (instance_fits w type known plain held.described is)

-- an instance of an array is of its kind
pub instance_kind : (w : World) (heap : Cells) (r : ℕ) (known : List ℕ) → NamesNoArray w → IsWord w heap (Ref r) → is_instance w (91 ∷ known) (cell_at heap r) ≡ true → HasKind heap (kinds.Arr known) (Ref r)
instance_kind w heap r known plain word is = array_at w heap r known (cell_at heap r) plain refl (held_here w heap r word) is

reference_by : (w : World) (heap : Cells) (r : ℕ) (type : List ℕ) (is_it : Bool) → NamesNoArray w → IsWord w heap (Ref r) → is_array type ≡ is_it → is_instance w type (cell_at heap r) ≡ true → HasKind heap (if is_it then kinds.Arr (drop 1 type) else kinds.Obj) (Ref r)
reference_by w heap r type true plain word e is = instance_kind w heap r (drop 1 type) plain word (subst (λ (t : List ℕ). is_instance w t (cell_at heap r) ≡ true) (array_text type e) is)
reference_by w heap r type false plain word e is = object

-- an instance of a type is of its kind
pub reference_kind : (w : World) (heap : Cells) (r : ℕ) (type : List ℕ) → NamesNoArray w → IsWord w heap (Ref r) → is_instance w type (cell_at heap r) ≡ true → HasKind heap (kind_of_reference type) (Ref r)
reference_kind w heap r type plain word is = reference_by w heap r type (is_array type) plain word refl is

null_by : (heap : Cells) (type : List ℕ) (is_it : Bool) → HasKind heap (if is_it then kinds.Arr (drop 1 type) else kinds.Obj) Null
null_by heap type true = no_array
null_by heap type false = no_object

pub null_kind : (heap : Cells) (type : List ℕ) → HasKind heap (kind_of_reference type) Null
null_kind heap type = null_by heap type (is_array type)

-- ---- numbers

-- the kinds of a value's words, the lowest first
abbrev pub ValueHas : Cells → List Kind → Value → Type 0
ValueHas heap ks value = HaveKinds heap ks (reverse (pushed value []))

pub int_has : {heap : Cells} (n : ℤ) → ValueHas heap (kinds.Int ∷ []) (Int n)
int_has n = more int none

pub long_has : {heap : Cells} (n : ℤ) → ValueHas heap long_kinds (Long n)
long_has n = more long (more pad none)

letter_is : (l k : ℕ) → nat_eq l k ≡ true → kinds_of_type (k ∷ []) ≡ kinds.Int ∷ [] → kinds_of_type (l ∷ []) ≡ kinds.Int ∷ []
letter_is l k is e = ap (λ (x : ℕ). kinds_of_type (x ∷ [])) (eqb-true l k is) ∙ e

or_right : (a b : Bool) → b ≡ true → (a || b) ≡ true
or_right true b is = refl
or_right false b is = is

letters : (l : ℕ) → is_int_letter l ≡ true → kinds_of_type (l ∷ []) ≡ kinds.Int ∷ []
unfolding kinds_of_type
letters l is =
    elim (or_cases ((nat_eq l 66 || nat_eq l 67) || (nat_eq l 73 || nat_eq l 83)) (nat_eq l 90) is) [
      | inl low ↦ elim (or_cases (nat_eq l 66 || nat_eq l 67) (nat_eq l 73 || nat_eq l 83) low) [
        | inl one ↦ elim (or_cases (nat_eq l 66) (nat_eq l 67) one) [ inl b ↦ letter_is l 66 b refl | inr c ↦ letter_is l 67 c refl ]
        | inr two ↦ elim (or_cases (nat_eq l 73) (nat_eq l 83) two) [ inl i ↦ letter_is l 73 i refl | inr s ↦ letter_is l 83 s refl ]
      ]
      | inr z ↦ letter_is l 90 z refl
    ]

pub int_type : (type : List ℕ) → is_int_type type ≡ true → kinds_of_type type ≡ kinds.Int ∷ []
int_type [] is = absurd cc
int_type (l ∷ []) is = letters l is
int_type (l ∷ k ∷ type) is = absurd cc

long_text : kinds_of_type (codes "J") ≡ long_kinds
unfolding kinds_of_type
long_text = refl

pub long_type : (type : List ℕ) → is_type (codes "J") type ≡ true → kinds_of_type type ≡ long_kinds
long_type type is = ap kinds_of_type ((bytes_eq-Decides type (codes "J")).0 is) ∙ long_text

reference_type : (type : List ℕ) (ks : List Kind) (is_it : Bool) → is_reference type ≡ is_it → is_it ≡ true → (if is_it then kind_of_reference type ∷ [] else ks) ≡ kind_of_reference type ∷ []
reference_type type ks true e is = refl
reference_type type ks false e is = absurd cc

pub reference_kinds : (type : List ℕ) → is_reference type ≡ true → kinds_of_type type ≡ kind_of_reference type ∷ []
unfolding kinds_of_type
reference_kinds type is = reference_type type (kinds_of_number type) (is_reference type) refl is

class_reference : (type : List ℕ) → is_class type ≡ true → is_reference type ≡ true
class_reference type is = or_right (is_array type) (is_class type) is

instance_reference : (w : World) (type : List ℕ) (cell : Option Cell) → is_instance w type cell ≡ true → is_reference type ≡ true
instance_reference w type None is = absurd cc
instance_reference w type (Some (Object class fields)) is = class_reference type (and_parts (is_class type) _ is).0
instance_reference w type (Some (Array element items)) is = (and_parts (is_reference type) (is_array_of w element (name_of type)) is).0

-- ---- values of types

has_by : (heap : Cells) (value : Value) (type : List ℕ) (ks : List Kind) → kinds_of_type type ≡ ks → ValueHas heap ks value → ValueHas heap (kinds_of_type type) value
has_by heap value type ks e is = subst (λ (us : List Kind). ValueHas heap us value) (sym e) is

-- a value of a type has the kinds of the type
pub typed_has : (w : World) (heap : Cells) (type : List ℕ) (value : Value) → NamesNoArray w → IsWord w heap value → is_of_type w heap type value ≡ true → ValueHas heap (kinds_of_type type) value
unfolding is_of_type
typed_has w heap type (Int n) plain word is = has_by heap (Int n) type (kinds.Int ∷ []) (int_type type is) (int_has n)
typed_has w heap type (Long n) plain word is = has_by heap (Long n) type long_kinds (long_type type is) (long_has n)
typed_has w heap type Pad plain word is = absurd cc
typed_has w heap type Null plain word is = has_by heap Null type (kind_of_reference type ∷ []) (reference_kinds type is) (have_one (null_kind heap type))
typed_has w heap type (Ref r) plain word is =
    has_by heap (Ref r) type (kind_of_reference type ∷ []) (reference_kinds type (instance_reference w type (cell_at heap r) is)) (have_one (reference_kind w heap r type plain word is))
