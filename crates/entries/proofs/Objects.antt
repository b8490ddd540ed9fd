-- The tests of objects and arrays tell what they are to tell.
use Rattle.std.proofs.Common.{◌≡◌, ◌≢◌, ◌↔◌, ℕ, zero, suc, ◌<◌, ◌+◌, List, [], ◌∷◌, Bool, true, false, Option, Some, None, length, drop, refl, sym, ◌∙◌, arith, IsTrue, ap, subst, ◌⊎◌, inl, inr}
use Rattle.std.specs.Prelude.{◌||◌, ◌&&◌, not, nat_eq, nat_lt, nat_le, slice_index_or, slice_get, Contains, AllPairs, flat_map, Any, ℤ, if◌then◌else◌}
use Rattle.std.specs.List.{list_all, list_any, AllByRecursion}
use Rattle.std.specs.Option.{option_map_or}
use Rattle.std.specs.Cmp.{signed_Decides}
use Rattle.std.specs.Ordering.{int_eq}
use Rattle.std.proofs.lemmas.Bool.{ltb-true, lt-ltb, leb-true, le-leb, eqb-true, eq-eqb, and_parts, and_from, not-true, not_from_false, false_from_ne_true}
use Rattle.std.proofs.lemmas.List.Folds.{Any-from_list_any, list_any-from_Any, list_any_none, list_any_at, list_all-append}
use Rattle.std.proofs.lemmas.List.Sums.{AllPass-from_list_all, list_all-from_AllPass}
use Rattle.std.proofs.lemmas.List.Elements.{All-contains, Contains-append_left, Contains-append_right, Contains-append_cases, Contains-get_or}
use Rattle.common_laws.proofs.Members.{contains_tail, in_flat, from_flat}
use Rattle.op_table.specs.declared.acts.Width.TheVariants as widths
use Rattle.class_reader.specs.declared.class.Field.{Field}
use Rattle.descriptors.specs.Grammar.{IsFieldDescriptor}
use Rattle.world.specs.declared.member.MemberId.{MemberId}
use Rattle.class_hierarchy.specs.World.{World, line, class_at, is_instantiable}
use Rattle.world.specs.Resolution.{member}
use Rattle.frames.specs.declared.value.Value.{Value}
use Rattle.frames.specs.declared.value.Value.TheVariants.{Int, Long, Pad, Null, Ref}
use Rattle.word_steps.specs.Narrowing.{left_in, narrowed_to}
use Rattle.word_steps.specs.Numbers.{fits}
use Rattle.frames.specs.Heap.{Cells, own_fields, is_object_field, is_of_type, object_fields}
use Rattle.entries.specs.Entry.{IsObject, IsArray, IsInRange, Agrees}
use Rattle.entries.specs.inside.Cells.{agrees, own_holds, is_object, is_in_range, is_member, has_each, has_value, is_known, are_known, are_distinct, are_items}

-- ---- values

narrowed_left : (type : List ℕ) (n : ℤ) → narrowed_to type (Int n) ≡ Int (left_in type n)
narrowed_left type n = refl

abbrev int_in : Value → ℤ → ℤ
int_in (Int n) z = n
int_in value z = z

range_is : (type : List ℕ) (value : Value) → IsTrue (is_in_range type value) ↔ IsInRange type value
range_is type (Int n) = (
  λ is.
      let parts : IsTrue (fits widths.Int n) × IsTrue (int_eq (left_in type n) n) = and_parts (fits widths.Int n) (int_eq (left_in type n) n) is in
      (parts.0, narrowed_left type n ∙ ap Int ((signed_Decides (left_in type n) n).0 parts.1)),
  λ is. and_from (fits widths.Int n) (int_eq (left_in type n) n) is.0 ((signed_Decides (left_in type n) n).1 (ap (λ (v : Value). int_in v n) (sym (narrowed_left type n) ∙ is.1))),
)
range_is type (Long n) = (λ is. is, λ is. is)
range_is type Pad = (λ is. tt, λ is. refl)
range_is type Null = (λ is. tt, λ is. refl)
range_is type (Ref r) = (λ is. tt, λ is. refl)

pub agreeing_is : (w : World) (heap : Cells) (type : List ℕ) (value : Value) → IsTrue (agrees w heap type value) ↔ Agrees w heap type value
agreeing_is w heap type value = (
  λ is.
      let parts : IsTrue (is_of_type w heap type value) × IsTrue (is_in_range type value) = and_parts (is_of_type w heap type value) (is_in_range type value) is in
      (parts.0, (range_is type value).0 parts.1),
  λ is. and_from (is_of_type w heap type value) (is_in_range type value) is.0 ((range_is type value).1 is.1),
)

items_is : (w : World) (heap : Cells) (element : List ℕ) (items : List Value) → IsTrue (list_all (agrees w heap element) items) ↔ AllByRecursion (Agrees w heap element) items
items_is w heap element [] = (λ is. tt, λ is. refl)
items_is w heap element (value ∷ items) = (
  λ is.
      let parts : IsTrue (agrees w heap element value) × IsTrue (list_all (agrees w heap element) items) = and_parts (agrees w heap element value) (list_all (agrees w heap element) items) is in
      ((agreeing_is w heap element value).0 parts.0, (items_is w heap element items).0 parts.1),
  λ is. and_from (agrees w heap element value) (list_all (agrees w heap element) items) ((agreeing_is w heap element value).1 is.0) ((items_is w heap element items).1 is.1),
)

pub array_is : (w : World) (heap : Cells) (element : List ℕ) (items : List Value) → IsFieldDescriptor (91 ∷ element) → IsTrue (are_items w heap element items) ↔ IsArray w heap element items
array_is w heap element items described = (
  λ is.
      let parts : IsTrue (nat_le (length items) 2147483647) × IsTrue (list_all (agrees w heap element) items) = and_parts (nat_le (length items) 2147483647) (list_all (agrees w heap element) items) is in
      record { described = described; few = leb-true (length items) 2147483647 parts.0; each = (items_is w heap element items).0 parts.1 },
  λ is. and_from (nat_le (length items) 2147483647) (list_all (agrees w heap element) items) (le-leb (length items) 2147483647 is.few) ((items_is w heap element items).1 is.each),
)

-- ---- fields of a class

own_cons : {A : Type 0} (test : A → Bool) (b : Bool) (x : A) (xs : List A) → list_all test (if b then x ∷ xs else xs) ≡ ((not b || test x) && list_all test xs)
own_cons test true x xs = refl
own_cons test false x xs = refl

-- the field at a place is the first of those from it on
pub own_at : (test : MemberId × List ℕ → Bool) (class place i : ℕ) (fields : List Field) (field : Field) → i < length fields → field ≡ slice_index_or fields i field
    → list_all test (own_fields class place (drop i fields)) ≡ (own_holds test class place field && list_all test (own_fields class (suc place) (drop (suc i) fields)))
own_at test class place i [] field inside is = absurd (omega arith)
own_at test class place zero (f ∷ fields) field inside is =
    rw is (own_cons test (is_object_field f) (member class place, f.desc) (own_fields class (suc place) fields))
own_at test class place (suc i) (f ∷ fields) field inside is = own_at test class place i fields field (omega arith) is

-- a field of an object, by its place in its class
pub record IsAt (fields : List Field) (class place : ℕ) (m : MemberId) (type : List ℕ) : Type 0 where
  pub i : ℕ
  pub field : Field
  pub of_class : m.class ≡ class
  pub there : slice_get fields i ≡ Some field
  pub at_place : m.member ≡ place + i
  pub of_objects : is_object_field field ≡ true
  pub typed : type ≡ field.desc

at_next : (f : Field) (fields : List Field) (class place : ℕ) (m : MemberId) (type : List ℕ) → IsAt fields class (suc place) m type → IsAt (f ∷ fields) class place m type
at_next f fields class place m type is = record {
  i = suc is.i;
  field = is.field;
  of_class = is.of_class;
  there = is.there;
  at_place = is.at_place ∙ omega arith;
  of_objects = is.of_objects;
  typed = is.typed;
}

at_first : (f : Field) (fields : List Field) (class place : ℕ) (m : MemberId) (type : List ℕ) → is_object_field f ≡ true → ◌≡◌ {A = MemberId × List ℕ} (member class place, f.desc) (m, type) → IsAt (f ∷ fields) class place m type
at_first f fields class place m type of same = record {
  i = 0;
  field = f;
  of_class = sym (ap (λ (x : MemberId × List ℕ). x.0.class) same);
  there = refl;
  at_place = sym (ap (λ (x : MemberId × List ℕ). x.0.member) same) ∙ omega arith;
  of_objects = of;
  typed = sym (ap (λ (x : MemberId × List ℕ). x.1) same);
}

if_cases : {A : Type 0} (b : Bool) (x y : A) (xs : List A) → Contains (if b then x ∷ xs else xs) y → ((b ≡ true) × (x ≡ y)) ⊎ Contains xs y
if_cases true x y xs (zero, inside, is) = inl (refl, is)
if_cases true x y xs (suc k, inside, is) = inr (k, omega arith, is)
if_cases false x y xs there = inr there

if_first : {A : Type 0} (b : Bool) (x : A) (xs : List A) → b ≡ true → Contains (if b then x ∷ xs else xs) x
if_first true x xs is = (0, omega arith, refl)
if_first false x xs is = absurd cc

if_rest : {A : Type 0} (b : Bool) (x y : A) (xs : List A) → Contains xs y → Contains (if b then x ∷ xs else xs) y
if_rest true x y xs there = contains_tail x xs y there
if_rest false x y xs there = there

pub own_is_at : (fields : List Field) (class place : ℕ) (m : MemberId) (type : List ℕ) → Contains (own_fields class place fields) (m, type) → IsAt fields class place m type
own_is_at [] class place m type (k, inside, is) = absurd (omega arith)
own_is_at (f ∷ fields) class place m type there =
    elim (if_cases (is_object_field f) (member class place, f.desc) (m, type) (own_fields class (suc place) fields) there) [
      | inl first ↦ at_first f fields class place m type first.0 first.1
      | inr rest ↦ at_next f fields class place m type (own_is_at fields class (suc place) m type rest)
    ]

own_contains : (fields : List Field) (class place i n : ℕ) (f : Field) → slice_get fields i ≡ Some f → is_object_field f ≡ true → n ≡ place + i → Contains (own_fields class place fields) (member class n, f.desc)
own_contains [] class place i n f there of at = absurd cc
own_contains (g ∷ fields) class place zero n f there of at =
    let same : f ≡ g = cc in
    let here : n ≡ place = omega arith in
    rw (here, same) (if_first (is_object_field g) (member class place, g.desc) (own_fields class (suc place) fields) (subst (λ (x : Field). is_object_field x ≡ true) same of))
own_contains (g ∷ fields) class place (suc i) n f there of at =
    if_rest (is_object_field g) (member class place, g.desc) (member class n, f.desc) (own_fields class (suc place) fields)
    (own_contains fields class (suc place) i n f there of (omega arith))

-- ---- all classes of a line

all_flat : {A B : Type 0} (p : B → Bool) (g : A → List B) (xs : List A) → list_all p (flat_map g xs) ≡ list_all (λ d. list_all p (g d)) xs
all_flat p g [] = refl
all_flat p g (x ∷ xs) = list_all-append p (g x) (flat_map g xs) ∙ ap (λ (b : Bool). list_all p (g x) && b) (all_flat p g xs)

member_same : (m n : MemberId) → IsTrue (is_member m n) → m ≡ n
member_same m n is =
    let parts : IsTrue (nat_eq m.class n.class) × IsTrue (nat_eq m.member n.member) = and_parts (nat_eq m.class n.class) (nat_eq m.member n.member) is in
    ap (λ (c : ℕ). member c m.member) (eqb-true m.class n.class parts.0) ∙ ap (member n.class) (eqb-true m.member n.member parts.1)

same_member : (m n : MemberId) → m ≡ n → IsTrue (is_member m n)
same_member m n is = and_from (nat_eq m.class n.class) (nat_eq m.member n.member) (eq-eqb m.class n.class (ap (λ (x : MemberId). x.class) is)) (eq-eqb m.member n.member (ap (λ (x : MemberId). x.member) is))

-- a value of the field
abbrev pub HasValue : World → Cells → List (MemberId × Value) → MemberId → List ℕ → Type 0
HasValue w heap fields m type = (value : Value) × Contains fields (m, value) × Agrees w heap type value

value_there : (w : World) (heap : Cells) (fields : List (MemberId × Value)) (m : MemberId) (type : List ℕ) → IsTrue (has_value w heap fields (m, type)) → HasValue w heap fields m type
value_there w heap fields m type is =
    let any : Any (λ f. (is_member m f.0 && agrees w heap type f.1) ≡ true) fields = Any-from_list_any (λ (f : MemberId × Value). is_member m f.0 && agrees w heap type f.1) fields is in
    let f : MemberId × Value = any.1 in
    let parts : IsTrue (is_member m f.0) × IsTrue (agrees w heap type f.1) = and_parts (is_member m f.0) (agrees w heap type f.1) any.4 in
    (f.1, subst (λ (n : MemberId). Contains fields (n, f.1)) (sym (member_same m f.0 parts.0)) (any.0, any.2, any.3), (agreeing_is w heap type f.1).0 parts.1)

there_value : (w : World) (heap : Cells) (fields : List (MemberId × Value)) (m : MemberId) (type : List ℕ) → HasValue w heap fields m type → IsTrue (has_value w heap fields (m, type))
there_value w heap fields m type (value, (k, inside, is), agree) =
    list_any-from_Any (λ (f : MemberId × Value). is_member m f.0 && agrees w heap type f.1) fields
    (k, (m, value), inside, is, and_from (is_member m m) (agrees w heap type value) (same_member m m refl) ((agreeing_is w heap type value).1 agree))

abbrev own_of : World → ℕ → List (MemberId × List ℕ)
own_of w d = own_fields d 0 (class_at w d).fields

each_to : (w : World) (heap : Cells) (c : ℕ) (fields : List (MemberId × Value)) → IsTrue (has_each w heap fields (line w c)) → (m : MemberId) (type : List ℕ) → Contains (object_fields w c) (m, type) → HasValue w heap fields m type
unfolding object_fields
each_to w heap c fields is m type there =
    value_there w heap fields m type
    (All-contains (λ (x : MemberId × List ℕ). has_value w heap fields x ≡ true) (object_fields w c) (m, type)
    (AllPass-from_list_all (has_value w heap fields) (object_fields w c) (all_flat (has_value w heap fields) (own_of w) (line w c) ∙ is)) there)

each_from : (w : World) (heap : Cells) (c : ℕ) (fields : List (MemberId × Value)) → ((m : MemberId) (type : List ℕ) → Contains (object_fields w c) (m, type) → HasValue w heap fields m type) → IsTrue (has_each w heap fields (line w c))
unfolding object_fields
each_from w heap c fields each =
    sym (all_flat (has_value w heap fields) (own_of w) (line w c))
    ∙ list_all-from_AllPass (has_value w heap fields) (object_fields w c)
    (λ k d inside.
    let x : MemberId × List ℕ = slice_index_or (object_fields w c) k d in
    there_value w heap fields x.0 x.1 (each x.0 x.1 (Contains-get_or (object_fields w c) k d inside)))

option_passes : (o : Option Field) → IsTrue (option_map_or is_object_field o false) → (f : Field) × (o ≡ Some f) × (is_object_field f ≡ true)
option_passes None is = absurd cc
option_passes (Some f) is = (f, refl, is)

passes_option : (o : Option Field) (f : Field) → o ≡ Some f → is_object_field f ≡ true → IsTrue (option_map_or is_object_field o false)
passes_option o f is passes = rw is passes

abbrev declares : World → MemberId → Bool
declares w m = option_map_or is_object_field (slice_get (class_at w m.class).fields m.member) false

known_to : (w : World) (classes : List ℕ) (m : MemberId) → IsTrue (is_known w classes m) → (type : List ℕ) × Contains (flat_map (own_of w) classes) (m, type)
known_to w classes m is =
    let parts : IsTrue (list_any (nat_eq m.class) classes) × IsTrue (declares w m) = and_parts (list_any (nat_eq m.class) classes) (declares w m) is in
    let any : Any (λ d. nat_eq m.class d ≡ true) classes = Any-from_list_any (nat_eq m.class) classes parts.0 in
    let f : (f : Field) × (slice_get (class_at w m.class).fields m.member ≡ Some f) × (is_object_field f ≡ true) = option_passes (slice_get (class_at w m.class).fields m.member) parts.1 in (
      f.0.desc,
      in_flat (own_of w) classes m.class (m, f.0.desc)
          (subst (λ (d : ℕ). Contains classes d) (sym (eqb-true m.class any.1 any.4)) (any.0, any.2, any.3))
          (own_contains (class_at w m.class).fields m.class 0 m.member m.member f.0 f.1 f.2 (omega arith)),
    )

known_from : (w : World) (classes : List ℕ) (m : MemberId) (type : List ℕ) → Contains (flat_map (own_of w) classes) (m, type) → IsTrue (is_known w classes m)
known_from w classes m type there =
    let from = from_flat (own_of w) classes (m, type) there in
    let at : IsAt (class_at w from.0).fields from.0 0 m type = own_is_at (class_at w from.0).fields from.0 0 m type from.2 in
    let place : m.member ≡ at.i = at.at_place ∙ omega arith in
    and_from (list_any (nat_eq m.class) classes) (declares w m)
    (list_any-from_Any (nat_eq m.class) classes (from.1.0, from.0, from.1.1, from.1.2, eq-eqb m.class from.0 at.of_class))
    (passes_option (slice_get (class_at w m.class).fields m.member) at.field
    (ap (λ (d : ℕ). slice_get (class_at w d).fields m.member) at.of_class ∙ ap (λ (k : ℕ). slice_get (class_at w from.0).fields k) place ∙ at.there) at.of_objects)

knowns_to : (w : World) (c : ℕ) (fields : List (MemberId × Value)) → IsTrue (are_known w (line w c) fields) → (m : MemberId) (value : Value) → Contains fields (m, value) → (type : List ℕ) × Contains (object_fields w c) (m, type)
unfolding object_fields
knowns_to w c fields is m value there =
    known_to w (line w c) m
    (All-contains (λ (f : MemberId × Value). is_known w (line w c) f.0 ≡ true) fields (m, value) (AllPass-from_list_all (λ (f : MemberId × Value). is_known w (line w c) f.0) fields is) there)

knowns_from : (w : World) (c : ℕ) (fields : List (MemberId × Value)) → ((m : MemberId) (value : Value) → Contains fields (m, value) → (type : List ℕ) × Contains (object_fields w c) (m, type)) → IsTrue (are_known w (line w c) fields)
unfolding object_fields
knowns_from w c fields other =
    list_all-from_AllPass (λ (f : MemberId × Value). is_known w (line w c) f.0) fields
    (λ k d inside.
    let x : MemberId × Value = slice_index_or fields k d in
    let typed : (type : List ℕ) × Contains (flat_map (own_of w) (line w c)) (x.0, type) = other x.0 x.1 (Contains-get_or fields k d inside) in
    known_from w (line w c) x.0 typed.0 typed.1)

-- ---- no field twice

once_to : (fields : List (MemberId × Value)) → IsTrue (are_distinct fields) → (i j : ℕ) (d : MemberId × Value) → i < j → j < length fields → (slice_index_or fields i d).0 ≢ (slice_index_or fields j d).0
once_to [] is i j d before inside same = absurd (omega arith)
once_to (f ∷ fields) is zero zero d before inside same = absurd (omega arith)
once_to (f ∷ fields) is (suc i) zero d before inside same = absurd (omega arith)
once_to (f ∷ fields) is zero (suc j) d before inside same =
    let parts : IsTrue (not (list_any (λ g. is_member f.0 g.0) fields)) × IsTrue (are_distinct fields) = and_parts (not (list_any (λ g. is_member f.0 g.0) fields)) (are_distinct fields) is in
    let there : list_any (λ g. is_member f.0 g.0) fields ≡ true = list_any_at (λ (g : MemberId × Value). is_member f.0 g.0) fields j d (omega arith) (same_member f.0 (slice_index_or fields j d).0 same) in
    let absent : list_any (λ g. is_member f.0 g.0) fields ≡ false = not-true (list_any (λ g. is_member f.0 g.0) fields) parts.0 in
    absurd cc
once_to (f ∷ fields) is (suc i) (suc j) d before inside same =
    once_to fields (and_parts (not (list_any (λ g. is_member f.0 g.0) fields)) (are_distinct fields) is).1 i j d (omega arith) (omega arith) same

once_from : (fields : List (MemberId × Value)) → AllPairs (λ f g. f.0 ≢ g.0) fields → IsTrue (are_distinct fields)
once_from [] pairs = refl
once_from (f ∷ fields) pairs =
    and_from (not (list_any (λ g. is_member f.0 g.0) fields)) (are_distinct fields)
    (not_from_false (list_any (λ g. is_member f.0 g.0) fields)
    (list_any_none (λ (g : MemberId × Value). is_member f.0 g.0) fields
    (λ k d inside. false_from_ne_true (is_member f.0 (slice_index_or fields k d).0) (λ is. pairs 0 (suc k) d (omega arith) (omega arith) (member_same f.0 (slice_index_or fields k d).0 is)))))
    (once_from fields (λ i j d before inside. pairs (suc i) (suc j) d (omega arith) (omega arith)))

-- ---- objects

abbrev has_all : World → Cells → ℕ → List (MemberId × Value) → Bool
has_all w heap class fields = has_each w heap fields (line w class) && are_known w (line w class) fields

pub object_is : (w : World) (heap : Cells) (class : ℕ) (fields : List (MemberId × Value)) → IsTrue (is_object w heap class fields) ↔ IsObject w heap class fields
object_is w heap class fields = (
  λ is.
      let first : IsTrue (nat_lt class (length w)) × IsTrue (is_instantiable w class && (are_distinct fields && has_all w heap class fields)) = and_parts (nat_lt class (length w)) (is_instantiable w class && (are_distinct fields && has_all w heap class fields)) is in
      let second : IsTrue (is_instantiable w class) × IsTrue (are_distinct fields && has_all w heap class fields) = and_parts (is_instantiable w class) (are_distinct fields && has_all w heap class fields) first.1 in
      let third : IsTrue (are_distinct fields) × IsTrue (has_all w heap class fields) = and_parts (are_distinct fields) (has_all w heap class fields) second.1 in
      let fourth : IsTrue (has_each w heap fields (line w class)) × IsTrue (are_known w (line w class) fields) = and_parts (has_each w heap fields (line w class)) (are_known w (line w class) fields) third.1 in
      record {
        known = ltb-true class (length w) first.0;
        instantiable = second.0;
        once = once_to fields third.0;
        each = each_to w heap class fields fourth.0;
        no_other = knowns_to w class fields fourth.1;
      },
  λ is.
      and_from (nat_lt class (length w)) (is_instantiable w class && (are_distinct fields && has_all w heap class fields)) (lt-ltb class (length w) is.known)
      (and_from (is_instantiable w class) (are_distinct fields && has_all w heap class fields) is.instantiable
      (and_from (are_distinct fields) (has_all w heap class fields) (once_from fields is.once)
      (and_from (has_each w heap fields (line w class)) (are_known w (line w class) fields) (each_from w heap class fields is.each) (knowns_from w class fields is.no_other)))),
)
