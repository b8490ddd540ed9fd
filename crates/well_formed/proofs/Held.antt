-- What is held stays held where the heap changes.
use Rattle.std.proofs.Common.{nat_eq, ◌≡◌, ◌≢◌, ◌⊎◌, inl, inr, ℕ, zero, suc, ◌<◌, Bool, true, false, List, [], ◌∷◌, length, map, get_or, Option, Some, None, refl, sym, ◌∙◌, ap, subst, arith, AllPairs, Contains}
use Rattle.std.specs.Prelude.{slice_set, if◌then◌else◌}
use Rattle.std.specs.Option.{option_map, option_map_or}
use Rattle.std.specs.List.{AllByRecursion}
use Rattle.std.proofs.lemmas.Bool.{and_from, eq-eqb}
use Rattle.std.proofs.lemmas.List.{get_or-map, length-map, length-set}
use Rattle.std.proofs.lemmas.List.Elements.{All-from_recursion, recursion_from_All, All-weaker, All-contains, All-set}
use Rattle.common_laws.proofs.Members.{contains_head, contains_tail, contains_cases, contains_none, in_map}
use Rattle.world.specs.declared.member.MemberId.{MemberId}
use Rattle.class_hierarchy.specs.World.{World}
use Rattle.frames.specs.declared.value.Value.{Value}
use Rattle.frames.specs.declared.value.Value.TheVariants.{Int, Long, Pad, Null, Ref}
use Rattle.frames.specs.declared.heap.Cell.{Cell}
use Rattle.frames.specs.declared.heap.Cell.TheVariants.{Object, Array}
use Rattle.frames.specs.Slots.{is_member, value_of, with_value}
use Rattle.frames.specs.Heap.{Cells, cell_at, free_number, object_fields, with_cell, with_changed, with_item, with_member}
use Rattle.frames.specs.Kept.{IsKept, KeepsHeap}
use Rattle.frames.specs.Kept as kept
use Rattle.frames.proofs.Keeping.{types_keep, field_keeps, cell_keeps}
use Rattle.frames.proofs.Placing.{same_member}
use Rattle.entries.specs.Entry.{IsInRange, Agrees, IsObject, IsArray, IsHeld, values_in, Leads, refers, through, Reaches}
use Rattle.entries.specs.Entering.{IsHeldFrom}
use Rattle.entries.proofs.Reaching.{contains_field, one_value, edge_reaches}
use Rattle.well_formed.specs.WellFormed.{IsWord}
use Rattle.well_formed.proofs.Fields.{HasType, one_type}

-- ---- where all that has a number keeps it

agrees_later : (w : World) (before now : Cells) (type : List ℕ) (value : Value) → KeepsHeap before now → Agrees w before type value → Agrees w now type value
agrees_later w before now type value keeps is = (types_keep w before now type value keeps is.0, is.1)

object_later : (w : World) (before now : Cells) (class : ℕ) (fields : List (MemberId × Value)) → KeepsHeap before now → IsObject w before class fields → IsObject w now class fields
object_later w before now class fields keeps is = record {
  known = is.known;
  instantiable = is.instantiable;
  once = is.once;
  each = λ m type there. let x = is.each m type there in (x.0, x.1, agrees_later w before now type x.0 keeps x.2);
  no_other = is.no_other;
}

items_later : (w : World) (before now : Cells) (element : List ℕ) (items : List Value) → KeepsHeap before now → AllByRecursion (Agrees w before element) items → AllByRecursion (Agrees w now element) items
items_later w before now element items keeps each =
    recursion_from_All (Agrees w now element) items
    (All-weaker (Agrees w before element) (Agrees w now element) (λ v is. agrees_later w before now element v keeps is) items (All-from_recursion (Agrees w before element) items each))

pub held_later : (w : World) (before now : Cells) (cell : Option Cell) → KeepsHeap before now → IsHeld w before cell → IsHeld w now cell
held_later w before now None keeps is = absurd is
held_later w before now (Some (Object class fields)) keeps is = object_later w before now class fields keeps is
held_later w before now (Some (Array element items)) keeps is =
    record { described = is.described; few = is.few; each = items_later w before now element items keeps is.each }

-- ---- what is held has values of descriptors

held_agrees : (w : World) (heap : Cells) (cell : Option Cell) (value : Value) → IsHeld w heap cell → Contains (values_in cell) value → (type : List ℕ) × Agrees w heap type value
held_agrees w heap None value is there = absurd is
held_agrees w heap (Some (Object class fields)) value is there =
    let field : (m : MemberId) × Contains fields (m, value) = contains_field fields value there in
    let typed = is.no_other field.0 value field.1 in
    let agreed = is.each field.0 typed.0 typed.1 in
    let same : agreed.0 ≡ value = one_value fields field.0 agreed.0 value is.once agreed.1 field.1 in
    (typed.0, subst (λ (v : Value). Agrees w heap typed.0 v) same agreed.2)
held_agrees w heap (Some (Array element items)) value is there =
    (element, All-contains (Agrees w heap element) items value (All-from_recursion (Agrees w heap element) items is.each) there)

-- a value that agrees with a descriptor is a word, where it refers to what is held
pub agreed_word : (w : World) (heap : Cells) (type : List ℕ) (value : Value) → IsInRange type value → ((r : ℕ) → value ≡ Ref r → IsHeldFrom w heap (Ref r)) → IsWord w heap value
agreed_word w heap type (Int n) is from = is.0
agreed_word w heap type (Long n) is from = is
agreed_word w heap type Pad is from = tt
agreed_word w heap type Null is from = tt
agreed_word w heap type (Ref r) is from = from r refl

held_step : (w : World) (heap : Cells) (a b : ℕ) → IsHeldFrom w heap (Ref a) → Contains (values_in (cell_at heap a)) (Ref b) → IsHeldFrom w heap (Ref b)
held_step w heap a b all there = λ c reaches. all c (inr (edge_reaches heap a b c there reaches))

pub held_here : (w : World) (heap : Cells) (r : ℕ) → IsHeldFrom w heap (Ref r) → IsHeld w heap (cell_at heap r)
held_here w heap r all = all r (inl refl)

-- a value in what is held is a word
pub value_word : (w : World) (heap : Cells) (r : ℕ) (value : Value) → IsHeldFrom w heap (Ref r) → Contains (values_in (cell_at heap r)) value → IsWord w heap value
value_word w heap r value all there =
    let agrees = held_agrees w heap (cell_at heap r) value (held_here w heap r all) there in
    agreed_word w heap agrees.0 value agrees.1.1
    (λ b is. held_step w heap r b all (subst (λ (v : Value). Contains (values_in (cell_at heap r)) v) is there))

-- ---- what references lead to

led : (heap : Cells) (Q : ℕ → Type 0) → ((a b : ℕ) → Q a → Contains (values_in (cell_at heap a)) (Ref b) → Q b) → {a b : ℕ} → Leads heap a b → Q a → Q b
led heap Q step (refers {a = a} {b = b} there) q = step a b q there
led heap Q step (through {a = a} {b = b} there more) q = led heap Q step more (step a b q there)

all_held : (w : World) (heap : Cells) (Q : ℕ → Type 0) → ((a : ℕ) → Q a → IsHeld w heap (cell_at heap a)) → ((a b : ℕ) → Q a → Contains (values_in (cell_at heap a)) (Ref b) → Q b)
    → (a b : ℕ) → Q a → Reaches heap a b → IsHeld w heap (cell_at heap b)
all_held w heap Q each step a b q (inl same) = subst (λ (c : ℕ). IsHeld w heap (cell_at heap c)) same (each a q)
all_held w heap Q each step a b q (inr leads) = each b (led heap Q step leads q)

-- ---- a change at one number

set_at : (heap : Cells) (r a : ℕ) (new : Cell) → (cell_at (slice_set heap r (Some new)) a ≡ cell_at heap a) ⊎ ((a ≡ r) × (cell_at (slice_set heap r (Some new)) a ≡ Some new))
set_at [] r a new = inl refl
set_at (slot ∷ heap) zero zero new = inr (refl, refl)
set_at (slot ∷ heap) zero (suc a) new = inl refl
set_at (slot ∷ heap) (suc r) zero new = inl refl
set_at (slot ∷ heap) (suc r) (suc a) new = elim (set_at heap r a new) [ inl same ↦ inl same | inr is ↦ inr (ap suc is.0, is.1) ]

changed_by : (change : Cell → Cell) (r : ℕ) (heap : Cells) (a : ℕ) (at : Option Cell)
    → let now : Cells = option_map_or (λ (cell : Cell). slice_set heap r (Some (change cell))) at heap in
    (cell_at now a ≡ cell_at heap a) ⊎ ((a ≡ r) × (cell_at now a ≡ option_map change at))
changed_by change r heap a None = inl refl
changed_by change r heap a (Some cell) = set_at heap r a (change cell)

changed_at : (change : Cell → Cell) (r : ℕ) (heap : Cells) (a : ℕ) → (cell_at (with_changed change r heap) a ≡ cell_at heap a) ⊎ ((a ≡ r) × (cell_at (with_changed change r heap) a ≡ option_map change (cell_at heap r)))
changed_at change r heap a = changed_by change r heap a (cell_at heap r)

-- what is held stays so, where a value is put in
abbrev pub StaysHeld : World → Cells → ℕ → (Cell → Cell) → Type 0
StaysHeld w heap r change = (cell : Cell) → cell_at heap r ≡ Some cell → IsHeld w heap (Some cell) → IsHeld w heap (Some (change cell))

abbrev pub PutsOnly : (Cell → Cell) → Value → Type 0
PutsOnly change value = (cell : Cell) (u : Value) → Contains (values_in (Some (change cell))) u → (u ≡ value) ⊎ Contains (values_in (Some cell)) u

option_held : (w : World) (heap : Cells) (r : ℕ) (change : Cell → Cell) (at : Option Cell) → StaysHeld w heap r change → cell_at heap r ≡ at → IsHeld w heap at → IsHeld w heap (option_map change at)
option_held w heap r change None stays is held = absurd held
option_held w heap r change (Some cell) stays is held = stays cell is held

option_puts : (change : Cell → Cell) (value : Value) (at : Option Cell) (u : Value) → PutsOnly change value → Contains (values_in (option_map change at)) u → (u ≡ value) ⊎ Contains (values_in at) u
option_puts change value None u puts there = absurd (contains_none u there)
option_puts change value (Some cell) u puts there = puts cell u there

module _ (w : World) (heap : Cells) (r : ℕ) (change : Cell → Cell) (value : Value) (keeps : KeepsHeap heap (with_changed change r heap)) (word : IsWord w heap value) (stays : StaysHeld w heap r change) (puts : PutsOnly change value) where
  changed_each : (a : ℕ) → IsHeldFrom w heap (Ref a) → IsHeld w (with_changed change r heap) (cell_at (with_changed change r heap) a)
  changed_each a all =
      let now : Cells = with_changed change r heap in
      elim (changed_at change r heap a) [
        | inl same ↦ subst (λ (cell : Option Cell). IsHeld w now cell) (sym same) (held_later w heap now (cell_at heap a) keeps (held_here w heap a all))
        | inr is ↦
            let held : IsHeld w heap (cell_at heap r) = subst (λ (k : ℕ). IsHeld w heap (cell_at heap k)) is.0 (held_here w heap a all) in
            subst (λ (cell : Option Cell). IsHeld w now cell) (sym is.1)
            (held_later w heap now (option_map change (cell_at heap r)) keeps (option_held w heap r change (cell_at heap r) stays refl held))
      ]

  changed_step : (a b : ℕ) → IsHeldFrom w heap (Ref a) → Contains (values_in (cell_at (with_changed change r heap) a)) (Ref b) → IsHeldFrom w heap (Ref b)
  changed_step a b all there =
      elim (changed_at change r heap a) [
        | inl same ↦ held_step w heap a b all (subst (λ (cell : Option Cell). Contains (values_in cell) (Ref b)) same there)
        | inr is ↦
            elim (option_puts change value (cell_at heap r) (Ref b) puts (subst (λ (cell : Option Cell). Contains (values_in cell) (Ref b)) is.1 there)) [
              | inl put ↦ subst (λ (v : Value). IsWord w heap v) (sym put) word
              | inr old ↦ held_step w heap a b all (subst (λ (k : ℕ). Contains (values_in (cell_at heap k)) (Ref b)) (sym is.0) old)
            ]
      ]

  pub changed_words : (u : Value) → IsWord w heap u → IsWord w (with_changed change r heap) u
  changed_words (Int n) is = is
  changed_words (Long n) is = is
  changed_words Pad is = tt
  changed_words Null is = tt
  changed_words (Ref a) all = λ b reaches.
      all_held w (with_changed change r heap) (λ (x : ℕ). IsHeldFrom w heap (Ref x)) changed_each changed_step a b all reaches

-- ---- a field

put_if : (m : MemberId) (value : Value) (f : MemberId × Value) (fs : List (MemberId × Value)) (first : Bool) (n : MemberId) (u : Value) → is_member m f.0 ≡ first
    → (Contains (with_value m value fs) (n, u) → ((n ≡ m) × (u ≡ value) × ((x : Value) × Contains fs (n, x))) ⊎ Contains fs (n, u))
    → Contains (if first then (m, value) ∷ fs else f ∷ with_value m value fs) (n, u)
    → ((n ≡ m) × (u ≡ value) × ((x : Value) × Contains (f ∷ fs) (n, x))) ⊎ Contains (f ∷ fs) (n, u)
put_if m value f fs true n u is later there =
    elim (contains_cases (m, value) fs (n, u) there) [
      | inl same ↦
          let at : m ≡ n = ap (λ (x : MemberId × Value). x.0) same in
          let here : m ≡ f.0 = same_member m f.0 is in
          inl (sym at, sym (ap (λ (x : MemberId × Value). x.1) same), (f.1, subst (λ (k : MemberId). Contains (f ∷ fs) (k, f.1)) (sym here ∙ at) (contains_head f fs)))
      | inr rest ↦ inr (contains_tail f fs (n, u) rest)
    ]
put_if m value f fs false n u is later there =
    elim (contains_cases f (with_value m value fs) (n, u) there) [
      | inl same ↦ inr (subst (λ (x : MemberId × Value). Contains (f ∷ fs) x) same (contains_head f fs))
      | inr rest ↦ elim (later rest) [
        | inl put ↦ inl (put.0, put.1, (put.2.0, contains_tail f fs (n, put.2.0) put.2.1))
        | inr old ↦ inr (contains_tail f fs (n, u) old)
      ]
    ]

put_from : (m : MemberId) (value : Value) (fields : List (MemberId × Value)) (n : MemberId) (u : Value) → Contains (with_value m value fields) (n, u)
    → ((n ≡ m) × (u ≡ value) × ((x : Value) × Contains fields (n, x))) ⊎ Contains fields (n, u)
put_from m value [] n u there = absurd (contains_none (n, u) there)
put_from m value (f ∷ fs) n u there = put_if m value f fs (is_member m f.0) n u refl (λ rest. put_from m value fs n u rest) there

there_if : (m : MemberId) (value : Value) (f : MemberId × Value) (fs : List (MemberId × Value)) (first : Bool) → (first ≡ false → Contains (with_value m value fs) (m, value))
    → Contains (if first then (m, value) ∷ fs else f ∷ with_value m value fs) (m, value)
there_if m value f fs true later = contains_head (m, value) fs
there_if m value f fs false later = contains_tail f (with_value m value fs) (m, value) (later refl)

member_itself : (m : MemberId) → is_member m m ≡ true
member_itself m = and_from (nat_eq m.class m.class) (nat_eq m.member m.member) (eq-eqb m.class m.class refl) (eq-eqb m.member m.member refl)

put_there : (m : MemberId) (value : Value) (fields : List (MemberId × Value)) (u : Value) → Contains fields (m, u) → Contains (with_value m value fields) (m, value)
put_there m value [] u there = absurd (contains_none (m, u) there)
put_there m value (f ∷ fs) u there =
    there_if m value f fs (is_member m f.0)
    (λ not. elim (contains_cases f fs (m, u) there) [
      | inl same ↦
          let here : is_member m f.0 ≡ true = subst (λ (k : MemberId). is_member m k ≡ true) (sym (ap (λ (x : MemberId × Value). x.0) same)) (member_itself m) in
          absurd (cc)
      | inr rest ↦ put_there m value fs u rest
    ])

others_if : (m : MemberId) (value : Value) (f : MemberId × Value) (fs : List (MemberId × Value)) (first : Bool) (n : MemberId) (u : Value) → is_member m f.0 ≡ first → is_member m n ≡ false
    → Contains (f ∷ fs) (n, u) → (Contains fs (n, u) → Contains (with_value m value fs) (n, u)) → Contains (if first then (m, value) ∷ fs else f ∷ with_value m value fs) (n, u)
others_if m value f fs true n u is other there later =
    elim (contains_cases f fs (n, u) there) [
      | inl same ↦
          let here : is_member m n ≡ true = subst (λ (k : MemberId). is_member m k ≡ true) (ap (λ (x : MemberId × Value). x.0) same) is in
          absurd (cc)
      | inr rest ↦ contains_tail (m, value) fs (n, u) rest
    ]
others_if m value f fs false n u is other there later =
    elim (contains_cases f fs (n, u) there) [
      | inl same ↦ subst (λ (x : MemberId × Value). Contains (f ∷ with_value m value fs) x) same (contains_head f (with_value m value fs))
      | inr rest ↦ contains_tail f (with_value m value fs) (n, u) (later rest)
    ]

put_others : (m : MemberId) (value : Value) (fields : List (MemberId × Value)) (n : MemberId) (u : Value) → is_member m n ≡ false → Contains fields (n, u) → Contains (with_value m value fields) (n, u)
put_others m value [] n u other there = absurd (contains_none (n, u) there)
put_others m value (f ∷ fs) n u other there = others_if m value f fs (is_member m f.0) n u refl other there (λ rest. put_others m value fs n u other rest)

abbrev NamesKept : Option Cell → Option Cell → Type 0
NamesKept (Some (Object c before)) (Some (Object d now)) = map (λ (g : MemberId × Value). g.0) now ≡ map (λ (g : MemberId × Value). g.0) before
NamesKept before now = Unit {0}

names_by : {before now : Option Cell} → IsKept before now → NamesKept before now
names_by kept.nothing = tt
names_by (kept.object same) = same
names_by (kept.array same) = tt

-- the members stay
pub names_stay : (m : MemberId) (value : Value) (fields : List (MemberId × Value)) → map (λ (g : MemberId × Value). g.0) (with_value m value fields) ≡ map (λ (g : MemberId × Value). g.0) fields
names_stay m value fields = names_by (field_keeps 0 m value (Some (Object 0 fields) ∷ []) 0)

pairs_by : (xs ys : List (MemberId × Value)) → map (λ (g : MemberId × Value). g.0) xs ≡ map (λ (g : MemberId × Value). g.0) ys → AllPairs (λ f g. f.0 ≢ g.0) ys → AllPairs (λ f g. f.0 ≢ g.0) xs
pairs_by xs ys same pairs = λ i j d before inside.
    let name : MemberId × Value → MemberId = λ g. g.0 in
    let long : length xs ≡ length ys = sym (length-map xs name) ∙ ap (λ (ms : List MemberId). length ms) same ∙ length-map ys name in
    let at : (k : ℕ) → k < length xs → (get_or xs k d).0 ≡ (get_or ys k d).0 =
    λ k in_xs. sym (get_or-map name xs k d d.0 in_xs) ∙ ap (λ (ms : List MemberId). get_or ms k d.0) same ∙ get_or-map name ys k d d.0 (omega (arith, long, in_xs))
    in
    λ is. pairs i j d before (omega (arith, long, inside)) (sym (at i (omega arith)) ∙ is ∙ at j inside)

value_if : (m : MemberId) (f : MemberId × Value) (fs : List (MemberId × Value)) (value : Value) (first : Bool) → is_member m f.0 ≡ first → (if first then Some f.1 else value_of m fs) ≡ Some value
    → (value_of m fs ≡ Some value → Contains fs (m, value)) → Contains (f ∷ fs) (m, value)
value_if m f fs value true is e later =
    let here : f.1 ≡ value = cc in
    let same : m ≡ f.0 = same_member m f.0 is in
    subst (λ (n : MemberId). Contains (f ∷ fs) (n, value)) (sym same) (subst (λ (v : Value). Contains (f ∷ fs) (f.0, v)) here (contains_head f fs))
value_if m f fs value false is e later = contains_tail f fs (m, value) (later e)

pub value_there : (m : MemberId) (fields : List (MemberId × Value)) (value : Value) → value_of m fields ≡ Some value → Contains fields (m, value)
value_there m [] value is = absurd cc
value_there m (f ∷ fs) value is = value_if m f fs value (is_member m f.0) refl is (λ rest. value_there m fs value rest)

each_if : (w : World) (heap : Cells) (fields : List (MemberId × Value)) (m : MemberId) (type : List ℕ) (value : Value) (n : MemberId) (t : List ℕ) (u : Value) (same : Bool) → is_member m n ≡ same
    → HasType w m type → HasType w n t → Agrees w heap type value → Contains fields (n, u) → Agrees w heap t u → (v : Value) × Contains (with_value m value fields) (n, v) × Agrees w heap t v
each_if w heap fields m type value n t u true is of typed agrees there old =
    let here : m ≡ n = same_member m n is in
    let one : type ≡ t = one_type w n type t (subst (λ (k : MemberId). HasType w k type) here of) typed in
    let stands : Contains fields (m, u) = subst (λ (k : MemberId). Contains fields (k, u)) (sym here) there in (
      value,
      subst (λ (k : MemberId). Contains (with_value m value fields) (k, value)) here (put_there m value fields u stands),
      subst (λ (x : List ℕ). Agrees w heap x value) one agrees,
    )
each_if w heap fields m type value n t u false is of typed agrees there old = (u, put_others m value fields n u is there, old)

object_put : (w : World) (heap : Cells) (class : ℕ) (fields : List (MemberId × Value)) (m : MemberId) (type : List ℕ) (value : Value)
    → ((n : MemberId) (t : List ℕ) → Contains (object_fields w class) (n, t) → HasType w n t) → HasType w m type → Agrees w heap type value → IsObject w heap class fields → IsObject w heap class (with_value m value fields)
object_put w heap class fields m type value typed of agrees is = record {
  known = is.known;
  instantiable = is.instantiable;
  once = pairs_by (with_value m value fields) fields (names_stay m value fields) is.once;
  each = λ n t there. let old = is.each n t there in each_if w heap fields m type value n t old.0 (is_member m n) refl of (typed n t there) agrees old.1 old.2;
  no_other = λ n u there. elim (put_from m value fields n u there) [
    | inl put ↦ is.no_other n put.2.0 put.2.1
    | inr old ↦ is.no_other n u old
  ];
}

pub field_stays : (w : World) (heap : Cells) (r : ℕ) (m : MemberId) (type : List ℕ) (value : Value)
    → ((c : ℕ) (n : MemberId) (t : List ℕ) → Contains (object_fields w c) (n, t) → HasType w n t) → HasType w m type → Agrees w heap type value → StaysHeld w heap r (with_member m value)
field_stays w heap r m type value typed of agrees (Object class fields) at is = object_put w heap class fields m type value (typed class) of agrees is
field_stays w heap r m type value typed of agrees (Array element items) at is = is

pub field_puts : (m : MemberId) (value : Value) → PutsOnly (with_member m value) value
field_puts m value (Object class fields) u there =
    let from : (n : MemberId) × Contains (with_value m value fields) (n, u) = contains_field (with_value m value fields) u there in
    elim (put_from m value fields from.0 u from.1) [
      | inl put ↦ inl put.1
      | inr old ↦ inr (in_map (λ (f : MemberId × Value). f.1) fields (from.0, u) old)
    ]
field_puts m value (Array element items) u there = inr there

-- ---- an element

set_from : (items : List Value) (i : ℕ) (value u : Value) → Contains (slice_set items i value) u → (u ≡ value) ⊎ Contains items u
set_from [] i value u there = inr there
set_from (item ∷ items) zero value u there =
    elim (contains_cases value items u there) [ inl same ↦ inl (sym same) | inr rest ↦ inr (contains_tail item items u rest) ]
set_from (item ∷ items) (suc i) value u there =
    elim (contains_cases item (slice_set items i value) u there) [
      | inl same ↦ inr (subst (λ (x : Value). Contains (item ∷ items) x) same (contains_head item items))
      | inr rest ↦ elim (set_from items i value u rest) [ inl put ↦ inl put | inr old ↦ inr (contains_tail item items u old) ]
    ]

array_put : (w : World) (heap : Cells) (element : List ℕ) (items : List Value) (i : ℕ) (value : Value) → Agrees w heap element value → IsArray w heap element items → IsArray w heap element (slice_set items i value)
array_put w heap element items i value agrees is = record {
  described = is.described;
  few = (let long = length-set items i value in omega (arith, long, is.few));
  each = recursion_from_All (Agrees w heap element) (slice_set items i value) (All-set (Agrees w heap element) items i value agrees (All-from_recursion (Agrees w heap element) items is.each));
}

-- the element type is that of the array
pub item_stays : (w : World) (heap : Cells) (r i : ℕ) (type : List ℕ) (items : List Value) (value : Value) → cell_at heap r ≡ Some (Array type items) → Agrees w heap type value → StaysHeld w heap r (with_item i value)
item_stays w heap r i type items value at agrees (Object class fields) is held = held
item_stays w heap r i type items value at agrees (Array element others) is held =
    let same : type ≡ element = cc (at, is) in
    array_put w heap element others i value (subst (λ (t : List ℕ). Agrees w heap t value) same agrees) held

pub item_puts : (i : ℕ) (value : Value) → PutsOnly (with_item i value) value
item_puts i value (Object class fields) u there = inr there
item_puts i value (Array element items) u there = set_from items i value u there

-- ---- what is new

pub new_at : (heap : Cells) (cell : Cell) → cell_at (with_cell cell heap) (free_number heap) ≡ Some cell
new_at [] cell = refl
new_at (None ∷ heap) cell = refl
new_at (Some other ∷ heap) cell = new_at heap cell

pub new_or_old : (heap : Cells) (cell : Cell) (r : ℕ) → (cell_at (with_cell cell heap) r ≡ Some cell) ⊎ (cell_at (with_cell cell heap) r ≡ cell_at heap r)
new_or_old [] cell zero = inl refl
new_or_old [] cell (suc r) = inr refl
new_or_old (None ∷ heap) cell zero = inl refl
new_or_old (None ∷ heap) cell (suc r) = inr refl
new_or_old (Some other ∷ heap) cell zero = inr refl
new_or_old (Some other ∷ heap) cell (suc r) = new_or_old heap cell r

abbrev pub HasNoReference : Cell → Type 0
HasNoReference cell = (b : ℕ) → Contains (values_in (Some cell)) (Ref b) → ⊥

module _ (w : World) (heap : Cells) (cell : Cell) (held : IsHeld w (with_cell cell heap) (Some cell)) (none : HasNoReference cell) where
  added_each : (a : ℕ) → IsHeldFrom w heap (Ref a) ⊎ (a ≡ free_number heap) → IsHeld w (with_cell cell heap) (cell_at (with_cell cell heap) a)
  added_each a (inr new) = subst (λ (k : ℕ). IsHeld w (with_cell cell heap) (cell_at (with_cell cell heap) k)) (sym new) (subst (λ (o : Option Cell). IsHeld w (with_cell cell heap) o) (sym (new_at heap cell)) held)
  added_each a (inl all) =
      let now : Cells = with_cell cell heap in
      elim (new_or_old heap cell a) [
        | inl new ↦ subst (λ (o : Option Cell). IsHeld w now o) (sym new) held
        | inr old ↦ subst (λ (o : Option Cell). IsHeld w now o) (sym old) (held_later w heap now (cell_at heap a) (cell_keeps cell heap) (held_here w heap a all))
      ]

  added_step : (a b : ℕ) → IsHeldFrom w heap (Ref a) ⊎ (a ≡ free_number heap) → Contains (values_in (cell_at (with_cell cell heap) a)) (Ref b) → IsHeldFrom w heap (Ref b) ⊎ (b ≡ free_number heap)
  added_step a b (inr new) there =
      let at : cell_at (with_cell cell heap) a ≡ Some cell = ap (cell_at (with_cell cell heap)) new ∙ new_at heap cell in
      absurd (none b (subst (λ (o : Option Cell). Contains (values_in o) (Ref b)) at there))
  added_step a b (inl all) there =
      elim (new_or_old heap cell a) [
        | inl new ↦ absurd (none b (subst (λ (o : Option Cell). Contains (values_in o) (Ref b)) new there))
        | inr old ↦ inl (held_step w heap a b all (subst (λ (o : Option Cell). Contains (values_in o) (Ref b)) old there))
      ]

  added_from : (a : ℕ) → IsHeldFrom w heap (Ref a) ⊎ (a ≡ free_number heap) → IsHeldFrom w (with_cell cell heap) (Ref a)
  added_from a q = λ b reaches. all_held w (with_cell cell heap) (λ (x : ℕ). IsHeldFrom w heap (Ref x) ⊎ (x ≡ free_number heap)) added_each added_step a b q reaches

  pub new_word : IsWord w (with_cell cell heap) (Ref (free_number heap))
  new_word = added_from (free_number heap) (inr refl)

  pub added_words : (u : Value) → IsWord w heap u → IsWord w (with_cell cell heap) u
  added_words (Int n) is = is
  added_words (Long n) is = is
  added_words Pad is = tt
  added_words Null is = tt
  added_words (Ref a) all = added_from a (inl all)
