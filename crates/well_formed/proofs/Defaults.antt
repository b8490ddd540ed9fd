-- What is new is held: its fields and elements have the default values of their types.
use Rattle.std.proofs.Common.{◌≡◌, ◌≢◌, inl, inr, ℕ, zero, suc, ◌<◌, ◌≤◌, ◌||◌, Bool, true, false, List, [], ◌∷◌, ◌++◌, length, map, get_or, replicate, Option, Some, None, refl, sym, ◌∙◌, ap, subst, arith, AllPairs, Contains, nat_eq}
use Rattle.std.specs.Prelude.{ℤ, pos, codes, if◌then◌else◌}
use Rattle.std.specs.Option.{option_to_list}
use Rattle.std.specs.Ordering.{int_eq}
use Rattle.std.specs.List.{flat_map, list_any}
use Rattle.std.proofs.lemmas.Bool.{or_cases, eqb-true, eq-eqb}
use Rattle.std.proofs.lemmas.List.{length-replicate}
use Rattle.std.proofs.lemmas.List.Kept.{AllPairs-cons}
use Rattle.std.proofs.lemmas.List.Elements.{recursion_from_All, All-replicate, Contains-get_or, Contains-append_cases}
use Rattle.common_laws.proofs.Members.{contains_head, contains_tail, contains_cases, contains_none, in_map, from_map, from_flat}
use Rattle.common_laws.proofs.Tests.{any_left}
use Rattle.class_reader.specs.declared.class.Field.{Field}
use Rattle.descriptors.specs.Grammar.{FieldType, Base, Object, Array, type_text, HasForm, IsFieldDescriptor}
use Rattle.descriptors.specs.Texts.{is_array}
use Rattle.world.specs.declared.member.MemberId.{MemberId}
use Rattle.world.specs.Resolution.{member}
use Rattle.class_hierarchy.specs.World.{World, class_at, superclass, interfaces, line_from, is_instantiable}
use Rattle.class_hierarchy.specs.Building.{LeadsTo, supers, IsCyclic, IsWellBuilt}
use Rattle.class_hierarchy.specs.Building.LeadsTo.{once, through}
use Rattle.class_hierarchy.proofs.Lines.{line_ends, line_goes, line_stops}
use Rattle.frames.specs.declared.value.Value.{Value}
use Rattle.frames.specs.declared.value.Value.TheVariants.{Int, Long, Null, Ref}
use Rattle.frames.specs.declared.heap.Cell.TheVariants as cells
use Rattle.frames.specs.Types.{is_type, is_int_type, is_float_type}
use Rattle.frames.specs.Heap.{Cells, is_of_type, default_of, own_fields, is_object_field, object_fields, new_fields}
use Rattle.object_steps.specs.Classes.{type_named}
use Rattle.object_steps.specs.Arrays.{type_of_kind, new_array}
use Rattle.entries.specs.Entry.{Agrees, IsObject, IsArray}
use Rattle.entries.proofs.Objects.{IsAt, own_is_at}
use Rattle.well_formed.specs.WellFormed.{IsOfFiles}
use Rattle.well_formed.proofs.Fields.{of_objects}
use Rattle.well_formed.proofs.Held.{HasNoReference}

-- ---- default values

class_default : (w : World) (heap : Cells) (rest : List ℕ) → Agrees w heap (76 ∷ rest) (default_of (76 ∷ rest))
unfolding is_of_type
class_default w heap [] = (refl, tt)
class_default w heap (x ∷ xs) = (refl, tt)

array_default : (w : World) (heap : Cells) (rest : List ℕ) → Agrees w heap (91 ∷ rest) (default_of (91 ∷ rest))
unfolding is_of_type
array_default w heap [] = (refl, tt)
array_default w heap (x ∷ xs) = (refl, tt)

-- a type of one letter, of no float or double
abbrev LetterAgrees : World → Cells → ℕ → Type 0
LetterAgrees w heap letter = is_float_type (letter ∷ []) ≡ false → Agrees w heap (letter ∷ []) (default_of (letter ∷ []))

letter_at : (w : World) (heap : Cells) (letter known : ℕ) → nat_eq letter known ≡ true → LetterAgrees w heap known → LetterAgrees w heap letter
letter_at w heap letter known is agrees = subst (λ (l : ℕ). LetterAgrees w heap l) (sym (eqb-true letter known is)) agrees

z_agrees : (w : World) (heap : Cells) → LetterAgrees w heap 90
unfolding is_of_type
z_agrees w heap whole = (refl, (refl, refl))

b_agrees : (w : World) (heap : Cells) → LetterAgrees w heap 66
unfolding is_of_type
b_agrees w heap whole = (refl, (refl, refl))

c_agrees : (w : World) (heap : Cells) → LetterAgrees w heap 67
unfolding is_of_type
c_agrees w heap whole = (refl, (refl, refl))

s_agrees : (w : World) (heap : Cells) → LetterAgrees w heap 83
unfolding is_of_type
s_agrees w heap whole = (refl, (refl, refl))

i_agrees : (w : World) (heap : Cells) → LetterAgrees w heap 73
unfolding is_of_type
i_agrees w heap whole = (refl, (refl, refl))

j_agrees : (w : World) (heap : Cells) → LetterAgrees w heap 74
unfolding is_of_type
j_agrees w heap whole = (refl, refl)

d_agrees : (w : World) (heap : Cells) → LetterAgrees w heap 68
d_agrees w heap whole = absurd cc

f_agrees : (w : World) (heap : Cells) → LetterAgrees w heap 70
f_agrees w heap whole = absurd cc

one_of_two : {P : Type 0} (a b : Bool) → (a || b) ≡ true → (a ≡ true → P) → (b ≡ true → P) → P
one_of_two a b is first second = elim (or_cases a b is) [ inl here ↦ first here | inr there ↦ second there ]

letter_agrees : (w : World) (heap : Cells) (l : ℕ) → HasForm (Base l) → LetterAgrees w heap l
letter_agrees w heap l form =
    one_of_two ((nat_eq l 66 || nat_eq l 67) || (nat_eq l 68 || nat_eq l 70)) ((nat_eq l 73 || nat_eq l 74) || (nat_eq l 83 || nat_eq l 90)) form
    (λ low. one_of_two (nat_eq l 66 || nat_eq l 67) (nat_eq l 68 || nat_eq l 70) low
    (λ pair. one_of_two (nat_eq l 66) (nat_eq l 67) pair (λ is. letter_at w heap l 66 is (b_agrees w heap)) (λ is. letter_at w heap l 67 is (c_agrees w heap)))
    (λ pair. one_of_two (nat_eq l 68) (nat_eq l 70) pair (λ is. letter_at w heap l 68 is (d_agrees w heap)) (λ is. letter_at w heap l 70 is (f_agrees w heap))))
    (λ high. one_of_two (nat_eq l 73 || nat_eq l 74) (nat_eq l 83 || nat_eq l 90) high
    (λ pair. one_of_two (nat_eq l 73) (nat_eq l 74) pair (λ is. letter_at w heap l 73 is (i_agrees w heap)) (λ is. letter_at w heap l 74 is (j_agrees w heap)))
    (λ pair. one_of_two (nat_eq l 83) (nat_eq l 90) pair (λ is. letter_at w heap l 83 is (s_agrees w heap)) (λ is. letter_at w heap l 90 is (z_agrees w heap))))

type_agrees : (w : World) (heap : Cells) (type : FieldType) → HasForm type → is_float_type (type_text type) ≡ false → Agrees w heap (type_text type) (default_of (type_text type))
type_agrees w heap (Base letter) form whole = letter_agrees w heap letter form whole
type_agrees w heap (Object name) form whole = class_default w heap (name ++ 59 ∷ [])
type_agrees w heap (Array element) form whole = array_default w heap (type_text element)

-- the default of a descriptor, of no float or double, agrees with it
pub default_agrees : (w : World) (heap : Cells) (type : List ℕ) → IsFieldDescriptor type → is_float_type type ≡ false → Agrees w heap type (default_of type)
default_agrees w heap type is whole =
    subst (λ (t : List ℕ). Agrees w heap t (default_of t)) (sym is.parts) (type_agrees w heap is.type is.fits.0 (subst (λ (t : List ℕ). is_float_type t ≡ false) is.parts whole))

default_if : (int long : Bool) (b : ℕ) → (if int then Int (pos 0) else if long then Long (pos 0) else Null) ≡ Ref b → ⊥
default_if true long b e = cc
default_if false true b e = cc
default_if false false b e = cc

no_default : (type : List ℕ) (b : ℕ) → default_of type ≡ Ref b → ⊥
no_default type b e = default_if (is_int_type type) (is_type (codes "J") type) b e

-- ---- new arrays

item_is : (n : ℕ) (d x : Value) → Contains (replicate n d) x → d ≡ x
item_is zero d x there = absurd (contains_none x there)
item_is (suc n) d x there = elim (contains_cases d (replicate n d) x there) [ inl same ↦ same | inr rest ↦ item_is n d x rest ]

pub array_alone : (type : List ℕ) (n : ℕ) → HasNoReference (new_array type n)
array_alone type n b there = no_default type b (item_is n (default_of type) (Ref b) there)

pub array_held : (w : World) (heap : Cells) (type : List ℕ) (n : ℕ) → IsFieldDescriptor (91 ∷ type) → Agrees w heap type (default_of type) → n ≤ 2147483647 → IsArray w heap type (replicate n (default_of type))
array_held w heap type n described agrees few = record {
  described = described;
  few = (let long = length-replicate n (default_of type) in omega (arith, long, few));
  each = recursion_from_All (Agrees w heap type) (replicate n (default_of type)) (All-replicate (Agrees w heap type) n (default_of type) agrees);
}

-- what newarray makes arrays of
pub record IsPlain (w : World) (heap : Cells) (type : List ℕ) : Type 0 where
  pub described : IsFieldDescriptor (91 ∷ type)
  pub agrees : Agrees w heap type (default_of type)

letter_plain : (w : World) (heap : Cells) (letter : ℕ) → HasForm (Base letter) → is_float_type (letter ∷ []) ≡ false → IsPlain w heap (letter ∷ [])
letter_plain w heap letter form whole = record {
  described = record { type = Array (Base letter); parts = refl; fits = (form, omega arith) };
  agrees = letter_agrees w heap letter form whole;
}

plain_if : (w : World) (heap : Cells) (b : Bool) (text type : List ℕ) (others : Option (List ℕ)) → IsPlain w heap text → (others ≡ Some type → IsPlain w heap type)
    → (if b then Some text else others) ≡ Some type → IsPlain w heap type
plain_if w heap true text type others is later e = let same : text ≡ type = cc in subst (λ (t : List ℕ). IsPlain w heap t) same is
plain_if w heap false text type others is later e = later e

pub kind_plain : (w : World) (heap : Cells) (kind : ℤ) (type : List ℕ) → type_of_kind kind ≡ Some type → IsPlain w heap type
kind_plain w heap kind type e =
    plain_if w heap (int_eq kind (pos 4)) (codes "Z") type _ (letter_plain w heap 90 refl refl)
    (λ e5. plain_if w heap (int_eq kind (pos 5)) (codes "C") type _ (letter_plain w heap 67 refl refl)
    (λ e8. plain_if w heap (int_eq kind (pos 8)) (codes "B") type _ (letter_plain w heap 66 refl refl)
    (λ e9. plain_if w heap (int_eq kind (pos 9)) (codes "S") type _ (letter_plain w heap 83 refl refl)
    (λ e10. plain_if w heap (int_eq kind (pos 10)) (codes "I") type _ (letter_plain w heap 73 refl refl)
    (λ e11. plain_if w heap (int_eq kind (pos 11)) (codes "J") type None (letter_plain w heap 74 refl refl) (λ no. absurd cc) e11) e10) e9) e8) e5) e

named_if : (w : World) (heap : Cells) (name : List ℕ) (array : Bool) → is_array name ≡ array → Agrees w heap (if array then name else 76 ∷ name ++ 59 ∷ []) (default_of (if array then name else 76 ∷ name ++ 59 ∷ []))
named_if w heap [] true is = absurd cc
named_if w heap (b ∷ name) true is = subst (λ (l : ℕ). Agrees w heap (l ∷ name) (default_of (l ∷ name))) (sym (eqb-true b 91 is)) (array_default w heap name)
named_if w heap name false is = class_default w heap (name ++ 59 ∷ [])

pub named_agrees : (w : World) (heap : Cells) (name : List ℕ) → Agrees w heap (type_named name) (default_of (type_named name))
named_agrees w heap name = named_if w heap name (is_array name) refl

-- ---- new objects

abbrev own_of : World → ℕ → List (MemberId × List ℕ)
own_of w d = own_fields d 0 (class_at w d).fields

own_if : (f : Field) (fields : List Field) (class place : ℕ) (b : Bool) → AllPairs (λ f g. f.0 ≢ g.0) (own_fields class (suc place) fields)
    → AllPairs (λ f g. f.0 ≢ g.0) (if b then (member class place, f.desc) ∷ own_fields class (suc place) fields else own_fields class (suc place) fields)
own_if f fields class place true rest =
    AllPairs-cons (λ (f g : MemberId × List ℕ). f.0 ≢ g.0) (member class place, f.desc) (own_fields class (suc place) fields)
    (λ k d inside same.
    let x : MemberId × List ℕ = get_or (own_fields class (suc place) fields) k d in
    let at : IsAt fields class (suc place) x.0 x.1 = own_is_at fields class (suc place) x.0 x.1 (Contains-get_or (own_fields class (suc place) fields) k d inside) in
    let here : place ≡ x.0.member = ap (λ (m : MemberId). m.member) same in
    let behind = at.at_place in
    omega (arith, here, behind))
    rest
own_if f fields class place false rest = rest

own_once : (fields : List Field) (class place : ℕ) → AllPairs (λ f g. f.0 ≢ g.0) (own_fields class place fields)
own_once [] class place = λ i j d before inside. absurd (omega (arith, inside))
own_once (f ∷ fields) class place = own_if f fields class place (is_object_field f) (own_once fields class (suc place))

pairs_joined : (xs ys : List (MemberId × List ℕ)) → AllPairs (λ f g. f.0 ≢ g.0) xs → AllPairs (λ f g. f.0 ≢ g.0) ys
    → ((x y : MemberId × List ℕ) → Contains xs x → Contains ys y → x.0 ≢ y.0) → AllPairs (λ f g. f.0 ≢ g.0) (xs ++ ys)
pairs_joined [] ys one other apart = other
pairs_joined (x ∷ xs) ys one other apart =
    AllPairs-cons (λ (f g : MemberId × List ℕ). f.0 ≢ g.0) x (xs ++ ys)
    (λ k d inside.
    let y : MemberId × List ℕ = get_or (xs ++ ys) k d in
    elim (Contains-append_cases xs ys y (Contains-get_or (xs ++ ys) k d inside)) [
      | inl mine ↦ λ same. one 0 (suc mine.0) y (omega arith) (let l = mine.1 in omega (arith, l)) (same ∙ sym (ap (λ (f : MemberId × List ℕ). f.0) mine.2))
      | inr others ↦ apart x y (contains_head x xs) others
    ])
    (pairs_joined xs ys (λ i j d before inside. one (suc i) (suc j) d (omega arith) (omega arith)) other (λ u v mine others. apart u v (contains_tail x xs u mine) others))

super_step : (w : World) (c s : ℕ) → superclass w c ≡ Some s → list_any (nat_eq s) (supers w c) ≡ true
unfolding supers
super_step w c s e = any_left (nat_eq s) (option_to_list (superclass w c)) (interfaces w c) (rw (e, eq-eqb s s refl) refl)

leads : (w : World) (n : ℕ) (o : Option ℕ) (c d : ℕ) → superclass w c ≡ o → Contains (line_from w n o) d → LeadsTo (supers w) c d
leads w zero o c d e there = absurd (contains_none d (subst (λ (l : List ℕ). Contains l d) (line_stops w o) there))
leads w (suc n) None c d e there = absurd (contains_none d (subst (λ (l : List ℕ). Contains l d) (line_ends w (suc n)) there))
leads w (suc n) (Some s) c d e there =
    elim (contains_cases s (line_from w n (superclass w s)) d (subst (λ (l : List ℕ). Contains l d) (line_goes w n s) there)) [
      | inl same ↦ subst (λ (k : ℕ). LeadsTo (supers w) c k) same (once (super_step w c s e))
      | inr more ↦ through (super_step w c s e) (leads w n (superclass w s) s d refl more)
    ]

line_once : (w : World) (n : ℕ) (o : Option ℕ) → ((c : ℕ) → ¬ IsCyclic w c) → AllPairs (λ f g. f.0 ≢ g.0) (flat_map (own_of w) (line_from w n o))
line_once w zero o acyclic = subst (λ (l : List ℕ). AllPairs (λ f g. f.0 ≢ g.0) (flat_map (own_of w) l)) (sym (line_stops w o)) (λ i j d before inside. absurd (omega (arith, inside)))
line_once w (suc n) None acyclic = subst (λ (l : List ℕ). AllPairs (λ f g. f.0 ≢ g.0) (flat_map (own_of w) l)) (sym (line_ends w (suc n))) (λ i j d before inside. absurd (omega (arith, inside)))
line_once w (suc n) (Some c) acyclic =
    let rest : List ℕ = line_from w n (superclass w c) in
    subst (λ (l : List ℕ). AllPairs (λ f g. f.0 ≢ g.0) (flat_map (own_of w) l)) (sym (line_goes w n c))
    (pairs_joined (own_of w c) (flat_map (own_of w) rest) (own_once (class_at w c).fields c 0) (line_once w n (superclass w c) acyclic)
    (λ x y mine others same.
    let from = from_flat (own_of w) rest y others in
    let at : IsAt (class_at w c).fields c 0 x.0 x.1 = own_is_at (class_at w c).fields c 0 x.0 x.1 mine in
    let behind : IsAt (class_at w from.0).fields from.0 0 y.0 y.1 = own_is_at (class_at w from.0).fields from.0 0 y.0 y.1 from.2 in
    let back : from.0 ≡ c = sym behind.of_class ∙ sym (ap (λ (m : MemberId). m.class) same) ∙ at.of_class in
    acyclic c (subst (λ (k : ℕ). LeadsTo (supers w) c k) back (leads w n (superclass w c) c from.0 refl from.1))))

fields_once : (w : World) (c : ℕ) → IsWellBuilt w → AllPairs (λ f g. f.0 ≢ g.0) (object_fields w c)
unfolding object_fields
fields_once w c well = line_once w (length w) (Some c) well.no_cycle

abbrev pub empty : MemberId × List ℕ → MemberId × Value
empty f = (f.0, default_of f.1)

new_once : (fields : List (MemberId × List ℕ)) → AllPairs (λ f g. f.0 ≢ g.0) fields → AllPairs (λ (f g : MemberId × Value). f.0 ≢ g.0) (map empty fields)
new_once [] pairs = λ i j d before inside. absurd (omega (arith, inside))
new_once (f ∷ fields) pairs =
    AllPairs-cons (λ (f g : MemberId × Value). f.0 ≢ g.0) (empty f) (map empty fields)
    (λ k d inside same.
    let from = from_map empty fields (get_or (map empty fields) k d) (Contains-get_or (map empty fields) k d inside) in
    let there = from.1 in
    let name : from.0.0 ≡ (get_or (map empty fields) k d).0 = ap (λ (x : MemberId × Value). x.0) from.2 in
    pairs 0 (suc there.0) from.0 (omega arith) (let l = there.1 in omega (arith, l)) (same ∙ sym name ∙ sym (ap (λ (x : MemberId × List ℕ). x.0) there.2)))
    (new_once fields (λ i j d before inside. pairs (suc i) (suc j) d (omega arith) (omega arith)))

pub object_held : (w : World) (heap : Cells) (c : ℕ) → IsWellBuilt w → IsOfFiles w → c < length w → is_instantiable w c ≡ true → IsObject w heap c (new_fields w c)
object_held w heap c well files inside made = record {
  known = inside;
  instantiable = made;
  once = new_once (object_fields w c) (fields_once w c well);
  each = λ m type there.
      let of = of_objects w c m type files there in
      (default_of type, in_map empty (object_fields w c) (m, type) there, default_agrees w heap type of.described of.whole);
  no_other = λ m value there.
      let from = from_map empty (object_fields w c) (m, value) there in
      let name : from.0.0 ≡ m = ap (λ (x : MemberId × Value). x.0) from.2 in
      (from.0.1, subst (λ (n : MemberId). Contains (object_fields w c) (n, from.0.1)) name from.1);
}

pub object_alone : (w : World) (c : ℕ) → HasNoReference (cells.Object c (new_fields w c))
object_alone w c b there =
    let value = from_map (λ (f : MemberId × Value). f.1) (new_fields w c) (Ref b) there in
    let from = from_map empty (object_fields w c) value.0 value.1 in
    no_default from.0.1 b (ap (λ (x : MemberId × Value). x.1) from.2 ∙ value.2)
