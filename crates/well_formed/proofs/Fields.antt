-- Fields by their members: of which type each is.
use Rattle.std.proofs.Common.{◌≡◌, inl, inr, ℕ, suc, ◌+◌, not, Bool, true, false, List, [], ◌∷◌, get_or, Option, Some, None, Result, Ok, Err, refl, sym, ◌∙◌, ap, subst, arith, Contains, IsTrue}
use Rattle.std.specs.Prelude.{slice_get, if◌then◌else◌}
use Rattle.std.specs.Option.{option_map, option_or, ok_or}
use Rattle.std.specs.List.{position}
use Rattle.std.specs.Str.{bytes_eq}
use Rattle.std.proofs.lemmas.Bool.{and_parts}
use Rattle.std.proofs.lemmas.Option.{slice_get-get_or, get_or_from_slice_get}
use Rattle.std.proofs.lemmas.List.Quantifiers.{position-Some}
use Rattle.std.proofs.lemmas.List.Elements.{Contains-append_cases}
use Rattle.std.proofs.lemmas.Slice.Eq.{bytes_eq-Decides}
use Rattle.common_laws.proofs.Members.{contains_at, contains_cases, contains_none, from_flat}
use Rattle.class_reader.specs.declared.class.ClassRecord.{ClassRecord}
use Rattle.class_reader.specs.declared.class.Field.{Field}
use Rattle.class_reader.specs.Flags.{is_static}
use Rattle.descriptors.specs.Grammar.{IsFieldDescriptor}
use Rattle.op_table.specs.declared.construct.Construct.{Construct}
use Rattle.op_table.specs.declared.construct.Construct.TheVariants as constructs
use Rattle.world.specs.declared.member.MemberId.{MemberId}
use Rattle.world.specs.declared.fault.ResolveFault.TheVariants.{MissingMember}
use Rattle.class_hierarchy.specs.World.{World, class_at, number_of, ancestors, line}
use Rattle.descriptors.specs.Texts.{is_array}
use Rattle.world.specs.Resolution.{first_of, member, is_field, field_in, field_from, in_class, resolved_field}
use Rattle.linking.specs.Told.{told, then_by, unless}
use Rattle.linking.specs.References.{Reference, against_field}
use Rattle.linking.specs.Members.{is_field_for, fits_field, field_meant, field_by}
use Rattle.linking.proofs.Linked.{behind, untold}
use Rattle.frames.specs.Types.{is_float_type}
use Rattle.frames.specs.Heap.{own_fields, object_fields}
use Rattle.object_steps.specs.Fields.{NamedField, named, field_named}
use Rattle.entries.specs.Entry.{is_number_type, is_static_number, own_statics, statics_from, statics_of}
use Rattle.entries.proofs.Objects.{IsAt, own_is_at}
use Rattle.well_formed.specs.WellFormed.{IsOfFiles}

-- the field with this number is of the type
abbrev pub HasType : World → MemberId → List ℕ → Type 0
HasType w m type = (field : Field) × (slice_get (class_at w m.class).fields m.member ≡ Some field) × (field.desc ≡ type)

pub one_type : (w : World) (m : MemberId) (one other : List ℕ) → HasType w m one → HasType w m other → one ≡ other
one_type w m one other first second =
    let same : first.0 ≡ second.0 = cc (first.1, second.1) in
    sym first.2 ∙ ap (λ (f : Field). f.desc) same ∙ second.2

-- ---- what a member reference names

no_field : Field
no_field = record { flags = 0; name = []; desc = [] }

field_typed_at : (w : World) (name desc : List ℕ) (c : ℕ) (m : MemberId) (o : Option ℕ) → position (is_field name desc) (class_at w c).fields ≡ o → option_map (member c) o ≡ Some m → HasType w m desc
field_typed_at w name desc c m None at e = absurd cc
field_typed_at w name desc c m (Some place) at e =
    let found = position-Some (is_field name desc) (class_at w c).fields place no_field at in
    let field : Field = get_or (class_at w c).fields place no_field in
    let there : slice_get (class_at w c).fields place ≡ Some field = slice_get-get_or (class_at w c).fields place no_field found.0 in
    let parts : IsTrue (bytes_eq field.name name) × IsTrue (bytes_eq field.desc desc) = and_parts (bytes_eq field.name name) (bytes_eq field.desc desc) found.1 in
    let same : member c place ≡ m = cc in
    subst (λ (x : MemberId). HasType w x desc) same (field, there, (bytes_eq-Decides field.desc desc).0 parts.1)

field_in_typed : (w : World) (name desc : List ℕ) (c : ℕ) (m : MemberId) → field_in w name desc c ≡ Some m → HasType w m desc
unfolding field_in
field_in_typed w name desc c m e = field_typed_at w name desc c m (position (is_field name desc) (class_at w c).fields) refl e

first_typed_by : (w : World) (desc : List ℕ) (o rest : Option MemberId) (m : MemberId) → ((x : MemberId) → o ≡ Some x → HasType w x desc) → ((x : MemberId) → rest ≡ Some x → HasType w x desc) → option_or o rest ≡ Some m → HasType w m desc
first_typed_by w desc None rest m here later e = later m e
first_typed_by w desc (Some x) rest m here later e = here m e

first_typed : (w : World) (name desc : List ℕ) (classes : List ℕ) (m : MemberId) → first_of (field_in w name desc) classes ≡ Some m → HasType w m desc
first_typed w name desc [] m e = absurd cc
first_typed w name desc (c ∷ classes) m e =
    first_typed_by w desc (field_in w name desc c) (first_of (field_in w name desc) classes) m
    (λ x is. field_in_typed w name desc c x is) (λ x is. first_typed w name desc classes x is) e

or_missing : (o : Option MemberId) (m : MemberId) → ok_or o MissingMember ≡ Ok m → o ≡ Some m
or_missing None m e = absurd cc
or_missing (Some x) m e = let same : x ≡ m = cc in ap Some same

from_typed : (w : World) (name desc : List ℕ) (c : ℕ) (m : MemberId) → field_from w name desc c ≡ Ok m → HasType w m desc
unfolding field_from
from_typed w name desc c m e = first_typed w name desc (ancestors w c) m (or_missing (first_of (field_in w name desc) (ancestors w c)) m e)

in_typed : (w : World) (name desc : List ℕ) (o : Option ℕ) (m : MemberId) → in_class o (field_from w name desc) ≡ Ok m → HasType w m desc
in_typed w name desc None m e = absurd cc
in_typed w name desc (Some c) m e = from_typed w name desc c m e

resolved_typed : (w : World) (class name desc : List ℕ) (m : MemberId) → resolved_field w class name desc ≡ Ok m → HasType w m desc
unfolding resolved_field
resolved_typed w class name desc m e = in_typed w name desc (number_of w class) m e

fitting : (b : Bool) (m x : MemberId) → (if b then Ok m else Err constructs.Incompatible) ≡ Ok x → m ≡ x
fitting true m x e = cc
fitting false m x e = absurd cc

meant_if : (w : World) (static array : Bool) (class name desc : List ℕ) (m : MemberId)
    → (if array then Err constructs.MissingClass else then_by (fits_field w static) (told (resolved_field w class name desc))) ≡ Ok m → HasType w m desc
meant_if w static true class name desc m e = absurd cc
meant_if w static false class name desc m e =
    let last = behind (fits_field w static) (told (resolved_field w class name desc)) m e in
    let same : last.0 ≡ m = fitting (is_field_for w static last.0) last.0 m last.2 in
    subst (λ (x : MemberId). HasType w x desc) same (resolved_typed w class name desc last.0 (untold (resolved_field w class name desc) last.0 last.1))

meant_typed : (w : World) (static : Bool) (class name desc : List ℕ) (m : MemberId) → field_meant w static class name desc ≡ Ok m → HasType w m desc
unfolding field_meant
meant_typed w static class name desc m e = meant_if w static (is_array class) class name desc m e

nothing_against : {A : Type 0} (answer : Result A Construct) (o : Option Construct) (a : A) → unless answer o ≡ Ok a → answer ≡ Ok a
nothing_against answer None a e = e
nothing_against answer (Some construct) a e = absurd cc

by_typed : (w : World) (static : Bool) (tag : ℕ) (class name desc : List ℕ) (m : MemberId) → field_by w static (Some (tag, class, name, desc)) ≡ Ok m → HasType w m desc
unfolding field_by
by_typed w static tag class name desc m e =
    meant_typed w static class name desc m (nothing_against (field_meant w static class name desc) (against_field static (Some (tag, class, name, desc))) m e)

named_as : (w : World) (class type : List ℕ) (r : Result MemberId Construct) (f : NamedField) → named class type r ≡ Ok f → ((m : MemberId) → r ≡ Ok m → HasType w m type) → HasType w f.field f.type
named_as w class type (Err construct) f e typed = absurd cc
named_as w class type (Ok m) f e typed =
    let same : record { class = class; type = type; field = m } ≡ f = cc in
    subst (λ (x : NamedField). HasType w x.field x.type) same (typed m refl)

-- a field that is named is of the type that is named
pub named_typed : (w : World) (static : Bool) (reference : Option Reference) (f : NamedField) → field_named w static reference ≡ Ok f → HasType w f.field f.type
named_typed w static None f e = absurd cc
named_typed w static (Some (tag, class, name, type)) f e =
    named_as w class type (field_by w static (Some (tag, class, name, type))) f e (λ m is. by_typed w static tag class name type m is)

-- ---- fields of objects

-- a field of a class's objects: its type is a descriptor, of no float or double
pub record IsOfObjects (w : World) (m : MemberId) (type : List ℕ) : Type 0 where
  pub typed : HasType w m type
  pub described : IsFieldDescriptor type
  pub whole : is_float_type type ≡ false

not_is : (b : Bool) → not b ≡ true → b ≡ false
not_is true is = absurd cc
not_is false is = refl

pub of_objects : (w : World) (c : ℕ) (m : MemberId) (type : List ℕ) → IsOfFiles w → Contains (object_fields w c) (m, type) → IsOfObjects w m type
unfolding object_fields
of_objects w c m type files there =
    let from = from_flat (λ (d : ℕ). own_fields d 0 (class_at w d).fields) (line w c) (m, type) there in
    let at : IsAt (class_at w from.0).fields from.0 0 m type = own_is_at (class_at w from.0).fields from.0 0 m type from.2 in
    let place : m.member ≡ at.i = at.at_place ∙ omega arith in
    let found : slice_get (class_at w m.class).fields m.member ≡ Some at.field =
    ap (λ (d : ℕ). slice_get (class_at w d).fields m.member) at.of_class ∙ ap (λ (k : ℕ). slice_get (class_at w from.0).fields k) place ∙ at.there
    in
    let parts = and_parts (not (is_static at.field.flags)) (not (is_float_type at.field.desc)) at.of_objects in
    record {
      typed = (at.field, found, sym at.typed);
      described = subst (λ (t : List ℕ). IsFieldDescriptor t) (sym at.typed) (files.fields from.0 at.field (contains_at (class_at w from.0).fields at.i at.field at.there));
      whole = ap is_float_type at.typed ∙ not_is (is_float_type at.field.desc) parts.1;
    }

-- ---- statics

-- a static of a class, by its place in it
record IsStaticAt (fields : List Field) (class place : ℕ) (m : MemberId) (type : List ℕ) : Type 0 where
  i : ℕ
  field : Field
  of_class : m.class ≡ class
  there : slice_get fields i ≡ Some field
  at_place : m.member ≡ place + i
  of_number : is_static_number field ≡ true
  typed : type ≡ field.desc

static_next : (f : Field) (fields : List Field) (class place : ℕ) (m : MemberId) (type : List ℕ) → IsStaticAt fields class (suc place) m type → IsStaticAt (f ∷ fields) class place m type
static_next f fields class place m type is = record {
  i = suc is.i;
  field = is.field;
  of_class = is.of_class;
  there = is.there;
  at_place = is.at_place ∙ omega arith;
  of_number = is.of_number;
  typed = is.typed;
}

static_first : (f : Field) (fields : List Field) (class place : ℕ) (m : MemberId) (type : List ℕ) → is_static_number f ≡ true → ◌≡◌ {A = MemberId × List ℕ} (member class place, f.desc) (m, type) → IsStaticAt (f ∷ fields) class place m type
static_first f fields class place m type of same = record {
  i = 0;
  field = f;
  of_class = sym (ap (λ (x : MemberId × List ℕ). x.0.class) same);
  there = refl;
  at_place = sym (ap (λ (x : MemberId × List ℕ). x.0.member) same) ∙ omega arith;
  of_number = of;
  typed = sym (ap (λ (x : MemberId × List ℕ). x.1) same);
}

own_if : (f : Field) (fields : List Field) (class place : ℕ) (m : MemberId) (type : List ℕ) (b : Bool) → is_static_number f ≡ b
    → (Contains (own_statics class (suc place) fields) (m, type) → IsStaticAt fields class (suc place) m type)
    → Contains (if b then (member class place, f.desc) ∷ own_statics class (suc place) fields else own_statics class (suc place) fields) (m, type)
    → IsStaticAt (f ∷ fields) class place m type
own_if f fields class place m type true of later there =
    elim (contains_cases (member class place, f.desc) (own_statics class (suc place) fields) (m, type) there) [
      | inl same ↦ static_first f fields class place m type of same
      | inr rest ↦ static_next f fields class place m type (later rest)
    ]
own_if f fields class place m type false of later there = static_next f fields class place m type (later there)

own_static_at : (fields : List Field) (class place : ℕ) (m : MemberId) (type : List ℕ) → Contains (own_statics class place fields) (m, type) → IsStaticAt fields class place m type
own_static_at [] class place m type there = absurd (contains_none (m, type) there)
own_static_at (f ∷ fields) class place m type there =
    own_if f fields class place m type (is_static_number f) refl (λ rest. own_static_at fields class (suc place) m type rest) there

-- a static is of the type that it stands with, which is one of numbers
pub record IsOfStatics (w : World) (m : MemberId) (type : List ℕ) : Type 0 where
  pub typed : HasType w m type
  pub of_number : is_number_type type ≡ true

static_here : (w : World) (c : ℕ) (class : ClassRecord) (m : MemberId) (type : List ℕ) → class_at w c ≡ class → Contains (own_statics c 0 class.fields) (m, type) → IsOfStatics w m type
static_here w c class m type is there =
    let at : IsStaticAt class.fields c 0 m type = own_static_at class.fields c 0 m type there in
    let place : m.member ≡ at.i = at.at_place ∙ omega arith in
    let found : slice_get (class_at w m.class).fields m.member ≡ Some at.field =
    ap (λ (d : ℕ). slice_get (class_at w d).fields m.member) at.of_class ∙ ap (λ (x : ClassRecord). slice_get x.fields m.member) is ∙ ap (λ (k : ℕ). slice_get class.fields k) place ∙ at.there
    in
    let parts = and_parts (is_static at.field.flags) (is_number_type at.field.desc) at.of_number in
    record { typed = (at.field, found, sym at.typed); of_number = ap is_number_type at.typed ∙ parts.1 }

static_from : (w : World) (c : ℕ) (classes : List ClassRecord) (m : MemberId) (type : List ℕ) → ((k : ℕ) (class : ClassRecord) → slice_get classes k ≡ Some class → class_at w (c + k) ≡ class)
    → Contains (statics_from c classes) (m, type) → IsOfStatics w m type
static_from w c [] m type at there = absurd (contains_none (m, type) there)
static_from w c (class ∷ classes) m type at there =
    elim (Contains-append_cases (own_statics c 0 class.fields) (statics_from (suc c) classes) (m, type) there) [
      | inl here ↦ static_here w c class m type (let first : class_at w (c + 0) ≡ class = at 0 class refl in let same : c + 0 ≡ c = omega arith in rw same at first) here
      | inr later ↦ static_from w (suc c) classes m type
          (λ k x is. let next : class_at w (c + suc k) ≡ x = at (suc k) x is in let same : c + suc k ≡ suc c + k = omega arith in rw same at next) later
    ]

class_there : (w : World) (k : ℕ) (class : ClassRecord) → slice_get w k ≡ Some class → class_at w (0 + k) ≡ class
class_there w k class is =
    let same : 0 + k ≡ k = omega arith in
    rw same (get_or_from_slice_get w k class _ is)

pub of_statics : (w : World) (m : MemberId) (type : List ℕ) → Contains (statics_of w) (m, type) → IsOfStatics w m type
unfolding statics_of
of_statics w m type there = static_from w 0 w m type (λ k class is. class_there w k class is) there
