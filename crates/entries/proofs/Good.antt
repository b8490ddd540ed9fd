-- Good arguments, one after another, and the entry with them.
use Rattle.std.proofs.Common.{◌≡◌, inl, inr, ℕ, zero, suc, ◌≤◌, ◌<◌, ◌+◌, List, [], ◌∷◌, ◌++◌, Bool, true, false, Option, Some, None, length, take, refl, sym, arith, ap, subst, length-append}
use Rattle.std.specs.Prelude.{slice_index_or, slice_get, nat_lt, map, if◌then◌else◌, ◌||◌, ℤ, pos, codes, ◌==◌}
use Rattle.std.specs.List.{AllByRecursion}
use Rattle.std.proofs.lemmas.Bool.{cases_lt, cases_eq, ltb-true, lt-ltb, and_parts, false_from_ne_true}
use Rattle.class_reader.specs.declared.class.ClassRecord.{ClassRecord}
use Rattle.class_reader.specs.declared.class.Field.{Field}
use Rattle.class_reader.specs.declared.class.Method.{Method}
use Rattle.class_reader.specs.declared.class.Code.{Code}
use Rattle.op_table.specs.declared.acts.Small.TheVariants.{Byte, Char, Short}
use Rattle.std.specs.Int.{int_rem_euclid}
use Rattle.std.proofs.lemmas.Option.{slice_get_within, slice_get_read}
use Rattle.world.specs.declared.member.MemberId.{MemberId}
use Rattle.class_hierarchy.specs.World.{World, class_at}
use Rattle.frames.specs.declared.value.Value.{Value}
use Rattle.frames.specs.declared.value.Value.TheVariants.{Int, Long, Null}
use Rattle.steps.specs.declared.configuration.State.{State}
use Rattle.word_steps.specs.Numbers.{narrowed}
use Rattle.frames.specs.Types.{is_int_type, is_type}
use Rattle.frames.specs.Heap.{Cells, default_of, is_of_type}
use Rattle.linking.specs.Methods.{method_at}
use Rattle.word_steps.specs.Narrowing.{narrowed_int, narrowed_to}
use Rattle.entries.specs.Entry.{Agrees, AllAgree, AreHanded, AreStatics, IsEntry, argument_types, entry_of, is_number_type, is_static_number, own_statics, statics_from, statics_of, words_of_value, words_of_values}
use Rattle.entries.specs.Entering.{AllGood, IsFirstBad, IsFirstIn, IsGoodArgument, IsNoNullReceiver, IsSound, zeros}
use Rattle.class_reader.specs.Flags.{is_static}
use Rattle.entries.proofs.Law.{one_there, good_handed}

-- ---- one place

pub get_some : {A : Type 0} (xs : List A) (i : ℕ) (x : A) → i < length xs → x ≡ slice_index_or xs i x → slice_get xs i ≡ Some x
get_some xs i x inside is = slice_get_read xs (length xs) i x refl inside is

pub words_next : (i : ℕ) (arguments : List Value) (value : Value) → slice_get arguments i ≡ Some value → length (words_of_values (take (suc i) arguments)) ≡ length (words_of_values (take i arguments)) + length (words_of_value value)
words_next i [] value given = absurd cc
words_next zero (v ∷ arguments) value given =
    (let same : v ≡ value = one_there (Some v) v value refl given in rw (length-append (words_of_value v) [], same) (omega arith))
words_next (suc i) (v ∷ arguments) value given =
    (let rest : length (words_of_values (take (suc i) arguments)) ≡ length (words_of_values (take i arguments)) + length (words_of_value value) = words_next i arguments value given in
    rw (length-append (words_of_value v) (words_of_values (take (suc i) arguments)), length-append (words_of_value v) (words_of_values (take i arguments))) (omega (arith, rest)))

pub bad_room : (w : World) (heap : Cells) (types : List (List ℕ)) (method : Method) (code : Code) (arguments : List Value) (i words : ℕ) → words ≡ length (words_of_values (take (suc i) arguments)) → code.max_locals < words → i < length types → ((j : ℕ) → j < i → IsGoodArgument w heap types method code arguments j) → IsFirstBad w heap types method code arguments i
bad_room w heap types method code arguments i words are more inside before = record { place = inl inside; bad = λ good. (let room : length (words_of_values (take (suc i) arguments)) ≤ code.max_locals = good.room in absurd (omega (arith, room, are, more))); before = before }

pub bad_receiver : (w : World) (heap : Cells) (types : List (List ℕ)) (method : Method) (code : Code) (arguments : List Value) (i : ℕ) (value : Value) → slice_get arguments i ≡ Some value → (IsNoNullReceiver method i value → ⊥) → i < length types → ((j : ℕ) → j < i → IsGoodArgument w heap types method code arguments j) → IsFirstBad w heap types method code arguments i
bad_receiver w heap types method code arguments i value given null inside before = record { place = inl inside; bad = λ good. null (subst (λ (v : Value). IsNoNullReceiver method i v) (one_there (slice_get arguments i) good.value value good.given given) good.receiver); before = before }

pub bad_sound : (w : World) (heap : Cells) (types : List (List ℕ)) (method : Method) (code : Code) (arguments : List Value) (i : ℕ) (type : List ℕ) (value : Value) → slice_get types i ≡ Some type → slice_get arguments i ≡ Some value → (IsSound w heap type value → ⊥) → i < length types → ((j : ℕ) → j < i → IsGoodArgument w heap types method code arguments j) → IsFirstBad w heap types method code arguments i
bad_sound w heap types method code arguments i type value wanted given unsound inside before = record {
  place = inl inside;
  bad = λ good. unsound (subst (λ (t : List ℕ). IsSound w heap t value) (one_there (slice_get types i) good.type type good.wanted wanted) (subst (λ (v : Value). IsSound w heap good.type v) (one_there (slice_get arguments i) good.value value good.given given) good.sound));
  before = before;
}

pub good_next : (w : World) (heap : Cells) (types : List (List ℕ)) (method : Method) (code : Code) (arguments : List Value) (i words : ℕ) (type : List ℕ) (value : Value) → slice_get types i ≡ Some type → slice_get arguments i ≡ Some value → IsSound w heap type value → IsNoNullReceiver method i value → words ≡ length (words_of_values (take (suc i) arguments)) → words ≤ code.max_locals → ((j : ℕ) → j < i → IsGoodArgument w heap types method code arguments j) → (j : ℕ) → j < i + 1 → IsGoodArgument w heap types method code arguments j
good_next w heap types method code arguments i words type value wanted given sound receiver are few before j inside =
    elim (cases_eq j i) [
      | inl here ↦ subst (λ (k : ℕ). IsGoodArgument w heap types method code arguments k) (sym here) record { type = type; value = value; wanted = wanted; given = given; sound = sound; receiver = receiver; room = omega (arith, are, few) }
      | inr other ↦ before j (omega (arith, inside))
    ]

-- ---- all places

many_bad : (w : World) (heap : Cells) (types : List (List ℕ)) (method : Method) (code : Code) (arguments : List Value) → length types < length arguments → ((j : ℕ) → j < length types → IsGoodArgument w heap types method code arguments j) → IsFirstBad w heap types method code arguments (length types)
many_bad w heap types method code arguments more before = record { place = inr more; bad = λ good. (let inside : length types < length types = slice_get_within types (length types) good.type good.wanted in absurd (omega (arith, inside))); before = before }

none_bad : (w : World) (heap : Cells) (types : List (List ℕ)) (method : Method) (code : Code) (arguments : List Value) → length arguments ≤ length types → ((j : ℕ) → j < length types → IsGoodArgument w heap types method code arguments j) → AllGood w heap types method code arguments
none_bad w heap types method code arguments enough before i place = before i (elim place [ inl wanted ↦ wanted | inr given ↦ omega (arith, given) ])

pub end_is : (w : World) (heap : Cells) (types : List (List ℕ)) (method : Method) (code : Code) (arguments : List Value) (first : Option ℕ) → first ≡ (if nat_lt (length types) (length arguments) then Some (length types) else None) → ((j : ℕ) → j < length types → IsGoodArgument w heap types method code arguments j) → IsFirstIn w heap types method code arguments first
end_is w heap types method code arguments first is before =
    elim (cases_lt (length types) (length arguments)) [
      | inl more ↦ rw (is, lt-ltb (length types) (length arguments) more) (many_bad w heap types method code arguments more before)
      | inr enough ↦ rw (is, false_from_ne_true (nat_lt (length types) (length arguments)) (λ lt. (let more : length types < length arguments = ltb-true (length types) (length arguments) lt in absurd (omega (arith, more, enough))))) (none_bad w heap types method code arguments enough before)
    ]

pub handed_at : (w : World) (m : MemberId) (method : Method) (code : Code) (types : List (List ℕ)) (arguments : List Value) (heap : Cells) (first : Option ℕ) → types ≡ argument_types (class_at w m.class) method → first ≡ None → IsFirstIn w heap types method code arguments first → AreHanded w m method code arguments heap
handed_at w m method code types arguments heap first are none found =
    good_handed w m method code arguments heap
    (subst (λ (ts : List (List ℕ)). AllGood w heap ts method code arguments) are (subst (λ (f : Option ℕ). IsFirstIn w heap types method code arguments f) none found))

-- ---- statics

abbrev zero_of : MemberId × List ℕ → MemberId × Value
zero_of f = (f.0, default_of f.1)

if_zero : (x : Bool) (a b : ℤ) → a ≡ pos 0 → b ≡ pos 0 → (if x then a else b) ≡ pos 0
if_zero true a b first second = first
if_zero false a b first second = second

zero_narrowed : (b : ℕ) → narrowed_int b (pos 0) ≡ pos 0
zero_narrowed b =
    if_zero (b == 66) (narrowed Byte (pos 0)) (if b == 67 then narrowed Char (pos 0) else if b == 83 then narrowed Short (pos 0) else if b == 90 then int_rem_euclid (pos 0) (pos 2) else pos 0) refl
    (if_zero (b == 67) (narrowed Char (pos 0)) (if b == 83 then narrowed Short (pos 0) else if b == 90 then int_rem_euclid (pos 0) (pos 2) else pos 0) refl
    (if_zero (b == 83) (narrowed Short (pos 0)) (if b == 90 then int_rem_euclid (pos 0) (pos 2) else pos 0) refl
    (if_zero (b == 90) (int_rem_euclid (pos 0) (pos 2)) (pos 0) refl refl)))

zero_left : (type : List ℕ) → narrowed_to type (Int (pos 0)) ≡ Int (pos 0)
zero_left [] = refl
zero_left (b ∷ []) = ap Int (zero_narrowed b)
zero_left (b ∷ c ∷ type) = refl

zero_by : (w : World) (type : List ℕ) (int long : Bool) → is_int_type type ≡ int → is_type (codes "J") type ≡ long → (int || long) ≡ true → Agrees w [] type (if int then Int (pos 0) else if long then Long (pos 0) else Null)
unfolding is_of_type
zero_by w type true long is other number = (is, (refl, zero_left type))
zero_by w type false true is other number = (other, refl)
zero_by w type false false is other number = absurd cc

zero_agrees : (w : World) (type : List ℕ) → is_number_type type ≡ true → Agrees w [] type (default_of type)
zero_agrees w type number = zero_by w type (is_int_type type) (is_type (codes "J") type) refl refl number

abbrev AreNumbers : List (MemberId × List ℕ) → Type 0
AreNumbers fields = AllByRecursion (λ f. is_number_type f.1 ≡ true) fields

zeros_agree : (w : World) (fields : List (MemberId × List ℕ)) → AreNumbers fields → AllAgree w [] (map (λ f. f.1) fields) (map (λ f. f.1) (map zero_of fields))
zeros_agree w [] are = tt
zeros_agree w (f ∷ fields) are = (zero_agrees w f.1 are.0, zeros_agree w fields are.1)

zeros_same : (fields : List (MemberId × List ℕ)) → map (λ f. f.0) (map zero_of fields) ≡ map (λ f. f.0) fields
zeros_same [] = refl
zeros_same (f ∷ fields) = ap (λ (rest : List MemberId). f.0 ∷ rest) (zeros_same fields)

with_number : (b : Bool) (x : MemberId × List ℕ) (fields : List (MemberId × List ℕ)) → (b ≡ true → is_number_type x.1 ≡ true) → AreNumbers fields → AreNumbers (if b then x ∷ fields else fields)
with_number true x fields number are = (number refl, are)
with_number false x fields number are = are

own_numbers : (class place : ℕ) (fields : List Field) → AreNumbers (own_statics class place fields)
own_numbers class place [] = tt
own_numbers class place (f ∷ fields) =
    with_number (is_static_number f) (record { class = class; member = place }, f.desc) (own_statics class (suc place) fields)
    (λ static. (and_parts (is_static f.flags) (is_number_type f.desc) static).1) (own_numbers class (suc place) fields)

join_numbers : (xs ys : List (MemberId × List ℕ)) → AreNumbers xs → AreNumbers ys → AreNumbers (xs ++ ys)
join_numbers [] ys first second = second
join_numbers (x ∷ xs) ys first second = (first.0, join_numbers xs ys first.1 second)

all_numbers : (c : ℕ) (classes : List ClassRecord) → AreNumbers (statics_from c classes)
all_numbers c [] = tt
all_numbers c (class ∷ classes) = join_numbers (own_statics c 0 class.fields) (statics_from (suc c) classes) (own_numbers c 0 class.fields) (all_numbers (suc c) classes)

zeros_are : (w : World) → AreStatics w (zeros w)
unfolding statics_of
zeros_are w = record { fields = zeros_same (statics_from 0 w); each = zeros_agree w (statics_from 0 w) (all_numbers 0 w) }

pub entry_is : (w : World) (m : MemberId) (method : Method) (code : Code) (arguments : List Value) (heap : Cells) (state : State) → method_at w m ≡ Some method → method.code ≡ Some code → AreHanded w m method code arguments heap → state ≡ entry_of m code arguments heap (zeros w) → IsEntry w m state
entry_is w m method code arguments heap state declared has_code handed entered = record {
  method = method;
  code = code;
  arguments = arguments;
  heap = heap;
  statics = zeros w;
  declared = declared;
  has_code = has_code;
  handed = handed;
  of_world = zeros_are w;
  entered = entered;
}
