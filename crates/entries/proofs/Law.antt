-- A method can be entered exactly with good arguments.
use Rattle.std.proofs.Common.{◌≡◌, inl, inr, ℕ, zero, suc, ◌≤◌, ◌<◌, List, [], ◌∷◌, Option, Some, length, take, refl, sym, ◌∙◌, arith, ap, subst, length-append}
use Rattle.std.specs.Prelude.{slice_get, Contains}
use Rattle.std.proofs.lemmas.Bool.{cases_lt}
use Rattle.std.proofs.lemmas.Option.{slice_get_within}
use Rattle.std.proofs.lemmas.List.{take_all}
use Rattle.common_laws.proofs.Members.{contains_at, place_of}
use Rattle.class_reader.specs.declared.class.Method.{Method}
use Rattle.class_reader.specs.declared.class.Code.{Code}
use Rattle.world.specs.declared.member.MemberId.{MemberId}
use Rattle.class_hierarchy.specs.World.{World, class_at}
use Rattle.frames.specs.declared.value.Value.{Value}
use Rattle.frames.specs.declared.value.Value.TheVariants.{Int, Long, Pad, Null, Ref}
use Rattle.frames.specs.Heap.{Cells, cell_at}
use Rattle.entries.specs.Entry.{Agrees, AllAgree, AllHaveLength, AreHanded, HasLength, IsHeld, Reaches, argument_types, words_of_value, words_of_values}
use Rattle.entries.specs.Entering.{AllGood, GoodArgumentsAreHanded, IsGoodArgument, IsHeldFrom, IsSound}

-- ---- places of lists

get_there : {A : Type 0} (xs : List A) (i : ℕ) → i < length xs → (x : A) × (slice_get xs i ≡ Some x)
get_there [] i inside = absurd (omega arith)
get_there (x ∷ xs) zero inside = (x, refl)
get_there (x ∷ xs) (suc i) inside = get_there xs i (omega arith)

pub one_there : {A : Type 0} (o : Option A) (x y : A) → o ≡ Some x → o ≡ Some y → x ≡ y
one_there o x y first second = (let same : Some x ≡ Some y = sym first ∙ second in cc)

-- ---- agreeing one by one

agree_lengths : (w : World) (heap : Cells) (types : List (List ℕ)) (arguments : List Value) → AllAgree w heap types arguments → length types ≡ length arguments
agree_lengths w heap [] [] agree = refl
agree_lengths w heap [] (value ∷ arguments) agree = absurd agree
agree_lengths w heap (type ∷ types) [] agree = absurd agree
agree_lengths w heap (type ∷ types) (value ∷ arguments) agree = ap suc (agree_lengths w heap types arguments agree.1)

agree_at : (w : World) (heap : Cells) (types : List (List ℕ)) (arguments : List Value) (i : ℕ) (type : List ℕ) (value : Value) → AllAgree w heap types arguments → slice_get types i ≡ Some type → slice_get arguments i ≡ Some value → Agrees w heap type value
agree_at w heap [] arguments i type value agree wanted given = absurd cc
agree_at w heap (t ∷ types) [] i type value agree wanted given = absurd cc
agree_at w heap (t ∷ types) (v ∷ arguments) zero type value agree wanted given =
    subst (λ (x : List ℕ). Agrees w heap x value) (one_there (Some t) t type refl wanted) (subst (λ (x : Value). Agrees w heap t x) (one_there (Some v) v value refl given) agree.0)
agree_at w heap (t ∷ types) (v ∷ arguments) (suc i) type value agree wanted given = agree_at w heap types arguments i type value agree.1 wanted given

length_at : (heap : Cells) (types : List (List ℕ)) (arguments : List Value) (i : ℕ) (type : List ℕ) (value : Value) → AllHaveLength heap types arguments → slice_get types i ≡ Some type → slice_get arguments i ≡ Some value → HasLength heap type value
length_at heap [] arguments i type value agree wanted given = absurd cc
length_at heap (t ∷ types) [] i type value agree wanted given = absurd cc
length_at heap (t ∷ types) (v ∷ arguments) zero type value agree wanted given =
    subst (λ (x : List ℕ). HasLength heap x value) (one_there (Some t) t type refl wanted) (subst (λ (x : Value). HasLength heap t x) (one_there (Some v) v value refl given) agree.0)
length_at heap (t ∷ types) (v ∷ arguments) (suc i) type value agree wanted given = length_at heap types arguments i type value agree.1 wanted given

-- what is sound at each place
abbrev Sounds : World → Cells → List (List ℕ) → List Value → Type 0
Sounds w heap types arguments = (i : ℕ) (type : List ℕ) (value : Value) → slice_get types i ≡ Some type → slice_get arguments i ≡ Some value → IsSound w heap type value

all_agree : (w : World) (heap : Cells) (types : List (List ℕ)) (arguments : List Value) → length types ≡ length arguments → Sounds w heap types arguments → AllAgree w heap types arguments
all_agree w heap [] [] same each = tt
all_agree w heap [] (value ∷ arguments) same each = absurd (omega (arith, same))
all_agree w heap (type ∷ types) [] same each = absurd (omega (arith, same))
all_agree w heap (type ∷ types) (value ∷ arguments) same each =
    ((each 0 type value refl refl).agrees, all_agree w heap types arguments (omega (arith, same)) (λ i t v wanted given. each (suc i) t v wanted given))

all_lengths : (w : World) (heap : Cells) (types : List (List ℕ)) (arguments : List Value) → Sounds w heap types arguments → AllHaveLength heap types arguments
all_lengths w heap [] arguments each = tt
all_lengths w heap (type ∷ types) [] each = tt
all_lengths w heap (type ∷ types) (value ∷ arguments) each =
    ((each 0 type value refl refl).acyclic, all_lengths w heap types arguments (λ i t v wanted given. each (suc i) t v wanted given))

-- ---- words

words_take : (n : ℕ) (arguments : List Value) → length (words_of_values (take n arguments)) ≤ length (words_of_values arguments)
words_take zero arguments = omega arith
words_take (suc n) [] = omega arith
words_take (suc n) (value ∷ arguments) =
    (let rest : length (words_of_values (take n arguments)) ≤ length (words_of_values arguments) = words_take n arguments in
    rw (length-append (words_of_value value) (words_of_values (take n arguments)), length-append (words_of_value value) (words_of_values arguments)) (omega (arith, rest)))

-- ---- the law

held_from : (w : World) (heap : Cells) (arguments : List Value) (value : Value) → ((a b : ℕ) → Contains arguments (Ref a) → Reaches heap a b → IsHeld w heap (cell_at heap b)) → Contains arguments value → IsHeldFrom w heap value
held_from w heap arguments (Int n) held there = tt
held_from w heap arguments (Long n) held there = tt
held_from w heap arguments Pad held there = tt
held_from w heap arguments Null held there = tt
held_from w heap arguments (Ref a) held there = λ b reaches. held a b there reaches

handed_good : (w : World) (m : MemberId) (method : Method) (code : Code) (arguments : List Value) (heap : Cells) → AreHanded w m method code arguments heap → (i : ℕ) → i < length arguments → IsGoodArgument w heap (argument_types (class_at w m.class) method) method code arguments i
handed_good w m method code arguments heap handed i inside =
    let types : List (List ℕ) = argument_types (class_at w m.class) method in
    let same : length types ≡ length arguments = agree_lengths w heap types arguments handed.agree in
    let type : (t : List ℕ) × (slice_get types i ≡ Some t) = get_there types i (omega (arith, same)) in
    let value : (v : Value) × (slice_get arguments i ≡ Some v) = get_there arguments i inside in
    let fewer : length (words_of_values (take (suc i) arguments)) ≤ length (words_of_values arguments) = words_take (suc i) arguments in
    let room : length (words_of_values arguments) ≤ code.max_locals = handed.room in
    record {
      type = type.0;
      value = value.0;
      wanted = type.1;
      given = value.1;
      sound = record {
        agrees = agree_at w heap types arguments i type.0 value.0 handed.agree type.1 value.1;
        held = held_from w heap arguments value.0 handed.held (contains_at arguments i value.0 value.1);
        acyclic = length_at heap types arguments i type.0 value.0 handed.acyclic type.1 value.1;
      };
      receiver = λ first other null. handed.receiver other (sym (ap (slice_get arguments) first) ∙ value.1 ∙ ap Some null);
      room = omega (arith, fewer, room);
    }

good_lengths : (w : World) (heap : Cells) (types : List (List ℕ)) (method : Method) (code : Code) (arguments : List Value) → AllGood w heap types method code arguments → length types ≡ length arguments
good_lengths w heap types method code arguments all =
    elim (cases_lt (length types) (length arguments)) [
      | inl fewer ↦ (let good : IsGoodArgument w heap types method code arguments (length types) = all (length types) (inr fewer) in
          let inside : length types < length types = slice_get_within types (length types) good.type good.wanted in absurd (omega (arith, inside)))
      | inr enough ↦ elim (cases_lt (length arguments) (length types)) [
        | inl more ↦ (let good : IsGoodArgument w heap types method code arguments (length arguments) = all (length arguments) (inl more) in
            let inside : length arguments < length arguments = slice_get_within arguments (length arguments) good.value good.given in absurd (omega (arith, inside)))
        | inr least ↦ omega arith
      ]
    ]

good_sounds : (w : World) (heap : Cells) (types : List (List ℕ)) (method : Method) (code : Code) (arguments : List Value) → AllGood w heap types method code arguments → Sounds w heap types arguments
good_sounds w heap types method code arguments all i type value wanted given =
    let good : IsGoodArgument w heap types method code arguments i = all i (inl (slice_get_within types i type wanted)) in
    subst (λ (t : List ℕ). IsSound w heap t value) (one_there (slice_get types i) good.type type good.wanted wanted)
    (subst (λ (v : Value). IsSound w heap good.type v) (one_there (slice_get arguments i) good.value value good.given given) good.sound)

good_room : (w : World) (heap : Cells) (types : List (List ℕ)) (method : Method) (code : Code) (arguments : List Value) (n : ℕ) → AllGood w heap types method code arguments → length arguments ≡ n → length (words_of_values arguments) ≤ code.max_locals
good_room w heap types method code [] n all count = omega arith
good_room w heap types method code (value ∷ arguments) zero all count = absurd (omega (arith, count))
good_room w heap types method code (value ∷ arguments) (suc n) all count =
    let good : IsGoodArgument w heap types method code (value ∷ arguments) n = all n (inr (omega (arith, count))) in
    subst (λ (xs : List Value). length (words_of_values xs) ≤ code.max_locals) (take_all (suc n) (value ∷ arguments) (omega (arith, count))) good.room

pub good_handed : (w : World) (m : MemberId) (method : Method) (code : Code) (arguments : List Value) (heap : Cells) → AllGood w heap (argument_types (class_at w m.class) method) method code arguments → AreHanded w m method code arguments heap
good_handed w m method code arguments heap all =
    let types : List (List ℕ) = argument_types (class_at w m.class) method in
    let sounds : Sounds w heap types arguments = good_sounds w heap types method code arguments all in
    let same : length types ≡ length arguments = good_lengths w heap types method code arguments all in
    record {
      agree = all_agree w heap types arguments same sounds;
      receiver = λ other null.
          let good : IsGoodArgument w heap types method code arguments 0 = all 0 (inr (slice_get_within arguments 0 Null null)) in
          good.receiver refl other (one_there (slice_get arguments 0) good.value Null good.given null);
      held = λ a b there reaches.
          let at : (i : ℕ) × (slice_get arguments i ≡ Some (Ref a)) = (there.0, place_of arguments (Ref a) there) in
          let good : IsGoodArgument w heap types method code arguments at.0 = all at.0 (inr (slice_get_within arguments at.0 (Ref a) at.1)) in
          subst (λ (v : Value). IsHeldFrom w heap v) (one_there (slice_get arguments at.0) good.value (Ref a) good.given at.1) good.sound.held b reaches;
      acyclic = all_lengths w heap types arguments sounds;
      room = good_room w heap types method code arguments (length arguments) all refl;
    }

pub good_are_handed : GoodArgumentsAreHanded
good_are_handed w m method code arguments heap = (
  λ handed i place. handed_good w m method code arguments heap handed i
      (let same : length (argument_types (class_at w m.class) method) ≡ length arguments = agree_lengths w heap (argument_types (class_at w m.class) method) arguments handed.agree in
      elim place [ inl wanted ↦ omega (arith, same) | inr given ↦ given ]),
  λ all. good_handed w m method code arguments heap all,
)
