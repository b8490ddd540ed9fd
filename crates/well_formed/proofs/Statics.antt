-- Statics, read and written.
use Rattle.std.proofs.Common.{◌≡◌, inl, inr, ℕ, ◌||◌, Bool, true, false, List, [], ◌∷◌, map, Option, Some, None, refl, sym, ◌∙◌, ap, subst, Contains, IsTrue}
use Rattle.std.specs.Prelude.{codes, if◌then◌else◌}
use Rattle.common_laws.proofs.Members.{contains_head, contains_tail, contains_cases, contains_none, in_map}
use Rattle.op_table.specs.declared.acts.Kind.TheVariants as kinds
use Rattle.world.specs.declared.member.MemberId.{MemberId}
use Rattle.class_hierarchy.specs.World.{World}
use Rattle.frames.specs.declared.value.Value.{Value}
use Rattle.frames.specs.declared.value.Value.TheVariants.{Int, Long, Pad, Null, Ref}
use Rattle.frames.specs.Words.{Popped, popped}
use Rattle.frames.specs.Types.{is_type, is_int_type}
use Rattle.frames.specs.Slots.{is_member, value_of, with_value}
use Rattle.frames.specs.Heap.{Cells, is_of_type}
use Rattle.frames.proofs.Placing.{same_member}
use Rattle.word_steps.specs.Narrowing.{narrowed_to}
use Rattle.object_steps.specs.Fields.{NamedField, kind_of_type, where_typed, popped_of_type}
use Rattle.entries.specs.Entry.{Agrees, AllAgree, AreStatics, is_number_type, statics_of}
use Rattle.well_formed.specs.WellFormed.{IsWord}
use Rattle.well_formed.proofs.Numbers.{narrowed_in_range, left_fits}
use Rattle.well_formed.proofs.Fields.{HasType, one_type, IsOfStatics, of_statics}
use Rattle.well_formed.proofs.Held.{agreed_word, names_stay, value_there}

-- ---- values of a type

-- a value that is popped is of the type
pub record IsTyped (w : World) (heap : Cells) (type : List ℕ) (stack : List Value) (p : Popped) : Type 0 where
  pub top : popped (kind_of_type type) stack ≡ Some p
  pub typed : is_of_type w heap type p.value ≡ true

typed_if : (w : World) (heap : Cells) (type : List ℕ) (q p : Popped) (b : Bool) → is_of_type w heap type q.value ≡ b → (if b then Some q else None) ≡ Some p → (q ≡ p) × (is_of_type w heap type p.value ≡ true)
typed_if w heap type q p true is e =
    let same : q ≡ p = cc in
    (same, subst (λ (x : Popped). is_of_type w heap type x.value ≡ true) same is)
typed_if w heap type q p false is e = absurd cc

where_is : (w : World) (heap : Cells) (type : List ℕ) (o : Option Popped) (p : Popped) → where_typed w heap type o ≡ Some p → (o ≡ Some p) × (is_of_type w heap type p.value ≡ true)
where_is w heap type None p e = absurd cc
where_is w heap type (Some q) p e =
    let is = typed_if w heap type q p (is_of_type w heap type q.value) refl e in
    (ap Some is.0, is.1)

pub typed_top : (w : World) (heap : Cells) (type : List ℕ) (stack : List Value) (p : Popped) → popped_of_type w heap type stack ≡ Some p → IsTyped w heap type stack p
typed_top w heap type stack p e =
    let is = where_is w heap type (popped (kind_of_type type) stack) p e in
    record { top = is.0; typed = is.1 }

pub narrowed_word : (w : World) (heap : Cells) (type : List ℕ) (value : Value) → IsWord w heap value → IsWord w heap (narrowed_to type value)
narrowed_word w heap type (Int n) word = left_fits type n word
narrowed_word w heap type (Long n) word = word
narrowed_word w heap type Pad word = tt
narrowed_word w heap type Null word = tt
narrowed_word w heap type (Ref r) word = word

-- a word of the type agrees with it, once it is narrowed
pub narrowed_agrees : (w : World) (heap : Cells) (type : List ℕ) (value : Value) → is_of_type w heap type value ≡ true → IsWord w heap value → Agrees w heap type (narrowed_to type value)
unfolding is_of_type
narrowed_agrees w heap type (Int n) is word = (is, narrowed_in_range type n word)
narrowed_agrees w heap type (Long n) is word = (is, word)
narrowed_agrees w heap type Pad is word = absurd cc
narrowed_agrees w heap type Null is word = (is, tt)
narrowed_agrees w heap type (Ref r) is word = (is, tt)

-- ---- numbers

-- a number is of its type whatever the heap holds
abbrev IsNumber : Value → Type 0
IsNumber (Int n) = Unit {0}
IsNumber (Long n) = Unit {0}
IsNumber value = ⊥

value_number : (value : Value) (p : Popped) (rest : List Value) → Some (record { value = value; rest = rest }) ≡ Some p → IsNumber value → IsNumber p.value
value_number value p rest e is =
    let same : value ≡ p.value = cc in
    subst (λ (v : Value). IsNumber v) same is

int_number : (stack : List Value) (p : Popped) → popped kinds.Int stack ≡ Some p → IsNumber p.value
int_number (Int n ∷ stack) p e = value_number (Int n) p stack e tt
int_number stack p e = absurd cc

long_number : (stack : List Value) (p : Popped) → popped kinds.Long stack ≡ Some p → IsNumber p.value
long_number (Pad ∷ Long n ∷ stack) p e = value_number (Long n) p stack e tt
long_number stack p e = absurd cc

number_if : (int long : Bool) (stack : List Value) (p : Popped) → (int || long) ≡ true → popped (if int then kinds.Int else if long then kinds.Long else kinds.Reference) stack ≡ Some p → IsNumber p.value
number_if true long stack p is e = int_number stack p e
number_if false true stack p is e = long_number stack p e
number_if false false stack p is e = absurd cc

number_popped : (type : List ℕ) (stack : List Value) (p : Popped) → is_number_type type ≡ true → popped (kind_of_type type) stack ≡ Some p → IsNumber p.value
number_popped type stack p is e = number_if (is_int_type type) (is_type (codes "J") type) stack p is e

number_agrees : (w : World) (heap : Cells) (type : List ℕ) (value : Value) → IsNumber value → Agrees w heap type (narrowed_to type value) → Agrees w [] type (narrowed_to type value)
unfolding is_of_type
number_agrees w heap type (Int n) is agrees = agrees
number_agrees w heap type (Long n) is agrees = agrees
number_agrees w heap type Pad is agrees = absurd is
number_agrees w heap type Null is agrees = absurd is
number_agrees w heap type (Ref r) is agrees = absurd is

-- ---- a static is read

agree_at : (w : World) (types : List (List ℕ)) (values : List Value) (v : Value) → AllAgree w [] types values → Contains values v → (type : List ℕ) × Agrees w [] type v
agree_at w [] [] v all there = absurd (contains_none v there)
agree_at w [] (value ∷ values) v all there = absurd all
agree_at w (type ∷ types) [] v all there = absurd all
agree_at w (type ∷ types) (value ∷ values) v all there =
    elim (contains_cases value values v there) [
      | inl same ↦ (type, subst (λ (x : Value). Agrees w [] type x) same all.0)
      | inr rest ↦ agree_at w types values v all.1 rest
    ]

no_instance : (w : World) (type : List ℕ) (r : ℕ) → IsTrue (is_of_type w [] type (Ref r)) → ⊥
unfolding is_of_type
no_instance w type r is = cc

pub static_word : (w : World) (heap : Cells) (m : MemberId) (statics : List (MemberId × Value)) (value : Value) → AreStatics w statics → value_of m statics ≡ Some value → IsWord w heap value
static_word w heap m statics value are is =
    let there : Contains (map (λ (f : MemberId × Value). f.1) statics) value = in_map (λ (f : MemberId × Value). f.1) statics (m, value) (value_there m statics value is) in
    let agrees = agree_at w (map (λ (f : MemberId × List ℕ). f.1) (statics_of w)) (map (λ (f : MemberId × Value). f.1) statics) value are.each there in
    agreed_word w heap agrees.0 value agrees.1.1
    (λ r same. absurd (no_instance w agrees.0 r (subst (λ (v : Value). IsTrue (is_of_type w [] agrees.0 v)) same agrees.1.0)))

-- ---- a static is written

put_if : (w : World) (m : MemberId) (value : Value) (t : MemberId × List ℕ) (ts : List (MemberId × List ℕ)) (f : MemberId × Value) (fs : List (MemberId × Value)) (here : Bool) → is_member m f.0 ≡ here → f.0 ≡ t.0
    → ((type : List ℕ) → Contains (t ∷ ts) (m, type) → Agrees w [] type value)
    → Agrees w [] t.1 f.1 × AllAgree w [] (map (λ (x : MemberId × List ℕ). x.1) ts) (map (λ (x : MemberId × Value). x.1) fs)
    → AllAgree w [] (map (λ (x : MemberId × List ℕ). x.1) ts) (map (λ (x : MemberId × Value). x.1) (with_value m value fs))
    → AllAgree w [] (t.1 ∷ map (λ (x : MemberId × List ℕ). x.1) ts) (map (λ (x : MemberId × Value). x.1) (if here then (m, value) ∷ fs else f ∷ with_value m value fs))
put_if w m value t ts f fs true is name agrees all rest =
    let at : t.0 ≡ m = sym name ∙ sym (same_member m f.0 is) in
    (agrees t.1 (subst (λ (n : MemberId). Contains (t ∷ ts) (n, t.1)) at (contains_head t ts)), all.1)
put_if w m value t ts f fs false is name agrees all rest = (all.0, rest)

agree_put : (w : World) (m : MemberId) (value : Value) (ts : List (MemberId × List ℕ)) (vs : List (MemberId × Value))
    → map (λ (x : MemberId × Value). x.0) vs ≡ map (λ (x : MemberId × List ℕ). x.0) ts → ((type : List ℕ) → Contains ts (m, type) → Agrees w [] type value)
    → AllAgree w [] (map (λ (x : MemberId × List ℕ). x.1) ts) (map (λ (x : MemberId × Value). x.1) vs)
    → AllAgree w [] (map (λ (x : MemberId × List ℕ). x.1) ts) (map (λ (x : MemberId × Value). x.1) (with_value m value vs))
agree_put w m value [] [] names agrees all = tt
agree_put w m value [] (f ∷ fs) names agrees all = absurd all
agree_put w m value (t ∷ ts) [] names agrees all = absurd all
agree_put w m value (t ∷ ts) (f ∷ fs) names agrees all =
    let name : f.0 ≡ t.0 = cc in
    let others : map (λ (x : MemberId × Value). x.0) fs ≡ map (λ (x : MemberId × List ℕ). x.0) ts = cc in
    put_if w m value t ts f fs (is_member m f.0) refl name agrees all
    (agree_put w m value ts fs others (λ type there. agrees type (contains_tail t ts (m, type) there)) all.1)

pub statics_put : (w : World) (heap : Cells) (f : NamedField) (stack : List Value) (p : Popped) (statics : List (MemberId × Value)) → AreStatics w statics → HasType w f.field f.type
    → IsTyped w heap f.type stack p → IsWord w heap p.value → AreStatics w (with_value f.field (narrowed_to f.type p.value) statics)
statics_put w heap f stack p statics are typed is word = record {
  fields = names_stay f.field (narrowed_to f.type p.value) statics ∙ are.fields;
  each = agree_put w f.field (narrowed_to f.type p.value) (statics_of w) statics are.fields
      (λ type there.
      let of : IsOfStatics w f.field type = of_statics w f.field type there in
      let same : f.type ≡ type = one_type w f.field f.type type typed of.typed in
      let number : is_number_type f.type ≡ true = ap is_number_type same ∙ of.of_number in
      subst (λ (t : List ℕ). Agrees w [] t (narrowed_to f.type p.value)) same
      (number_agrees w heap f.type p.value (number_popped f.type stack p number is.top) (narrowed_agrees w heap f.type p.value is.typed word)))
      are.each;
}
