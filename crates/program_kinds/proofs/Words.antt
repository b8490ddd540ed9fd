-- The kinds of the words that a method is handed, and of its result.
use Rattle.std.proofs.Common.{◌≡◌, ℕ, zero, suc, ◌+◌, ◌-◌, ◌≤◌, Bool, true, false, ◌&&◌, List, [], ◌∷◌, ◌++◌, length, take, flat_map, replicate, reverse, Option, Some, None, refl, sym, ap, ◌∙◌, subst, arith, All, Contains, ℤ, pos}
use Rattle.std.specs.Prelude.{if◌then◌else◌, codes}
use Rattle.std.specs.Str.{bytes_eq}
use Rattle.std.proofs.lemmas.Bool.{and_parts}
use Rattle.std.proofs.lemmas.List.{length-append, length-replicate, append_assoc, append-nil}
use Rattle.std.proofs.lemmas.List.Elements.{All-head, All-tail}
use Rattle.std.proofs.lemmas.Slice.Eq.{bytes_eq-Decides}
use Rattle.common_laws.proofs.Members.{contains_head, contains_tail}
use Rattle.class_reader.specs.declared.class.ClassRecord.{ClassRecord}
use Rattle.class_reader.specs.declared.class.Method.{Method}
use Rattle.class_reader.specs.declared.class.Code.{Code}
use Rattle.class_reader.specs.Flags.{is_static}
use Rattle.descriptors.specs.Pieces.{parameters_of, result_of}
use Rattle.op_table.specs.declared.acts.Call.{Call}
use Rattle.op_table.specs.declared.acts.Call.TheVariants.{Virtual, Special, Static, Interface}
use Rattle.slot_facts.specs.declared.kind.Kind.{Kind}
use Rattle.slot_facts.specs.declared.kind.Kind.TheVariants as kinds
use Rattle.kind_frames.specs.declared.fact.KindFrame.{KindFrame}
use Rattle.kind_effects.specs.Types.{kinds_of_type, kinds_of_result}
use Rattle.kind_effects.specs.Entry.{kinds_handed, entry_frame}
use Rattle.world.specs.declared.member.MemberId.{MemberId}
use Rattle.class_hierarchy.specs.World.{World}
use Rattle.linking.specs.Calls.{is_static_call}
use Rattle.frames.specs.declared.value.Value.{Value}
use Rattle.frames.specs.declared.value.Value.TheVariants.{Int, Long, Pad, Null, Ref}
use Rattle.frames.specs.declared.heap.Cell.{Cell}
use Rattle.frames.specs.declared.heap.Cell.TheVariants.{Object, Array}
use Rattle.frames.specs.declared.frame.Frame.{Frame}
use Rattle.frames.specs.Words.{Popped, pushed, first_locals, is_reference}
use Rattle.frames.specs.Types.{is_type, is_int_type}
use Rattle.frames.specs.Heap.{Cells, cell_at, is_instance, is_of_type}
use Rattle.word_steps.specs.Narrowing.{left_in, narrowed_to}
use Rattle.steps.specs.Calling.{next_value, begins, is_nothing, are_arguments, are_words, new_frame}
use Rattle.steps.specs.Step.{with_result}
use Rattle.entries.specs.Entry.{Agrees, AllAgree, IsHeld, Reaches, own_type, argument_types, words_of_value, words_of_values}
use Rattle.well_formed.specs.WellFormed.{IsWord}
use Rattle.well_formed.proofs.Held.{agreed_word}
use Rattle.kind_runs.specs.Meaning.{HasKind, object, no_object, any, HaveKinds, none, more, IsOfKinds, NamesNoArray}
use Rattle.kind_runs.proofs.Places.{have_append, have_front, have_length}
use Rattle.kind_runs.proofs.Typed.{ValueHas, typed_has}

-- ---- words of values

word_order : (value : Value) → reverse (pushed value []) ≡ words_of_value value
word_order (Int n) = refl
word_order (Long n) = refl
word_order Pad = refl
word_order Null = refl
word_order (Ref r) = refl

-- the words that begin with a value
record Begins (words : List Value) (p : Popped) : Type 0 where
  parts : words ≡ words_of_value p.value ++ p.rest

begins_by : (words : List Value) (q p : Popped) → Some q ≡ Some p → words ≡ words_of_value q.value ++ q.rest → Begins words p
begins_by words q p e parts = let same : q ≡ p = cc in subst (λ (x : Popped). Begins words x) same (record { parts = parts })

next_begins : (words : List Value) (p : Popped) → next_value words ≡ Some p → Begins words p
next_begins (Long n ∷ Pad ∷ words) p e = begins_by (Long n ∷ Pad ∷ words) (record { value = Long n; rest = words }) p e refl
next_begins (Int n ∷ words) p e = begins_by (Int n ∷ words) (record { value = Int n; rest = words }) p e refl
next_begins (Pad ∷ words) p e = begins_by (Pad ∷ words) (record { value = Pad; rest = words }) p e refl
next_begins (Null ∷ words) p e = begins_by (Null ∷ words) (record { value = Null; rest = words }) p e refl
next_begins (Ref r ∷ words) p e = begins_by (Ref r ∷ words) (record { value = Ref r; rest = words }) p e refl
next_begins words p e = absurd cc

first_word : (P : Value → Type 0) (value : Value) (rest : List Value) → All P (words_of_value value ++ rest) → P value
first_word P (Int n) rest all = All-head P (Int n) rest all
first_word P (Long n) rest all = All-head P (Long n) (Pad ∷ rest) all
first_word P Pad rest all = All-head P Pad rest all
first_word P Null rest all = All-head P Null rest all
first_word P (Ref r) rest all = All-head P (Ref r) rest all

other_words : (P : Value → Type 0) (value : Value) (rest : List Value) → All P (words_of_value value ++ rest) → All P rest
other_words P (Int n) rest all = All-tail P (Int n) rest all
other_words P (Long n) rest all = All-tail P Pad rest (All-tail P (Long n) (Pad ∷ rest) all)
other_words P Pad rest all = All-tail P Pad rest all
other_words P Null rest all = All-tail P Null rest all
other_words P (Ref r) rest all = All-tail P (Ref r) rest all

module _ (w : World) (heap : Cells) (plain : NamesNoArray w) where
  value_has : (type : List ℕ) (value : Value) → IsWord w heap value → is_of_type w heap type value ≡ true → HaveKinds heap (kinds_of_type type) (words_of_value value)
  value_has type value word is = subst (λ (ws : List Value). HaveKinds heap (kinds_of_type type) ws) (word_order value) (typed_has w heap type value plain word is)

  -- ---- arguments of a call

  nothing_has : (words : List Value) → is_nothing words ≡ true → HaveKinds heap [] words
  nothing_has [] is = none
  nothing_has (word ∷ words) is = absurd cc

  begins_has : (type : List ℕ) (types : List (List ℕ)) (words : List Value) (o : Option Popped) → next_value words ≡ o → All (IsWord w heap) words
      → ((rest : List Value) → All (IsWord w heap) rest → are_arguments w heap types rest ≡ true → HaveKinds heap (flat_map kinds_of_type types) rest)
      → begins (is_of_type w heap type) (are_arguments w heap types) o ≡ true → HaveKinds heap (kinds_of_type type ++ flat_map kinds_of_type types) words
  begins_has type types words None first all others is = absurd cc
  begins_has type types words (Some p) first all others is =
      let parts = (next_begins words p first).parts in
      let here : All (IsWord w heap) (words_of_value p.value ++ p.rest) = subst (λ (ws : List Value). All (IsWord w heap) ws) parts all in
      let both = and_parts (is_of_type w heap type p.value) (are_arguments w heap types p.rest) is in
      subst (λ (ws : List Value). HaveKinds heap (kinds_of_type type ++ flat_map kinds_of_type types) ws) (sym parts)
      (have_append (value_has type p.value (first_word (IsWord w heap) p.value p.rest here) both.0) (others p.rest (other_words (IsWord w heap) p.value p.rest here) both.1))

  arguments_have : (types : List (List ℕ)) (words : List Value) → All (IsWord w heap) words → are_arguments w heap types words ≡ true → HaveKinds heap (flat_map kinds_of_type types) words
  unfolding are_arguments
  arguments_have [] words all is = nothing_has words is
  arguments_have (type ∷ types) words all is = begins_has type types words (next_value words) refl all (arguments_have types) is

  reference_has : (word : Value) → is_reference word ≡ true → HasKind heap kinds.Obj word
  reference_has (Int n) is = absurd cc
  reference_has (Long n) is = absurd cc
  reference_has Pad is = absurd cc
  reference_has Null is = no_object
  reference_has (Ref r) is = object

  with_receiver : (types : List (List ℕ)) (word : Value) (words : List Value) → All (IsWord w heap) (word ∷ words) → (is_reference word && are_arguments w heap types words) ≡ true
      → HaveKinds heap (kinds.Obj ∷ flat_map kinds_of_type types) (word ∷ words)
  with_receiver types word words all is =
      let both = and_parts (is_reference word) (are_arguments w heap types words) is in
      more (reference_has word both.0) (arguments_have types words (All-tail (IsWord w heap) word words all) both.1)

  -- the words that a call hands to its method
  pub handed_have : (call : Call) (desc : List ℕ) (words : List Value) → All (IsWord w heap) words → are_words w heap call (parameters_of desc) words ≡ true
      → HaveKinds heap (kinds_handed (is_static_call call) desc) words
  handed_have Static desc words all is = arguments_have (parameters_of desc) words all is
  handed_have Virtual desc [] all is = absurd cc
  handed_have Special desc [] all is = absurd cc
  handed_have Interface desc [] all is = absurd cc
  handed_have Virtual desc (word ∷ words) all is = with_receiver (parameters_of desc) word words all is
  handed_have Special desc (word ∷ words) all is = with_receiver (parameters_of desc) word words all is
  handed_have Interface desc (word ∷ words) all is = with_receiver (parameters_of desc) word words all is

  -- ---- arguments of an entry

  agreed_have : (types : List (List ℕ)) (arguments : List Value) → AllAgree w heap types arguments → ((a b : ℕ) → Contains arguments (Ref a) → Reaches heap a b → IsHeld w heap (cell_at heap b))
      → HaveKinds heap (flat_map kinds_of_type types) (words_of_values arguments)
  agreed_have [] [] agree held = none
  agreed_have [] (value ∷ arguments) agree held = absurd agree
  agreed_have (type ∷ types) [] agree held = absurd agree
  agreed_have (type ∷ types) (value ∷ arguments) agree held =
      let word : IsWord w heap value = agreed_word w heap type value agree.0.1
      (λ r same. λ b reaches. held r b (subst (λ (v : Value). Contains (value ∷ arguments) v) same (contains_head value arguments)) reaches)
      in
      have_append (value_has type value word agree.0.0)
      (agreed_have types arguments agree.1 (λ a b there reaches. held a b (contains_tail value arguments (Ref a) there) reaches))

  own_kind : (class : ClassRecord) → kinds_of_type (own_type class) ≡ kinds.Obj ∷ []
  unfolding kinds_of_type
  own_kind class = refl

  argument_kinds : (class : ClassRecord) (desc : List ℕ) (static : Bool)
      → flat_map kinds_of_type (if static then parameters_of desc else own_type class ∷ parameters_of desc) ≡ kinds_handed static desc
  argument_kinds class desc true = refl
  argument_kinds class desc false = ap (λ (ks : List Kind). ks ++ flat_map kinds_of_type (parameters_of desc)) (own_kind class)

  -- the words with which a method is entered
  pub entry_has : (class : ClassRecord) (method : Method) (arguments : List Value) → AllAgree w heap (argument_types class method) arguments
      → ((a b : ℕ) → Contains arguments (Ref a) → Reaches heap a b → IsHeld w heap (cell_at heap b))
      → HaveKinds heap (kinds_handed (is_static method.flags) method.desc) (words_of_values arguments)
  entry_has class method arguments agree held =
      subst (λ (ks : List Kind). HaveKinds heap ks (words_of_values arguments)) (argument_kinds class method.desc (is_static method.flags))
      (agreed_have (argument_types class method) arguments agree held)

-- ---- the frame at a method's start

-- of these words nothing is known
unknown : {heap : Cells} (n : ℕ) (words : List Value) → length words ≡ n → HaveKinds heap (replicate n kinds.Top) words
unknown zero [] e = none
unknown zero (word ∷ words) e = absurd (omega (arith, e))
unknown (suc n) [] e = absurd (omega (arith, e))
unknown (suc n) (word ∷ words) e = more any (unknown n words (omega (arith, e)))

-- the words in the first locals, and nothing is known of the others
pub starts : (heap : Cells) (m : MemberId) (code : Code) (static : Bool) (desc : List ℕ) (words : List Value) → length words ≤ code.max_locals
    → HaveKinds heap (kinds_handed static desc) words → IsOfKinds heap code.max_locals (entry_frame code.max_locals static desc) (new_frame m code words)
starts heap m code static desc words few is =
    let n : ℕ = code.max_locals in
    let pads : List Value = replicate (n - length words) Pad in
    let others : List Value = replicate (length words) Pad in
    let locals : List Value = words ++ pads in
    let many : length locals ≡ n =
    (let a = length-append words pads in
    let b = length-replicate (n - length words) Pad in
    omega (arith, a, b, few))
    in
    let all : length (pads ++ others) ≡ n =
    (let a = length-append pads others in
    let b = length-replicate (n - length words) Pad in
    let c = length-replicate (length words) Pad in
    omega (arith, a, b, c, few))
    in
    let whole : HaveKinds heap (kinds_handed static desc ++ replicate n kinds.Top) (locals ++ others) =
    subst (λ (ws : List Value). HaveKinds heap (kinds_handed static desc ++ replicate n kinds.Top) ws) (sym (append_assoc words pads others))
    (have_append is (unknown n (pads ++ others) all))
    in
    record {
      many = many;
      height = refl;
      words = subst (λ (ws : List Value). HaveKinds heap (take n (kinds_handed static desc ++ replicate n kinds.Top)) ws) (sym (append-nil locals))
          (have_front n (kinds_handed static desc ++ replicate n kinds.Top) locals others many whole);
    }

-- ---- results

-- the words of a result are of its type
abbrev pub IsResultOf : Cells → List ℕ → Option Value → Type 0
IsResultOf heap type value = HaveKinds heap (kinds_of_result type) (reverse (with_result value []))

nothing_if : (type : List ℕ) (ks : List Kind) (void : Bool) → void ≡ true → (if void then [] else ks) ≡ []
nothing_if type ks true is = refl
nothing_if type ks false is = absurd cc

pub no_result : (heap : Cells) (type : List ℕ) → is_type (codes "V") type ≡ true → IsResultOf heap type None
no_result heap type is = subst (λ (ks : List Kind). HaveKinds heap ks []) (sym (nothing_if type (kinds_of_type type) (bytes_eq type (codes "V")) is)) none

no_instance : (w : World) (cell : Option Cell) → is_instance w (codes "V") cell ≡ true → ⊥
no_instance w None is = cc
no_instance w (Some (Object class fields)) is = cc
no_instance w (Some (Array element items)) is = cc

-- a value isn't of no type
no_void : (w : World) (heap : Cells) (value : Value) → is_of_type w heap (codes "V") value ≡ true → ⊥
unfolding is_of_type
no_void w heap (Int n) is = cc
no_void w heap (Long n) is = cc
no_void w heap Pad is = cc
no_void w heap Null is = cc
no_void w heap (Ref r) is = no_instance w (cell_at heap r) is

some_if : (w : World) (heap : Cells) (type : List ℕ) (value : Value) (void : Bool) → bytes_eq type (codes "V") ≡ void → is_of_type w heap type value ≡ true → ValueHas heap (kinds_of_type type) value
    → ValueHas heap (if void then [] else kinds_of_type type) value
some_if w heap type value true e typed is =
    absurd (no_void w heap value (subst (λ (t : List ℕ). is_of_type w heap t value ≡ true) ((bytes_eq-Decides type (codes "V")).0 e) typed))
some_if w heap type value false e typed is = is

narrowed_type : (w : World) (heap : Cells) (type : List ℕ) (value : Value) → is_of_type w heap type value ≡ true → is_of_type w heap type (narrowed_to type value) ≡ true
unfolding is_of_type
narrowed_type w heap type (Int n) is = is
narrowed_type w heap type (Long n) is = is
narrowed_type w heap type Pad is = is
narrowed_type w heap type Null is = is
narrowed_type w heap type (Ref r) is = is

pub some_result : (w : World) (heap : Cells) (type : List ℕ) (value : Value) → NamesNoArray w → IsWord w heap (narrowed_to type value) → is_of_type w heap type value ≡ true
    → IsResultOf heap type (Some (narrowed_to type value))
some_result w heap type value plain word is =
    let typed = narrowed_type w heap type value is in
    some_if w heap type (narrowed_to type value) (bytes_eq type (codes "V")) refl typed (typed_has w heap type (narrowed_to type value) plain word typed)
