-- What stands on top of an operand stack, and words that are put on it.
use Rattle.std.proofs.Common.{◌≡◌, ℕ, ◌+◌, Bool, true, false, List, [], ◌∷◌, ◌++◌, length, reverse, refl, sym, ap, subst, ◌∙◌, ℤ, Option, Some, None}
use Rattle.std.specs.Prelude.{nat_lt, if◌then◌else◌, slice_set}
use Rattle.std.specs.Option.{option_map, option_and_then}
use Rattle.class_pool.specs.declared.constant.Constant.{Constant}
use Rattle.op_table.specs.declared.acts.Action.{Action}
use Rattle.op_table.specs.declared.acts.Kind as values
use Rattle.op_table.specs.declared.acts.Kind.TheVariants as value
use Rattle.op_table.specs.declared.acts.Width.{Width}
use Rattle.op_table.specs.declared.acts.Width.TheVariants as widths
use Rattle.slot_facts.specs.declared.kind.Kind.{Kind}
use Rattle.kind_effects.specs.Effects.{pops, pushed as kinds_pushed, locals_after, number_kinds, value_words, width_words}
use Rattle.frames.specs.declared.value.Value.{Value}
use Rattle.frames.specs.declared.value.Value.TheVariants.{Int, Long, Pad, Null, Ref}
use Rattle.frames.specs.Heap.{Cells}
use Rattle.frames.specs.Kept.{KeepsHeap}
use Rattle.frames.specs.Words.{Popped, PoppedNumber, PoppedTwo, pushed, popped, popped_number, popped_two, below_number, number, with_word, stored}
use Rattle.kind_runs.specs.Meaning.{HaveKinds, none}
use Rattle.kind_runs.proofs.Places.{have_stay}
use Rattle.kind_runs.proofs.Typed.{ValueHas, int_has, long_has}
use Rattle.kind_runs.proofs.Frames.{Makes}

-- a value on top is put before the words below
pub pushed_on : (v : Value) (rest : List Value) → pushed v rest ≡ pushed v [] ++ rest
pushed_on (Int n) rest = refl
pushed_on (Long n) rest = refl
pushed_on Pad rest = refl
pushed_on Null rest = refl
pushed_on (Ref r) rest = refl

-- ---- what is popped

-- a value of the kind is on top
pub data Tops : values.Kind → List Value → Popped → Type 0 where
  on_int : {n : ℤ} {rest : List Value} → Tops value.Int (Int n ∷ rest) (record { value = Int n; rest = rest })
  on_long : {n : ℤ} {rest : List Value} → Tops value.Long (Pad ∷ Long n ∷ rest) (record { value = Long n; rest = rest })
  on_null : {rest : List Value} → Tops value.Reference (Null ∷ rest) (record { value = Null; rest = rest })
  on_reference : {r : ℕ} {rest : List Value} → Tops value.Reference (Ref r ∷ rest) (record { value = Ref r; rest = rest })

top_is : (kind : values.Kind) (stack : List Value) (q p : Popped) → Some q ≡ Some p → Tops kind stack q → Tops kind stack p
top_is kind stack q p e is = let same : q ≡ p = cc in subst (λ (x : Popped). Tops kind stack x) same is

pub tops : (kind : values.Kind) (stack : List Value) (p : Popped) → popped kind stack ≡ Some p → Tops kind stack p
tops value.Int (Int n ∷ rest) p e = top_is value.Int (Int n ∷ rest) (record { value = Int n; rest = rest }) p e on_int
tops value.Long (Pad ∷ Long n ∷ rest) p e = top_is value.Long (Pad ∷ Long n ∷ rest) (record { value = Long n; rest = rest }) p e on_long
tops value.Reference (Null ∷ rest) p e = top_is value.Reference (Null ∷ rest) (record { value = Null; rest = rest }) p e on_null
tops value.Reference (Ref r ∷ rest) p e = top_is value.Reference (Ref r ∷ rest) (record { value = Ref r; rest = rest }) p e on_reference
tops kind stack p e = absurd cc

pub top_words : {kind : values.Kind} {stack : List Value} {p : Popped} → Tops kind stack p → stack ≡ pushed p.value [] ++ p.rest
top_words on_int = refl
top_words on_long = refl
top_words on_null = refl
top_words on_reference = refl

pub top_count : {kind : values.Kind} {stack : List Value} {p : Popped} → Tops kind stack p → length (pushed p.value []) ≡ value_words kind
top_count on_int = refl
top_count on_long = refl
top_count on_null = refl
top_count on_reference = refl

-- ---- numbers

number_is : (w : Width) (stack : List Value) (q p : PoppedNumber) → Some q ≡ Some p → stack ≡ pushed (number w q.number) [] ++ q.rest → stack ≡ pushed (number w p.number) [] ++ p.rest
number_is w stack q p e is = let same : q ≡ p = cc in subst (λ (x : PoppedNumber). stack ≡ pushed (number w x.number) [] ++ x.rest) same is

pub number_top : (w : Width) (stack : List Value) (p : PoppedNumber) → popped_number w stack ≡ Some p → stack ≡ pushed (number w p.number) [] ++ p.rest
number_top widths.Int (Int n ∷ rest) p e = number_is widths.Int (Int n ∷ rest) (record { number = n; rest = rest }) p e refl
number_top widths.Long (Pad ∷ Long n ∷ rest) p e = number_is widths.Long (Pad ∷ Long n ∷ rest) (record { number = n; rest = rest }) p e refl
number_top w stack p e = absurd cc

pub number_count : (w : Width) (z : ℤ) → length (pushed (number w z) []) ≡ width_words w
number_count widths.Int z = refl
number_count widths.Long z = refl

pub number_has : {heap : Cells} (w : Width) (z : ℤ) → ValueHas heap (number_kinds w) (number w z)
number_has widths.Int z = int_has z
number_has widths.Long z = long_has z

-- two numbers, the second on top
abbrev pub two_words : Width → Width → ℤ → ℤ → List Value
two_words first second x y = pushed (number second y) [] ++ pushed (number first x) []

pub two_count : (first second : Width) (x y : ℤ) → length (two_words first second x y) ≡ width_words second + width_words first
two_count widths.Int widths.Int x y = refl
two_count widths.Int widths.Long x y = refl
two_count widths.Long widths.Int x y = refl
two_count widths.Long widths.Long x y = refl

two_append : (first second : Width) (x y : ℤ) (rest : List Value) → pushed (number second y) [] ++ (pushed (number first x) [] ++ rest) ≡ two_words first second x y ++ rest
two_append widths.Int widths.Int x y rest = refl
two_append widths.Int widths.Long x y rest = refl
two_append widths.Long widths.Int x y rest = refl
two_append widths.Long widths.Long x y rest = refl

two_below : (first second : Width) (stack : List Value) (y : PoppedNumber) (x : Option PoppedNumber) (p : PoppedTwo) → stack ≡ pushed (number second y.number) [] ++ y.rest
    → ((q : PoppedNumber) → x ≡ Some q → y.rest ≡ pushed (number first q.number) [] ++ q.rest)
    → option_map (λ (q : PoppedNumber). record { first = q.number; second = y.number; rest = q.rest }) x ≡ Some p → stack ≡ two_words first second p.first p.second ++ p.rest
two_below first second stack y None p at below e = absurd cc
two_below first second stack y (Some q) p at below e =
    let same : record { first = q.number; second = y.number; rest = q.rest } ≡ p = cc in
    subst (λ (t : PoppedTwo). stack ≡ two_words first second t.first t.second ++ t.rest) same
    (at ∙ ap (λ (ws : List Value). pushed (number second y.number) [] ++ ws) (below q refl) ∙ two_append first second q.number y.number q.rest)

two_on : (first second : Width) (stack : List Value) (y : Option PoppedNumber) (p : PoppedTwo) → ((q : PoppedNumber) → y ≡ Some q → stack ≡ pushed (number second q.number) [] ++ q.rest)
    → option_and_then (below_number first) y ≡ Some p → stack ≡ two_words first second p.first p.second ++ p.rest
two_on first second stack None p each e = absurd cc
two_on first second stack (Some y) p each e = two_below first second stack y (popped_number first y.rest) p (each y refl) (λ q is. number_top first y.rest q is) e

pub two_top : (first second : Width) (stack : List Value) (p : PoppedTwo) → popped_two first second stack ≡ Some p → stack ≡ two_words first second p.first p.second ++ p.rest
two_top first second stack p e = two_on first second stack (popped_number second stack) p (λ q is. number_top second stack q is) e

-- ---- locals

word_if : (inside : Bool) (words now : List Value) → (if inside then Some words else None) ≡ Some now → now ≡ words
word_if true words now e = cc
word_if false words now e = absurd cc

pub word_put : (word : Value) (n : ℕ) (locals now : List Value) → with_word word n locals ≡ Some now → now ≡ slice_set locals n word
word_put word n locals now e = word_if (nat_lt n (length locals)) (slice_set locals n word) now e

pad_put : (n : ℕ) (o : Option (List Value)) (words now : List Value) → ((ws : List Value) → o ≡ Some ws → ws ≡ words) → option_and_then (with_word Pad n) o ≡ Some now → now ≡ slice_set words n Pad
pad_put n None words now each e = absurd cc
pad_put n (Some ws) words now each e = word_put Pad n ws now e ∙ ap (λ (xs : List Value). slice_set xs n Pad) (each ws refl)

pub long_put : (z : ℤ) (n : ℕ) (locals now : List Value) → stored locals n (Long z) ≡ Some now → now ≡ slice_set (slice_set locals n (Long z)) (n + 1) Pad
long_put z n locals now e = pad_put (n + 1) (with_word (Long z) n locals) (slice_set locals n (Long z)) now (λ ws is. word_put (Long z) n locals ws is) e

-- ---- an instruction that leaves the locals alone

-- it pops words and pushes a value
pub value_made :
    {before now : Cells} {pool : List (Option Constant)} {action : Action} {locals stack : List Value} (top rest : List Value) (v : Value)
    → stack ≡ top ++ rest → length top ≡ pops pool action → KeepsHeap before now → ((ks us : List Kind) → locals_after action ks us ≡ ks)
    → ((ks us : List Kind) → HaveKinds before ks locals → HaveKinds before us (reverse top) → ValueHas now (kinds_pushed pool action ks us) v)
    → Makes before now pool action locals stack locals (pushed v rest)
value_made {now = now} {locals = locals} top rest v takes count keeps alone pushes = record {
  top = top;
  rest = rest;
  new = pushed v [];
  takes = takes;
  count = count;
  leaves = pushed_on v rest;
  keeps = keeps;
  pushes = pushes;
  stores = λ ks us k u. subst (λ (xs : List Kind). HaveKinds now xs locals) (sym (alone ks us)) (have_stay keeps k);
}

-- it pops words and pushes none
pub nothing_made :
    {before now : Cells} {pool : List (Option Constant)} {action : Action} {locals stack : List Value} (top rest : List Value)
    → stack ≡ top ++ rest → length top ≡ pops pool action → KeepsHeap before now → ((ks us : List Kind) → locals_after action ks us ≡ ks)
    → ((ks us : List Kind) → kinds_pushed pool action ks us ≡ [])
    → Makes before now pool action locals stack locals rest
nothing_made {now = now} {locals = locals} top rest takes count keeps alone empty = record {
  top = top;
  rest = rest;
  new = [];
  takes = takes;
  count = count;
  leaves = refl;
  keeps = keeps;
  pushes = λ ks us k u. subst (λ (xs : List Kind). HaveKinds now xs []) (sym (empty ks us)) none;
  stores = λ ks us k u. subst (λ (xs : List Kind). HaveKinds now xs locals) (sym (alone ks us)) (have_stay keeps k);
}
