-- What holds of each word of a frame holds of the words that are moved.
use Rattle.std.proofs.Common.{◌≡◌, ℕ, zero, suc, ◌+◌, ◌-◌, ◌<◌, ◌&&◌, Bool, true, false, List, [], ◌∷◌, ◌++◌, length, take, drop, reverse, replicate, Option, Some, None, refl, sym, subst, arith, All, nat_lt, nat_le}
use Rattle.std.specs.Prelude.{ℤ, if◌then◌else◌, slice_get, slice_set, option_and_then, option_map}
use Rattle.std.proofs.lemmas.List.{get_or-reverse, length-reverse}
use Rattle.std.proofs.lemmas.List.Elements.{All-nil, All-cons, All-head, All-tail, All-replicate, All-append, All-set, All-take, All-drop}
use Rattle.op_table.specs.declared.acts.Kind.{Kind}
use Rattle.op_table.specs.declared.acts.Kind.TheVariants as kinds
use Rattle.op_table.specs.declared.acts.Width.{Width}
use Rattle.op_table.specs.declared.acts.Width.TheVariants as widths
use Rattle.op_table.specs.declared.acts.Shuffle.{Shuffle}
use Rattle.op_table.specs.declared.acts.Shuffle.TheVariants.{Pop, Pop2, Dup, DupX1, DupX2, Dup2, Dup2X1, Dup2X2, Swap}
use Rattle.frames.specs.declared.value.Value.{Value}
use Rattle.frames.specs.declared.value.Value.TheVariants.{Int, Long, Pad, Null, Ref}
use Rattle.frames.specs.Words.{Popped, PoppedNumber, PoppedTwo, pushed, popped, popped_number, popped_two, below_number, number, top_size, below_size, placed, is_whole, shuffled, held, loaded, with_word, stored, first_locals}
use Rattle.steps.specs.Calling.{Handed, taken}

-- ---- the operand stack

abbrev pub IsPopped : (Value → Type 0) → Popped → Type 0
IsPopped P p = P p.value × All P p.rest

abbrev pub IsNumber : (Value → Type 0) → Width → PoppedNumber → Type 0
IsNumber P width p = P (number width p.number) × All P p.rest

abbrev pub AreTwo : (Value → Type 0) → Width → Width → PoppedTwo → Type 0
AreTwo P first second p = P (number first p.first) × P (number second p.second) × All P p.rest

abbrev pub AreHanded : (Value → Type 0) → Handed → Type 0
AreHanded P h = All P h.words × All P h.rest

module _ (P : Value → Type 0) (pad : P Pad) where
  pub pushed_all : (value : Value) (stack : List Value) → P value → All P stack → All P (pushed value stack)
  pushed_all (Int n) stack here all = All-cons P (Int n) stack here all
  pushed_all (Long n) stack here all = All-cons P Pad (Long n ∷ stack) pad (All-cons P (Long n) stack here all)
  pushed_all Pad stack here all = All-cons P Pad stack here all
  pushed_all Null stack here all = All-cons P Null stack here all
  pushed_all (Ref r) stack here all = All-cons P (Ref r) stack here all

  popped_is : (value : Value) (rest : List Value) (p : Popped) → Some (record { value = value; rest = rest }) ≡ Some p → P value → All P rest → IsPopped P p
  popped_is value rest p e here all =
      let same : record { value = value; rest = rest } ≡ p = cc in
      subst (λ (q : Popped). IsPopped P q) same (here, all)

  pub popped_all : (kind : Kind) (stack : List Value) (p : Popped) → popped kind stack ≡ Some p → All P stack → IsPopped P p
  popped_all kinds.Int (Int n ∷ stack) p e all = popped_is (Int n) stack p e (All-head P (Int n) stack all) (All-tail P (Int n) stack all)
  popped_all kinds.Long (Pad ∷ Long n ∷ stack) p e all =
      let rest = All-tail P Pad (Long n ∷ stack) all in
      popped_is (Long n) stack p e (All-head P (Long n) stack rest) (All-tail P (Long n) stack rest)
  popped_all kinds.Reference (Null ∷ stack) p e all = popped_is Null stack p e (All-head P Null stack all) (All-tail P Null stack all)
  popped_all kinds.Reference (Ref r ∷ stack) p e all = popped_is (Ref r) stack p e (All-head P (Ref r) stack all) (All-tail P (Ref r) stack all)
  popped_all kind stack p e all = absurd cc

  number_is : (width : Width) (z : ℤ) (rest : List Value) (p : PoppedNumber) → Some (record { number = z; rest = rest }) ≡ Some p → P (number width z) → All P rest → IsNumber P width p
  number_is width z rest p e here all =
      let same : record { number = z; rest = rest } ≡ p = cc in
      subst (λ (q : PoppedNumber). IsNumber P width q) same (here, all)

  pub number_all : (width : Width) (stack : List Value) (p : PoppedNumber) → popped_number width stack ≡ Some p → All P stack → IsNumber P width p
  number_all widths.Int (Int n ∷ stack) p e all = number_is widths.Int n stack p e (All-head P (Int n) stack all) (All-tail P (Int n) stack all)
  number_all widths.Long (Pad ∷ Long n ∷ stack) p e all =
      let rest = All-tail P Pad (Long n ∷ stack) all in
      number_is widths.Long n stack p e (All-head P (Long n) stack rest) (All-tail P (Long n) stack rest)
  number_all width stack p e all = absurd cc

  below_all : (first second : Width) (y : PoppedNumber) (x : Option PoppedNumber) (p : PoppedTwo) → P (number second y.number)
      → ((q : PoppedNumber) → x ≡ Some q → IsNumber P first q)
      → option_map (λ (q : PoppedNumber). record { first = q.number; second = y.number; rest = q.rest }) x ≡ Some p → AreTwo P first second p
  below_all first second y None p on_top each e = absurd cc
  below_all first second y (Some q) p on_top each e =
      let same : record { first = q.number; second = y.number; rest = q.rest } ≡ p = cc in
      let below = each q refl in
      subst (λ (t : PoppedTwo). AreTwo P first second t) same (below.0, on_top, below.1)

  two_in : (first second : Width) (y : Option PoppedNumber) (p : PoppedTwo) → ((q : PoppedNumber) → y ≡ Some q → IsNumber P second q)
      → option_and_then (below_number first) y ≡ Some p → AreTwo P first second p
  two_in first second None p each e = absurd cc
  two_in first second (Some y) p each e =
      let top = each y refl in
      below_all first second y (popped_number first y.rest) p top.0 (λ q is. number_all first y.rest q is top.1) e

  pub two_all : (first second : Width) (stack : List Value) (p : PoppedTwo) → popped_two first second stack ≡ Some p → All P stack → AreTwo P first second p
  two_all first second stack p e all = two_in first second (popped_number second stack) p (λ q is. number_all second stack q is all) e

  -- ---- moves on the operand stack

  placed_all : (s : Shuffle) (top below : List Value) → All P top → All P below → All P (placed s top below)
  placed_all Pop top below t b = All-nil P
  placed_all Pop2 top below t b = All-nil P
  placed_all Dup top below t b = All-append P top top t t
  placed_all DupX1 top below t b = All-append P (top ++ below) top (All-append P top below t b) t
  placed_all DupX2 top below t b = All-append P (top ++ below) top (All-append P top below t b) t
  placed_all Dup2 top below t b = All-append P top top t t
  placed_all Dup2X1 top below t b = All-append P (top ++ below) top (All-append P top below t b) t
  placed_all Dup2X2 top below t b = All-append P (top ++ below) top (All-append P top below t b) t
  placed_all Swap top below t b = All-append P below top b t

  words_if : (whole : Bool) (words now : List Value) → (if whole then Some words else None) ≡ Some now → All P words → All P now
  words_if true words now e all =
      let same : words ≡ now = cc in
      subst (λ (others : List Value). All P others) same all
  words_if false words now e all = absurd cc

  pub shuffled_all : (s : Shuffle) (stack now : List Value) → shuffled s stack ≡ Some now → All P stack → All P now
  shuffled_all s stack now e all =
      let behind = All-drop P (top_size s) stack all in
      words_if (is_whole (top_size s) stack && is_whole (below_size s) (drop (top_size s) stack))
      (placed s (take (top_size s) stack) (take (below_size s) (drop (top_size s) stack)) ++ drop (top_size s + below_size s) stack) now e
      (All-append P (placed s (take (top_size s) stack) (take (below_size s) (drop (top_size s) stack))) (drop (top_size s + below_size s) stack)
      (placed_all s (take (top_size s) stack) (take (below_size s) (drop (top_size s) stack)) (All-take P (top_size s) stack all) (All-take P (below_size s) (drop (top_size s) stack) behind))
      (All-drop P (top_size s + below_size s) stack all))

  -- ---- locals

  value_is : (word value : Value) → Some word ≡ Some value → P word → P value
  value_is word value e here =
      let same : word ≡ value = cc in
      subst (λ (v : Value). P v) same here

  held_all : (kind : Kind) (word next : Option Value) (value : Value) → ((v : Value) → word ≡ Some v → P v) → held kind word next ≡ Some value → P value
  held_all kinds.Int (Some (Int n)) next value each e = value_is (Int n) value e (each (Int n) refl)
  held_all kinds.Long (Some (Long n)) (Some Pad) value each e = value_is (Long n) value e (each (Long n) refl)
  held_all kinds.Reference (Some Null) next value each e = value_is Null value e (each Null refl)
  held_all kinds.Reference (Some (Ref r)) next value each e = value_is (Ref r) value e (each (Ref r) refl)
  held_all kind word next value each e = absurd cc

  pub at_all : (words : List Value) (n : ℕ) (v : Value) → slice_get words n ≡ Some v → All P words → P v
  at_all [] n v e all = absurd cc
  at_all (word ∷ words) zero v e all = value_is word v e (All-head P word words all)
  at_all (word ∷ words) (suc n) v e all = at_all words n v e (All-tail P word words all)

  pub loaded_all : (kind : Kind) (locals : List Value) (n : ℕ) (value : Value) → loaded kind locals n ≡ Some value → All P locals → P value
  loaded_all kind locals n value e all = held_all kind (slice_get locals n) (slice_get locals (n + 1)) value (λ v is. at_all locals n v is all) e

  word_all : (word : Value) (n : ℕ) (locals now : List Value) → with_word word n locals ≡ Some now → P word → All P locals → All P now
  word_all word n locals now e here all = words_if (nat_lt n (length locals)) (slice_set locals n word) now e (All-set P locals n word here all)

  pad_all : (n : ℕ) (before : Option (List Value)) (now : List Value) → ((words : List Value) → before ≡ Some words → All P words) → option_and_then (with_word Pad n) before ≡ Some now → All P now
  pad_all n None now each e = absurd cc
  pad_all n (Some words) now each e = word_all Pad n words now e pad (each words refl)

  pub stored_all : (locals : List Value) (n : ℕ) (value : Value) (now : List Value) → stored locals n value ≡ Some now → P value → All P locals → All P now
  stored_all locals n (Int z) now e here all = word_all (Int z) n locals now e here all
  stored_all locals n (Long z) now e here all =
      pad_all (n + 1) (with_word (Long z) n locals) now (λ words is. word_all (Long z) n locals words is here all) e
  stored_all locals n Pad now e here all = word_all Pad n locals now e here all
  stored_all locals n Null now e here all = word_all Null n locals now e here all
  stored_all locals n (Ref r) now e here all = word_all (Ref r) n locals now e here all

  -- ---- what a call takes

  reversed_all : (words : List Value) → All P words → All P (reverse words)
  reversed_all words all = λ k d below.
      let inside : k < length words = omega (arith, length-reverse words) in
      subst (λ (v : Value). P v) (sym (get_or-reverse words k d inside)) (all (length words - 1 - k) d (omega arith))

  taken_if : (enough : Bool) (words rest : List Value) (h : Handed) → (if enough then Some (record { words = words; rest = rest }) else None) ≡ Some h
      → All P words → All P rest → AreHanded P h
  taken_if true words rest h e these others =
      let same : record { words = words; rest = rest } ≡ h = cc in
      subst (λ (x : Handed). AreHanded P x) same (these, others)
  taken_if false words rest h e these others = absurd cc

  pub taken_all : (n : ℕ) (stack : List Value) (h : Handed) → taken n stack ≡ Some h → All P stack → AreHanded P h
  taken_all n stack h e all =
      taken_if (nat_le n (length stack)) (reverse (take n stack)) (drop n stack) h e
      (reversed_all (take n stack) (All-take P n stack all)) (All-drop P n stack all)

  pub first_all : (words : List Value) (max_locals : ℕ) → All P words → All P (first_locals words max_locals)
  first_all words max_locals all =
      All-append P words (replicate (max_locals - length words) Pad) all (All-replicate P (max_locals - length words) Pad pad)
