-- Instructions that change words alone, and jumps, have the effects on kinds that the table says.
use Rattle.std.proofs.Common.{◌≡◌, ℕ, zero, suc, ◌+◌, ◌*◌, ◌≤◌, ◌&&◌, Bool, true, false, List, [], ◌∷◌, ◌++◌, length, take, drop, set, get_or, reverse, refl, sym, ap, subst, ◌∙◌, arith, ℤ, Option, Some, None}
use Rattle.std.specs.Prelude.{if◌then◌else◌, slice_get}
use Rattle.std.proofs.lemmas.Bool.{and_parts}
use Rattle.std.proofs.lemmas.List.{append_assoc, reverse-append, length-append, length-reverse, length-take-le, take-append-drop, drop-drop}
use Rattle.class_pool.specs.declared.constant.Constant.{Constant}
use Rattle.op_table.specs.declared.acts.Action.{Action}
use Rattle.op_table.specs.declared.acts.Action.TheVariants as acts
use Rattle.op_table.specs.declared.acts.Kind as values
use Rattle.op_table.specs.declared.acts.Kind.TheVariants as value
use Rattle.op_table.specs.declared.acts.Width.{Width}
use Rattle.op_table.specs.declared.acts.Width.TheVariants as widths
use Rattle.op_table.specs.declared.acts.Shuffle.{Shuffle}
use Rattle.op_table.specs.declared.acts.Shuffle.TheVariants.{Pop, Pop2, Dup, DupX1, DupX2, Dup2, Dup2X1, Dup2X2, Swap}
use Rattle.slot_facts.specs.declared.kind.Kind.{Kind}
use Rattle.slot_facts.specs.declared.kind.Kind.TheVariants as kinds
use Rattle.kind_effects.specs.Effects as effects
use Rattle.kind_effects.specs.Effects.{pops, locals_after, number_kinds, width_words, moved}
use Rattle.frames.specs.declared.value.Value.{Value}
use Rattle.frames.specs.declared.value.Value.TheVariants.{Int, Long, Pad, Null, Ref}
use Rattle.frames.specs.Heap.{Cells}
use Rattle.frames.specs.Words.{Popped, pushed, number, top_size, below_size, placed, is_whole, held, stored}
use Rattle.frames.proofs.Keeping.{heap_itself}
use Rattle.word_steps.specs.Computed as computed
use Rattle.word_steps.specs.Computed.{Computed}
use Rattle.kind_runs.specs.Meaning.{HasKind, HaveKinds, int, long, pad, null, none}
use Rattle.kind_runs.proofs.Places.{have_at, have_set, have_one, have_append, have_front, have_back}
use Rattle.kind_runs.proofs.Typed.{ValueHas, int_has, long_has}
use Rattle.kind_runs.proofs.Frames.{Makes}
use Rattle.kind_runs.proofs.Making.{Tops, on_int, on_long, on_null, on_reference, tops, number_top, number_count, number_has, two_words, two_top, word_put, long_put, value_made, nothing_made}

-- ---- loads

held_has : {heap : Cells} (kind : values.Kind) (ks : List Kind) (locals : List Value) (n : ℕ) (word next : Option Value) (v : Value) → HaveKinds heap ks locals → slice_get locals n ≡ word → held kind word next ≡ Some v
    → ValueHas heap (effects.loaded kind ks n) v
held_has {heap = heap} value.Int ks locals n (Some (Int z)) next v k at e =
    let same : Int z ≡ v = cc in
    subst (λ (x : Value). ValueHas heap (kinds.Int ∷ []) x) same (int_has z)
held_has {heap = heap} value.Long ks locals n (Some (Long z)) (Some Pad) v k at e =
    let same : Long z ≡ v = cc in
    subst (λ (x : Value). ValueHas heap (kinds.Long ∷ kinds.Pad ∷ []) x) same (long_has z)
held_has {heap = heap} value.Reference ks locals n (Some Null) next v k at e =
    let same : Null ≡ v = cc in
    subst (λ (x : Value). ValueHas heap (get_or ks n kinds.Top ∷ []) x) same (have_one (have_at ks locals n Null k at))
held_has {heap = heap} value.Reference ks locals n (Some (Ref r)) next v k at e =
    let same : Ref r ≡ v = cc in
    subst (λ (x : Value). ValueHas heap (get_or ks n kinds.Top ∷ []) x) same (have_one (have_at ks locals n (Ref r) k at))
held_has kind ks locals n word next v k at e = absurd cc

-- ---- stores

first_of : {heap : Cells} (us : List Kind) (v : Value) → HaveKinds heap us (v ∷ []) → HasKind heap (effects.lowest us) v
first_of us v is = have_at us (v ∷ []) 0 v is refl

store_made : {pool : List (Option Constant)} {heap : Cells} {kind : values.Kind} {stack : List Value} {p : Popped} (locals : List Value) (n : ℕ) (now : List Value) → Tops kind stack p → stored locals n p.value ≡ Some now
    → Makes heap heap pool (acts.Store kind n) locals stack now p.rest
unfolding pops effects.pushed locals_after
store_made {heap = heap} locals n now (on_int {n = z} {rest = rest}) e = record {
  top = Int z ∷ [];
  rest = rest;
  new = [];
  takes = refl;
  count = refl;
  leaves = refl;
  keeps = heap_itself heap;
  pushes = λ ks us k u. none;
  stores = λ ks us k u. subst (λ (ws : List Value). HaveKinds heap (set ks n kinds.Int) ws) (sym (word_put (Int z) n locals now e)) (have_set n int k);
}
store_made {heap = heap} locals n now (on_long {n = z} {rest = rest}) e = record {
  top = Pad ∷ Long z ∷ [];
  rest = rest;
  new = [];
  takes = refl;
  count = refl;
  leaves = refl;
  keeps = heap_itself heap;
  pushes = λ ks us k u. none;
  stores = λ ks us k u.
      subst (λ (ws : List Value). HaveKinds heap (set (set ks n kinds.Long) (n + 1) kinds.Pad) ws) (sym (long_put z n locals now e)) (have_set (n + 1) pad (have_set n long k));
}
store_made {heap = heap} locals n now (on_null {rest = rest}) e = record {
  top = Null ∷ [];
  rest = rest;
  new = [];
  takes = refl;
  count = refl;
  leaves = refl;
  keeps = heap_itself heap;
  pushes = λ ks us k u. none;
  stores = λ ks us k u. subst (λ (ws : List Value). HaveKinds heap (set ks n (effects.lowest us)) ws) (sym (word_put Null n locals now e)) (have_set n (first_of us Null u) k);
}
store_made {heap = heap} locals n now (on_reference {r = r} {rest = rest}) e = record {
  top = Ref r ∷ [];
  rest = rest;
  new = [];
  takes = refl;
  count = refl;
  leaves = refl;
  keeps = heap_itself heap;
  pushes = λ ks us k u. none;
  stores = λ ks us k u. subst (λ (ws : List Value). HaveKinds heap (set ks n (effects.lowest us)) ws) (sym (word_put (Ref r) n locals now e)) (have_set n (first_of us (Ref r) u) k);
}

-- ---- moves on the operand stack

whole_there : (n : ℕ) (words : List Value) → is_whole n words ≡ true → n ≤ length words
whole_there zero words e = omega arith
whole_there (suc zero) [] e = absurd cc
whole_there (suc zero) (word ∷ words) e = omega arith
whole_there (suc (suc n)) [] e = absurd cc
whole_there (suc (suc n)) (word ∷ words) e = let more_there = whole_there (suc n) words e in omega (arith, more_there)

around : (top below : List Value) → reverse (top ++ below ++ top) ≡ reverse top ++ reverse below ++ reverse top
around top below =
    reverse-append (top ++ below) top ∙ ap (λ (ws : List Value). reverse top ++ ws) (reverse-append top below) ∙ sym (append_assoc (reverse top) (reverse below) (reverse top))

moved_have : {heap : Cells} (s : Shuffle) (bs ts : List Kind) (top below : List Value) → HaveKinds heap bs (reverse below) → HaveKinds heap ts (reverse top) → HaveKinds heap (moved s bs ts) (reverse (placed s top below))
moved_have Pop bs ts top below b t = none
moved_have Pop2 bs ts top below b t = none
moved_have {heap = heap} Dup bs ts top below b t = subst (λ (ws : List Value). HaveKinds heap (ts ++ ts) ws) (sym (reverse-append top top)) (have_append t t)
moved_have {heap = heap} DupX1 bs ts top below b t = subst (λ (ws : List Value). HaveKinds heap (ts ++ bs ++ ts) ws) (sym (around top below)) (have_append (have_append t b) t)
moved_have {heap = heap} DupX2 bs ts top below b t = subst (λ (ws : List Value). HaveKinds heap (ts ++ bs ++ ts) ws) (sym (around top below)) (have_append (have_append t b) t)
moved_have {heap = heap} Dup2 bs ts top below b t = subst (λ (ws : List Value). HaveKinds heap (ts ++ ts) ws) (sym (reverse-append top top)) (have_append t t)
moved_have {heap = heap} Dup2X1 bs ts top below b t = subst (λ (ws : List Value). HaveKinds heap (ts ++ bs ++ ts) ws) (sym (around top below)) (have_append (have_append t b) t)
moved_have {heap = heap} Dup2X2 bs ts top below b t = subst (λ (ws : List Value). HaveKinds heap (ts ++ bs ++ ts) ws) (sym (around top below)) (have_append (have_append t b) t)
moved_have {heap = heap} Swap bs ts top below b t = subst (λ (ws : List Value). HaveKinds heap (ts ++ bs) ws) (sym (reverse-append below top)) (have_append t b)

-- both tables say as much of the groups
same_top : (s : Shuffle) → effects.top_size s ≡ top_size s
same_top Pop = refl
same_top Pop2 = refl
same_top Dup = refl
same_top DupX1 = refl
same_top DupX2 = refl
same_top Dup2 = refl
same_top Dup2X1 = refl
same_top Dup2X2 = refl
same_top Swap = refl

same_below : (s : Shuffle) → effects.below_size s ≡ below_size s
same_below Pop = refl
same_below Pop2 = refl
same_below Dup = refl
same_below DupX1 = refl
same_below DupX2 = refl
same_below Dup2 = refl
same_below Dup2X1 = refl
same_below Dup2X2 = refl
same_below Swap = refl

-- a stack with two groups of words on it
three_parts : (t b : ℕ) (stack : List Value) → stack ≡ (take t stack ++ take b (drop t stack)) ++ drop (t + b) stack
three_parts t b stack =
    sym (take-append-drop t stack)
    ∙ ap (λ (ws : List Value). take t stack ++ ws) (sym (take-append-drop b (drop t stack)) ∙ ap (λ (ws : List Value). take b (drop t stack) ++ ws) (drop-drop b t stack))
    ∙ sym (append_assoc (take t stack) (take b (drop t stack)) (drop (t + b) stack))

shuffle_made : {pool : List (Option Constant)} {heap : Cells} (s : Shuffle) (locals stack : List Value) → is_whole (top_size s) stack ≡ true → is_whole (below_size s) (drop (top_size s) stack) ≡ true
    → Makes heap heap pool (acts.Shuffle s) locals stack locals (placed s (take (top_size s) stack) (take (below_size s) (drop (top_size s) stack)) ++ drop (top_size s + below_size s) stack)
unfolding pops effects.pushed locals_after
shuffle_made {heap = heap} s locals stack high low =
    let t : ℕ = top_size s in
    let b : ℕ = below_size s in
    let top : List Value = take t stack in
    let below : List Value = take b (drop t stack) in
    let tall = whole_there t stack high in
    let deep = whole_there b (drop t stack) low in
    let tops_long : length top ≡ t = length-take-le t stack tall in
    let belows_long : length below ≡ b = length-take-le b (drop t stack) deep in
    let reversed : reverse (top ++ below) ≡ reverse below ++ reverse top = reverse-append top below in
    record {
      top = top ++ below;
      rest = drop (t + b) stack;
      new = placed s top below;
      takes = three_parts t b stack;
      count = (let all = length-append top below in let e = same_top s in let f = same_below s in omega (arith, all, tops_long, belows_long, e, f));
      leaves = refl;
      keeps = heap_itself heap;
      pushes = λ ks us k u.
          let words : HaveKinds heap us (reverse below ++ reverse top) = subst (λ (ws : List Value). HaveKinds heap us ws) reversed u in
          let long_enough : length (reverse below) ≡ effects.below_size s = length-reverse below ∙ belows_long ∙ sym (same_below s) in
          moved_have s (take (effects.below_size s) us) (drop (effects.below_size s) us) top below
          (have_front (effects.below_size s) us (reverse below) (reverse top) long_enough words)
          (have_back (effects.below_size s) us (reverse below) (reverse top) long_enough words);
      stores = λ ks us k u. k;
    }

shuffle_if : {pool : List (Option Constant)} {heap : Cells} (s : Shuffle) (locals stack now : List Value) (whole : Bool) → (is_whole (top_size s) stack && is_whole (below_size s) (drop (top_size s) stack)) ≡ whole
    → (if whole then Some (placed s (take (top_size s) stack) (take (below_size s) (drop (top_size s) stack)) ++ drop (top_size s + below_size s) stack) else None) ≡ Some now
    → Makes heap heap pool (acts.Shuffle s) locals stack locals now
shuffle_if {pool = pool} {heap = heap} s locals stack now true is e =
    let parts = and_parts (is_whole (top_size s) stack) (is_whole (below_size s) (drop (top_size s) stack)) is in
    let same : placed s (take (top_size s) stack) (take (below_size s) (drop (top_size s) stack)) ++ drop (top_size s + below_size s) stack ≡ now = cc in
    subst (λ (ws : List Value). Makes heap heap pool (acts.Shuffle s) locals stack locals ws) same (shuffle_made s locals stack parts.0 parts.1)
shuffle_if s locals stack now false is e = absurd cc

-- ---- numbers

two_wide : (w : Width) (x y : ℤ) → length (two_words w w x y) ≡ 2 * width_words w
two_wide widths.Int x y = refl
two_wide widths.Long x y = refl

shift_wide : (w : Width) (x y : ℤ) → length (two_words w widths.Int x y) ≡ width_words w + 1
shift_wide widths.Int x y = refl
shift_wide widths.Long x y = refl

pub computed_made : {pool : List (Option Constant)} {locals stack now after : List Value} {action : Action} {wrapping : Bool} (heap : Cells) → Computed pool locals stack action wrapping now after → Makes heap heap pool action locals stack now after
unfolding pops effects.pushed locals_after
computed_made {stack = stack} heap computed.nothing = nothing_made [] stack refl refl (heap_itself heap) (λ ks us. refl) (λ ks us. refl)
computed_made {stack = stack} heap computed.null = value_made [] stack Null refl refl (heap_itself heap) (λ ks us. refl) (λ ks us k u. have_one null)
computed_made {stack = stack} heap (computed.int {n = n}) = value_made [] stack (Int n) refl refl (heap_itself heap) (λ ks us. refl) (λ ks us k u. int_has n)
computed_made {stack = stack} heap (computed.long {n = n}) = value_made [] stack (Long n) refl refl (heap_itself heap) (λ ks us. refl) (λ ks us k u. long_has n)
computed_made {stack = stack} heap (computed.int_constant {n = n} is) = value_made [] stack (Int n) refl refl (heap_itself heap) (λ ks us. refl) (λ ks us k u. int_has n)
computed_made {stack = stack} heap (computed.long_constant {n = n} is) = value_made [] stack (Long n) refl refl (heap_itself heap) (λ ks us. refl) (λ ks us k u. long_has n)
computed_made {locals = locals} {stack = stack} heap (computed.load {kind = kind} {n = n} {value = v} is) =
    value_made [] stack v refl refl (heap_itself heap) (λ ks us. refl) (λ ks us k u. held_has kind ks locals n (slice_get locals n) (slice_get locals (n + 1)) v k refl is)
computed_made {locals = locals} {stack = stack} heap (computed.store {kind = kind} {n = n} {p = p} {now = now} is to) = store_made locals n now (tops kind stack p is) to
computed_made {locals = locals} {stack = stack} heap (computed.shuffle {s = s} {now = now} is) =
    shuffle_if s locals stack now (is_whole (top_size s) stack && is_whole (below_size s) (drop (top_size s) stack)) refl is
computed_made {stack = stack} heap (computed.arithmetic {w = w} {p = p} is whole) =
    value_made (two_words w w p.first p.second) p.rest (number w _) (two_top w w stack p is) (two_wide w p.first p.second) (heap_itself heap) (λ ks us. refl) (λ ks us k u. number_has w _)
computed_made {stack = stack} heap (computed.negate {w = w} {p = p} is) =
    value_made (pushed (number w p.number) []) p.rest (number w _) (number_top w stack p is) (number_count w p.number) (heap_itself heap) (λ ks us. refl) (λ ks us k u. number_has w _)
computed_made {stack = stack} heap (computed.shift {w = w} {p = p} is) =
    value_made (two_words w widths.Int p.first p.second) p.rest (number w _) (two_top w widths.Int stack p is) (shift_wide w p.first p.second) (heap_itself heap) (λ ks us. refl) (λ ks us k u. number_has w _)
computed_made {stack = stack} heap (computed.logic {w = w} {p = p} is) =
    value_made (two_words w w p.first p.second) p.rest (number w _) (two_top w w stack p is) (two_wide w p.first p.second) (heap_itself heap) (λ ks us. refl) (λ ks us k u. number_has w _)
computed_made {stack = stack} heap (computed.increment {n = n} is) = record {
  top = [];
  rest = stack;
  new = [];
  takes = refl;
  count = refl;
  leaves = refl;
  keeps = heap_itself heap;
  pushes = λ ks us k u. none;
  stores = λ ks us k u. have_set n int k;
}
computed_made {stack = stack} heap (computed.int_to_long {p = p} is) =
    value_made (Int p.number ∷ []) p.rest (Long p.number) (number_top widths.Int stack p is) refl (heap_itself heap) (λ ks us. refl) (λ ks us k u. long_has p.number)
computed_made {stack = stack} heap (computed.long_to_int {p = p} is) =
    value_made (Pad ∷ Long p.number ∷ []) p.rest (Int _) (number_top widths.Long stack p is) refl (heap_itself heap) (λ ks us. refl) (λ ks us k u. int_has _)
computed_made {stack = stack} heap (computed.narrow {p = p} is) =
    value_made (Int p.number ∷ []) p.rest (Int _) (number_top widths.Int stack p is) refl (heap_itself heap) (λ ks us. refl) (λ ks us k u. int_has _)
computed_made {stack = stack} heap (computed.compare {p = p} is) =
    value_made (two_words widths.Long widths.Long p.first p.second) p.rest (Int _) (two_top widths.Long widths.Long stack p is) refl (heap_itself heap) (λ ks us. refl) (λ ks us k u. int_has _)
