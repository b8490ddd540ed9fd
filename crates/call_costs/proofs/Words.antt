-- The words of a frame refer to objects that are known, where those that they come from do.
use Rattle.std.proofs.Common.{◌≡◌, ℕ, zero, suc, ◌+◌, ◌-◌, ◌<◌, Bool, true, false, ◌&&◌, List, [], ◌∷◌, ◌++◌, length, take, drop, reverse, replicate, Option, Some, None, refl, sym, subst, arith, All, IsTrue, nat_lt, nat_le}
use Rattle.std.specs.Prelude.{ℤ, if◌then◌else◌, slice_get, slice_set, option_and_then, option_map}
use Rattle.std.proofs.lemmas.List.{get_or-reverse, length-reverse}
use Rattle.std.proofs.lemmas.List.Elements.{All-nil, All-cons, All-head, All-tail, All-replicate, All-append, All-set, All-take, All-drop}
use Rattle.op_table.specs.declared.acts.Action.{Action}
use Rattle.op_table.specs.declared.acts.Kind.{Kind}
use Rattle.op_table.specs.declared.acts.Kind.TheVariants as kinds
use Rattle.op_table.specs.declared.acts.Width.{Width}
use Rattle.op_table.specs.declared.acts.Width.TheVariants as widths
use Rattle.op_table.specs.declared.acts.Shuffle.{Shuffle}
use Rattle.op_table.specs.declared.acts.Shuffle.TheVariants.{Pop, Pop2, Dup, DupX1, DupX2, Dup2, Dup2X1, Dup2X2, Swap}
use Rattle.world.specs.declared.member.MemberId.{MemberId}
use Rattle.class_hierarchy.specs.World.{World, is_instantiable}
use Rattle.class_pool.specs.declared.constant.Constant.{Constant}
use Rattle.frames.specs.declared.value.Value.{Value}
use Rattle.frames.specs.declared.value.Value.TheVariants.{Int, Long, Pad, Null, Ref}
use Rattle.frames.specs.declared.heap.Cell.TheVariants.{Object}
use Rattle.frames.specs.Heap.{Cells, cell_at}
use Rattle.frames.specs.Words.{Popped, PoppedNumber, PoppedTwo, pushed, popped, popped_number, popped_two, below_number, number, top_size, below_size, placed, is_whole, shuffled, held, loaded, with_word, stored, first_locals}
use Rattle.steps.specs.Calling.{Handed, taken}
use Rattle.word_steps.specs.Narrowing.{narrowed_to}
use Rattle.word_steps.specs.Computed as rows
use Rattle.word_steps.specs.Computed.{Computed}

-- a class of the world of which there can be objects
abbrev pub IsMade : World → ℕ → Type 0
IsMade w c = (c < length w) × IsTrue (is_instantiable w c)

-- an object to which a reference refers is of such a class
abbrev pub IsKnown : World → Cells → Value → Type 0
IsKnown w heap (Int n) = Unit {0}
IsKnown w heap (Long n) = Unit {0}
IsKnown w heap Pad = Unit {0}
IsKnown w heap Null = Unit {0}
IsKnown w heap (Ref r) = (c : ℕ) (fields : List (MemberId × Value)) → cell_at heap r ≡ Some (Object c fields) → IsMade w c

abbrev pub AreKnown : World → Cells → List Value → Type 0
AreKnown w heap words = All (IsKnown w heap) words

-- ---- the operand stack

pub pushed_known : (w : World) (heap : Cells) (value : Value) (stack : List Value) → IsKnown w heap value → AreKnown w heap stack → AreKnown w heap (pushed value stack)
pushed_known w heap (Int n) stack known all = All-cons (IsKnown w heap) (Int n) stack tt all
pushed_known w heap (Long n) stack known all = All-cons (IsKnown w heap) Pad (Long n ∷ stack) tt (All-cons (IsKnown w heap) (Long n) stack tt all)
pushed_known w heap Pad stack known all = All-cons (IsKnown w heap) Pad stack tt all
pushed_known w heap Null stack known all = All-cons (IsKnown w heap) Null stack tt all
pushed_known w heap (Ref r) stack known all = All-cons (IsKnown w heap) (Ref r) stack known all

-- a value and the words behind it are known
abbrev pub IsPoppedKnown : World → Cells → Popped → Type 0
IsPoppedKnown w heap p = IsKnown w heap p.value × AreKnown w heap p.rest

popped_is : (w : World) (heap : Cells) (value : Value) (rest : List Value) (p : Popped) → Some (record { value = value; rest = rest }) ≡ Some p → IsKnown w heap value → AreKnown w heap rest → IsPoppedKnown w heap p
popped_is w heap value rest p e known all =
    let same : record { value = value; rest = rest } ≡ p = cc in
    subst (λ (q : Popped). IsPoppedKnown w heap q) same (known, all)

pub popped_known : (w : World) (heap : Cells) (kind : Kind) (stack : List Value) (p : Popped) → popped kind stack ≡ Some p → AreKnown w heap stack → IsPoppedKnown w heap p
popped_known w heap kinds.Int (Int n ∷ stack) p e all = popped_is w heap (Int n) stack p e tt (All-tail (IsKnown w heap) (Int n) stack all)
popped_known w heap kinds.Long (Pad ∷ Long n ∷ stack) p e all =
    popped_is w heap (Long n) stack p e tt (All-tail (IsKnown w heap) (Long n) stack (All-tail (IsKnown w heap) Pad (Long n ∷ stack) all))
popped_known w heap kinds.Reference (Null ∷ stack) p e all = popped_is w heap Null stack p e tt (All-tail (IsKnown w heap) Null stack all)
popped_known w heap kinds.Reference (Ref r ∷ stack) p e all =
    popped_is w heap (Ref r) stack p e (All-head (IsKnown w heap) (Ref r) stack all) (All-tail (IsKnown w heap) (Ref r) stack all)
popped_known w heap kind stack p e all = absurd cc

number_is : (w : World) (heap : Cells) (z : ℤ) (rest : List Value) (p : PoppedNumber) → Some (record { number = z; rest = rest }) ≡ Some p → AreKnown w heap rest → AreKnown w heap p.rest
number_is w heap z rest p e all =
    let same : rest ≡ p.rest = cc in
    subst (λ (words : List Value). AreKnown w heap words) same all

pub number_known : (w : World) (heap : Cells) (width : Width) (stack : List Value) (p : PoppedNumber) → popped_number width stack ≡ Some p → AreKnown w heap stack → AreKnown w heap p.rest
number_known w heap widths.Int (Int n ∷ stack) p e all = number_is w heap n stack p e (All-tail (IsKnown w heap) (Int n) stack all)
number_known w heap widths.Long (Pad ∷ Long n ∷ stack) p e all =
    number_is w heap n stack p e (All-tail (IsKnown w heap) (Long n) stack (All-tail (IsKnown w heap) Pad (Long n ∷ stack) all))
number_known w heap width stack p e all = absurd cc

below_known : (w : World) (heap : Cells) (y : PoppedNumber) (x : Option PoppedNumber) (p : PoppedTwo)
    → ((q : PoppedNumber) → x ≡ Some q → AreKnown w heap q.rest)
    → option_map (λ (q : PoppedNumber). record { first = q.number; second = y.number; rest = q.rest }) x ≡ Some p → AreKnown w heap p.rest
below_known w heap y None p each e = absurd cc
below_known w heap y (Some q) p each e =
    let same : q.rest ≡ p.rest = cc in
    subst (λ (words : List Value). AreKnown w heap words) same (each q refl)

two_in : (w : World) (heap : Cells) (first : Width) (y : Option PoppedNumber) (p : PoppedTwo)
    → ((q : PoppedNumber) → y ≡ Some q → AreKnown w heap q.rest) → option_and_then (below_number first) y ≡ Some p → AreKnown w heap p.rest
two_in w heap first None p each e = absurd cc
two_in w heap first (Some y) p each e =
    below_known w heap y (popped_number first y.rest) p (λ q is. number_known w heap first y.rest q is (each y refl)) e

pub two_known : (w : World) (heap : Cells) (first second : Width) (stack : List Value) (p : PoppedTwo) → popped_two first second stack ≡ Some p → AreKnown w heap stack → AreKnown w heap p.rest
two_known w heap first second stack p e all = two_in w heap first (popped_number second stack) p (λ q is. number_known w heap second stack q is all) e

pub number_value_known : (w : World) (heap : Cells) (width : Width) (z : ℤ) → IsKnown w heap (number width z)
number_value_known w heap widths.Int z = tt
number_value_known w heap widths.Long z = tt

-- a number of either type on top
pub pushed_number : (w : World) (heap : Cells) (width : Width) (z : ℤ) (stack : List Value) → AreKnown w heap stack → AreKnown w heap (pushed (number width z) stack)
pushed_number w heap width z stack all = pushed_known w heap (number width z) stack (number_value_known w heap width z) all

-- ---- moves on the operand stack

placed_known : (w : World) (heap : Cells) (s : Shuffle) (top below : List Value) → AreKnown w heap top → AreKnown w heap below → AreKnown w heap (placed s top below)
placed_known w heap Pop top below t b = All-nil (IsKnown w heap)
placed_known w heap Pop2 top below t b = All-nil (IsKnown w heap)
placed_known w heap Dup top below t b = All-append (IsKnown w heap) top top t t
placed_known w heap DupX1 top below t b = All-append (IsKnown w heap) (top ++ below) top (All-append (IsKnown w heap) top below t b) t
placed_known w heap DupX2 top below t b = All-append (IsKnown w heap) (top ++ below) top (All-append (IsKnown w heap) top below t b) t
placed_known w heap Dup2 top below t b = All-append (IsKnown w heap) top top t t
placed_known w heap Dup2X1 top below t b = All-append (IsKnown w heap) (top ++ below) top (All-append (IsKnown w heap) top below t b) t
placed_known w heap Dup2X2 top below t b = All-append (IsKnown w heap) (top ++ below) top (All-append (IsKnown w heap) top below t b) t
placed_known w heap Swap top below t b = All-append (IsKnown w heap) below top b t

shuffled_in : (w : World) (heap : Cells) (whole : Bool) (words now : List Value) → (if whole then Some words else None) ≡ Some now → AreKnown w heap words → AreKnown w heap now
shuffled_in w heap true words now e all =
    let same : words ≡ now = cc in
    subst (λ (others : List Value). AreKnown w heap others) same all
shuffled_in w heap false words now e all = absurd cc

pub shuffled_known : (w : World) (heap : Cells) (s : Shuffle) (stack now : List Value) → shuffled s stack ≡ Some now → AreKnown w heap stack → AreKnown w heap now
shuffled_known w heap s stack now e all =
    let P = IsKnown w heap in
    let behind = All-drop P (top_size s) stack all in
    shuffled_in w heap (is_whole (top_size s) stack && is_whole (below_size s) (drop (top_size s) stack))
    (placed s (take (top_size s) stack) (take (below_size s) (drop (top_size s) stack)) ++ drop (top_size s + below_size s) stack) now e
    (All-append P (placed s (take (top_size s) stack) (take (below_size s) (drop (top_size s) stack))) (drop (top_size s + below_size s) stack)
    (placed_known w heap s (take (top_size s) stack) (take (below_size s) (drop (top_size s) stack)) (All-take P (top_size s) stack all) (All-take P (below_size s) (drop (top_size s) stack) behind))
    (All-drop P (top_size s + below_size s) stack all))

-- ---- locals

held_known : (w : World) (heap : Cells) (kind : Kind) (word next : Option Value) (value : Value)
    → ((v : Value) → word ≡ Some v → IsKnown w heap v) → held kind word next ≡ Some value → IsKnown w heap value
held_known w heap kinds.Int (Some (Int n)) next value known e = let same : Int n ≡ value = cc in subst (λ (v : Value). IsKnown w heap v) same tt
held_known w heap kinds.Long (Some (Long n)) (Some Pad) value known e = let same : Long n ≡ value = cc in subst (λ (v : Value). IsKnown w heap v) same tt
held_known w heap kinds.Reference (Some Null) next value known e = let same : Null ≡ value = cc in subst (λ (v : Value). IsKnown w heap v) same tt
held_known w heap kinds.Reference (Some (Ref r)) next value known e =
    let same : Ref r ≡ value = cc in subst (λ (v : Value). IsKnown w heap v) same (known (Ref r) refl)
held_known w heap kind word next value known e = absurd cc

pub at_known : (w : World) (heap : Cells) (words : List Value) (n : ℕ) (v : Value) → slice_get words n ≡ Some v → AreKnown w heap words → IsKnown w heap v
at_known w heap [] n v e all = absurd cc
at_known w heap (word ∷ words) zero v e all = let same : word ≡ v = cc in subst (λ (x : Value). IsKnown w heap x) same (All-head (IsKnown w heap) word words all)
at_known w heap (word ∷ words) (suc n) v e all = at_known w heap words n v e (All-tail (IsKnown w heap) word words all)

pub loaded_known : (w : World) (heap : Cells) (kind : Kind) (locals : List Value) (n : ℕ) (value : Value) → loaded kind locals n ≡ Some value → AreKnown w heap locals → IsKnown w heap value
loaded_known w heap kind locals n value e all =
    held_known w heap kind (slice_get locals n) (slice_get locals (n + 1)) value (λ v is. at_known w heap locals n v is all) e

word_in : (w : World) (heap : Cells) (inside : Bool) (words now : List Value) → (if inside then Some words else None) ≡ Some now → AreKnown w heap words → AreKnown w heap now
word_in w heap inside words now e all = shuffled_in w heap inside words now e all

pub set_known : (w : World) (heap : Cells) (locals : List Value) (n : ℕ) (word : Value) → IsKnown w heap word → AreKnown w heap locals → AreKnown w heap (slice_set locals n word)
set_known w heap locals n word known all = All-set (IsKnown w heap) locals n word known all

word_known : (w : World) (heap : Cells) (word : Value) (n : ℕ) (locals now : List Value) → with_word word n locals ≡ Some now → IsKnown w heap word → AreKnown w heap locals → AreKnown w heap now
word_known w heap word n locals now e known all = word_in w heap (nat_lt n (length locals)) (slice_set locals n word) now e (set_known w heap locals n word known all)

pad_known : (w : World) (heap : Cells) (n : ℕ) (before : Option (List Value)) (now : List Value) → ((words : List Value) → before ≡ Some words → AreKnown w heap words)
    → option_and_then (with_word Pad n) before ≡ Some now → AreKnown w heap now
pad_known w heap n None now each e = absurd cc
pad_known w heap n (Some words) now each e = word_known w heap Pad n words now e tt (each words refl)

pub stored_known : (w : World) (heap : Cells) (locals : List Value) (n : ℕ) (value : Value) (now : List Value) → stored locals n value ≡ Some now
    → IsKnown w heap value → AreKnown w heap locals → AreKnown w heap now
stored_known w heap locals n (Int z) now e known all = word_known w heap (Int z) n locals now e tt all
stored_known w heap locals n (Long z) now e known all =
    pad_known w heap (n + 1) (with_word (Long z) n locals) now (λ words is. word_known w heap (Long z) n locals words is tt all) e
stored_known w heap locals n Pad now e known all = word_known w heap Pad n locals now e tt all
stored_known w heap locals n Null now e known all = word_known w heap Null n locals now e tt all
stored_known w heap locals n (Ref r) now e known all = word_known w heap (Ref r) n locals now e known all

-- ---- what a call takes, and what a return hands over

pub reversed_known : (w : World) (heap : Cells) (words : List Value) → AreKnown w heap words → AreKnown w heap (reverse words)
reversed_known w heap words all = λ k d below.
    let inside : k < length words = omega (arith, length-reverse words) in
    subst (λ (v : Value). IsKnown w heap v) (sym (get_or-reverse words k d inside)) (all (length words - 1 - k) d (omega arith))

taken_in : (w : World) (heap : Cells) (enough : Bool) (all_words rest : List Value) (h : Handed)
    → (if enough then Some (record { words = all_words; rest = rest }) else None) ≡ Some h
    → AreKnown w heap all_words → AreKnown w heap rest → AreKnown w heap h.words × AreKnown w heap h.rest
taken_in w heap true all_words rest h e known others =
    let same : record { words = all_words; rest = rest } ≡ h = cc in
    subst (λ (x : Handed). AreKnown w heap x.words × AreKnown w heap x.rest) same (known, others)
taken_in w heap false all_words rest h e known others = absurd cc

pub taken_known : (w : World) (heap : Cells) (n : ℕ) (stack : List Value) (h : Handed) → taken n stack ≡ Some h → AreKnown w heap stack → AreKnown w heap h.words × AreKnown w heap h.rest
taken_known w heap n stack h e all =
    taken_in w heap (nat_le n (length stack)) (reverse (take n stack)) (drop n stack) h e
    (reversed_known w heap (take n stack) (All-take (IsKnown w heap) n stack all)) (All-drop (IsKnown w heap) n stack all)

pub first_known : (w : World) (heap : Cells) (words : List Value) (max_locals : ℕ) → AreKnown w heap words → AreKnown w heap (first_locals words max_locals)
first_known w heap words max_locals all =
    All-append (IsKnown w heap) words (replicate (max_locals - length words) Pad) all (All-replicate (IsKnown w heap) (max_locals - length words) Pad tt)

pub narrowed_known : (w : World) (heap : Cells) (type : List ℕ) (value : Value) → IsKnown w heap value → IsKnown w heap (narrowed_to type value)
narrowed_known w heap type (Int z) known = tt
narrowed_known w heap type value known = known

-- ---- instructions that change words alone

pub computed_known :
    {pool : List (Option Constant)} {locals stack now after : List Value} {action : Action} {wrapping : Bool} (w : World) (heap : Cells)
    → Computed pool locals stack action wrapping now after → AreKnown w heap locals → AreKnown w heap stack
    → AreKnown w heap now × AreKnown w heap after
computed_known w heap rows.nothing l s = (l, s)
computed_known w heap rows.null l s = (l, All-cons (IsKnown w heap) Null _ tt s)
computed_known w heap (rows.int {n = n}) l s = (l, All-cons (IsKnown w heap) (Int n) _ tt s)
computed_known w heap (rows.long {n = n}) l s = (l, pushed_known w heap (Long n) _ tt s)
computed_known w heap (rows.int_constant {n = n} is) l s = (l, All-cons (IsKnown w heap) (Int n) _ tt s)
computed_known w heap (rows.long_constant {n = n} is) l s = (l, pushed_known w heap (Long n) _ tt s)
computed_known {locals = locals} {stack = stack} w heap (rows.load {kind = kind} {n = n} {value = value} is) l s =
    (l, pushed_known w heap value stack (loaded_known w heap kind locals n value is l) s)
computed_known {locals = locals} {stack = stack} w heap (rows.store {kind = kind} {n = n} {p = p} {now = now} is to) l s =
    let got = popped_known w heap kind stack p is s in
    (stored_known w heap locals n p.value now to got.0 l, got.1)
computed_known {stack = stack} w heap (rows.shuffle {s = moves} {now = now} is) l s = (l, shuffled_known w heap moves stack now is s)
computed_known {stack = stack} w heap (rows.arithmetic {w = width} {p = p} is whole) l s =
    (l, pushed_number w heap width _ p.rest (two_known w heap width width stack p is s))
computed_known {stack = stack} w heap (rows.negate {w = width} {p = p} is) l s =
    (l, pushed_number w heap width _ p.rest (number_known w heap width stack p is s))
computed_known {stack = stack} w heap (rows.shift {w = width} {p = p} is) l s =
    (l, pushed_number w heap width _ p.rest (two_known w heap width widths.Int stack p is s))
computed_known {stack = stack} w heap (rows.logic {w = width} {p = p} is) l s =
    (l, pushed_number w heap width _ p.rest (two_known w heap width width stack p is s))
computed_known {locals = locals} w heap (rows.increment {n = n} is) l s = (set_known w heap locals n _ tt l, s)
computed_known {stack = stack} w heap (rows.int_to_long {p = p} is) l s =
    (l, pushed_known w heap (Long p.number) p.rest tt (number_known w heap widths.Int stack p is s))
computed_known {stack = stack} w heap (rows.long_to_int {p = p} is) l s =
    (l, All-cons (IsKnown w heap) _ p.rest tt (number_known w heap widths.Long stack p is s))
computed_known {stack = stack} w heap (rows.narrow {p = p} is) l s =
    (l, All-cons (IsKnown w heap) _ p.rest tt (number_known w heap widths.Int stack p is s))
computed_known {stack = stack} w heap (rows.compare {p = p} is) l s =
    (l, All-cons (IsKnown w heap) _ p.rest tt (two_known w heap widths.Long widths.Long stack p is s))
