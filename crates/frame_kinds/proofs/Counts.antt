-- How many words an instruction pops and pushes, and how far it moves the operand stack's height.
use Rattle.std.proofs.Common.{◌≡◌, ℕ, zero, suc, ◌+◌, ◌*◌, ◌-◌, ◌≤◌, Bool, true, false, List, [], ◌∷◌, ◌++◌, length, take, drop, replicate, Option, ℤ, pos, neg_ℤ, ◌+ℤ◌, ◌-ℤ◌, ◌≤ℤ◌, refl, ap, ◌∙◌, arith}
use Rattle.std.specs.Prelude.{if◌then◌else◌, codes, ◌||◌}
use Rattle.std.specs.Str.{bytes_eq}
use Rattle.std.proofs.lemmas.Int.{ints}
use Rattle.std.proofs.lemmas.List.Sums.{sum_by-cons}
use Rattle.std.proofs.lemmas.List.{length-take-le, length-drop, length-append, length-replicate}
use Rattle.class_pool.specs.declared.constant.Constant.{Constant}
use Rattle.descriptors.specs.Pieces.{first_piece, pieces_from, pieces, is_close, before_close, types_of, parameters_of, result_of}
use Rattle.descriptors.specs.Texts.{is_reference, text_words, words_of_all}
use Rattle.op_table.specs.declared.acts.Action.{Action}
use Rattle.op_table.specs.declared.acts.Action.TheVariants as acts
use Rattle.op_table.specs.declared.acts.Kind as values
use Rattle.op_table.specs.declared.acts.Kind.TheVariants as value
use Rattle.op_table.specs.declared.acts.Width.{Width}
use Rattle.op_table.specs.declared.acts.Width.TheVariants as widths
use Rattle.op_table.specs.declared.acts.Element.{Element}
use Rattle.op_table.specs.declared.acts.Element.TheVariants as elements
use Rattle.op_table.specs.declared.acts.Shuffle.{Shuffle}
use Rattle.op_table.specs.declared.acts.Shuffle.TheVariants.{Pop, Pop2, Dup, DupX1, DupX2, Dup2, Dup2X1, Dup2X2, Swap}
use Rattle.op_table.specs.declared.acts.Call.{Call}
use Rattle.op_table.specs.declared.acts.Call.TheVariants.{Virtual, Special, Static, Interface}
use Rattle.slot_facts.specs.declared.kind.Kind.{Kind}
use Rattle.slot_facts.specs.declared.kind.Kind.TheVariants as kinds
use Rattle.kind_frames.specs.Frames.{words_in}
use Rattle.kind_frames.specs.declared.fact.KindFrame.{KindFrame}
use Rattle.kind_frames.proofs.KindOrder.{to_top}
use Rattle.kind_frames.proofs.Pointwise.{Each, none, more}
use Rattle.kind_effects.specs.Types.{long_kinds, kinds_of_number, kinds_of_type, kinds_of_result, kind_of_reference}
use Rattle.kind_effects.specs.Effects.{descriptor_at, value_words, width_words, element_words, top_size, below_size, moved, receiver_words, pops, loaded, element_kinds, number_kinds, pushed}
use Rattle.kind_effects.specs.Frames.{top_words, frame_after}
use Rattle.kind_effects.proofs.Places.{each_length}
use Rattle.kind_effects.proofs.Changes.{pushed_each}

-- ---- words that are popped

-- no descriptor is longer than the text of a class file
abbrev pub AreShort : List (Option Constant) → Type 0
AreShort pool = (i : ℕ) → length (descriptor_at pool i) ≤ 65535

words_if : (two : Bool) → (if two then 2 else 1) ≤ 2
words_if true = omega arith
words_if false = omega arith

words_few : (text : List ℕ) → text_words text ≤ 2
words_few text = words_if (bytes_eq text (codes "J") || bytes_eq text (codes "D"))

before_if : (piece : List ℕ) (others : List (List ℕ)) (n : ℕ) (close : Bool) → words_of_all (before_close others) ≤ n
    → words_of_all (if close then [] else piece ∷ before_close others) ≤ n + 2
before_if piece others n true l = let goal : words_of_all [] ≤ n + 2 = omega arith in goal
before_if piece others n false l =
    let w = words_few piece in
    let whole : words_of_all (piece ∷ before_close others) ≡ text_words piece + words_of_all (before_close others) = sum_by-cons text_words piece (before_close others) in
    let goal : words_of_all (piece ∷ before_close others) ≤ n + 2 = omega (arith, whole, w, l) in
    goal

pieces_few : (n : ℕ) (text : List ℕ) → words_of_all (before_close (pieces_from n text)) ≤ 2 * n
pieces_few zero text = omega arith
pieces_few (suc n) [] = omega arith
pieces_few (suc n) (b ∷ text) =
    let piece = first_piece (b ∷ text) in
    let others = pieces_from n (drop (length piece) (b ∷ text)) in
    let rest = pieces_few n (drop (length piece) (b ∷ text)) in
    let this = before_if piece others (2 * n) (is_close piece) rest in
    omega arith

types_few : (text : List ℕ) → words_of_all (types_of text) ≤ 2 * length text
unfolding types_of pieces
types_few text = pieces_few (length text) text

parameters_few : (desc : List ℕ) → words_of_all (parameters_of desc) ≤ 2 * length desc
parameters_few desc = let l = types_few (drop 1 desc) in let d = length-drop 1 desc in omega (arith, l, d)

value_few : (kind : values.Kind) → value_words kind ≤ 2
value_few value.Int = omega arith
value_few value.Long = omega arith
value_few value.Reference = omega arith

width_few : (w : Width) → width_words w ≤ 2
width_few widths.Int = omega arith
width_few widths.Long = omega arith

element_few : (e : Element) → element_words e ≤ 2
element_few elements.Long = omega arith
element_few elements.Int = omega arith
element_few elements.Reference = omega arith
element_few elements.Byte = omega arith
element_few elements.Char = omega arith
element_few elements.Short = omega arith

sizes_few : (s : Shuffle) → below_size s + top_size s ≤ 4
sizes_few Pop = omega arith
sizes_few Pop2 = omega arith
sizes_few Dup = omega arith
sizes_few DupX1 = omega arith
sizes_few DupX2 = omega arith
sizes_few Dup2 = omega arith
sizes_few Dup2X1 = omega arith
sizes_few Dup2X2 = omega arith
sizes_few Swap = omega arith

receiver_few : (c : Call) → receiver_words c ≤ 1
receiver_few Static = omega arith
receiver_few Virtual = omega arith
receiver_few Special = omega arith
receiver_few Interface = omega arith

number_if : (j f d : Bool)
    → length (if j then long_kinds else if f then kinds.Top ∷ [] else if d then kinds.Top ∷ kinds.Top ∷ [] else kinds.Int ∷ []) ≤ 2
number_if true f d = omega arith
number_if false true d = omega arith
number_if false false true = omega arith
number_if false false false = omega arith

type_if : (type : List ℕ) (reference : Bool) → length (if reference then kind_of_reference type ∷ [] else kinds_of_number type) ≤ 2
type_if type true = omega arith
type_if type false = number_if (bytes_eq type (codes "J")) (bytes_eq type (codes "F")) (bytes_eq type (codes "D"))

type_few : (type : List ℕ) → length (kinds_of_type type) ≤ 2
unfolding kinds_of_type
type_few type = type_if type (is_reference type)

result_if : (type : List ℕ) (nothing : Bool) → length (if nothing then [] else kinds_of_type type) ≤ 2
result_if type true = omega arith
result_if type false = type_few type

result_few : (type : List ℕ) → length (kinds_of_result type) ≤ 2
result_few type = result_if type (bytes_eq type (codes "V"))

pub pops_few : (pool : List (Option Constant)) → AreShort pool → (action : Action) → pops pool action ≤ 262144
unfolding pops
pops_few pool short (acts.Store kind n) = let l = value_few kind in omega arith
pops_few pool short (acts.LoadElement e) = omega arith
pops_few pool short (acts.StoreElement e) = let l = element_few e in omega arith
pops_few pool short (acts.Shuffle s) = let l = sizes_few s in omega arith
pops_few pool short (acts.Arithmetic op w) = let l = width_few w in omega arith
pops_few pool short (acts.Negate w) = let l = width_few w in omega arith
pops_few pool short (acts.Shift s w) = let l = width_few w in omega arith
pops_few pool short (acts.Logic o w) = let l = width_few w in omega arith
pops_few pool short acts.IntToLong = omega arith
pops_few pool short acts.LongToInt = omega arith
pops_few pool short (acts.Narrow small) = omega arith
pops_few pool short acts.CompareLongs = omega arith
pops_few pool short (acts.IfZero test d) = omega arith
pops_few pool short (acts.IfInts test d) = omega arith
pops_few pool short (acts.IfSame same d) = omega arith
pops_few pool short (acts.IfNull null d) = omega arith
pops_few pool short (acts.Switch default low count pairs) = omega arith
pops_few pool short (acts.Return kind) = let l = value_few kind in omega arith
pops_few pool short (acts.PutStatic i) = let l = type_few (descriptor_at pool i) in omega arith
pops_few pool short (acts.GetField i) = omega arith
pops_few pool short (acts.PutField i) = let l = type_few (descriptor_at pool i) in omega arith
pops_few pool short (acts.Call c i) =
    let r = receiver_few c in let l = parameters_few (descriptor_at pool i) in let s = short i in omega (arith, r, l, s)
pops_few pool short (acts.NewArray kind) = omega arith
pops_few pool short (acts.NewReferenceArray i) = omega arith
pops_few pool short acts.ArrayLength = omega arith
pops_few pool short acts.Throw = omega arith
pops_few pool short (acts.CheckCast i) = omega arith
pops_few pool short (acts.InstanceOf i) = omega arith
pops_few pool short action = omega arith

-- ---- words that are pushed

cut_length : {A : Type 0} (k : ℕ) (xs : List A) → length (take k xs) + length (drop k xs) ≡ length xs
cut_length zero xs = omega arith
cut_length (suc k) [] = refl
cut_length (suc k) (x ∷ xs) = let e = cut_length k xs in let goal : suc (length (take k xs)) + length (drop k xs) ≡ suc (length xs) = omega (arith, e) in goal

three_lengths : (xs ys zs : List Kind) → length (xs ++ ys ++ zs) ≡ length xs + (length ys + length zs)
three_lengths xs ys zs = length-append (xs ++ ys) zs ∙ ap (λ n. n + length zs) (length-append xs ys) ∙ omega arith

moved_few : (s : Shuffle) (below top : List Kind) → length (moved s below top) ≤ 2 * (length below + length top)
moved_few Pop below top = omega arith
moved_few Pop2 below top = omega arith
moved_few Dup below top = let l = length-append top top in omega (arith, l)
moved_few DupX1 below top = let l = three_lengths top below top in omega (arith, l)
moved_few DupX2 below top = let l = three_lengths top below top in omega (arith, l)
moved_few Dup2 below top = let l = length-append top top in omega (arith, l)
moved_few Dup2X1 below top = let l = three_lengths top below top in omega (arith, l)
moved_few Dup2X2 below top = let l = three_lengths top below top in omega (arith, l)
moved_few Swap below top = let l = length-append top below in omega (arith, l)

loaded_few : (kind : values.Kind) (locals : List Kind) (n : ℕ) → length (loaded kind locals n) ≤ 2
loaded_few value.Int locals n = omega arith
loaded_few value.Long locals n = omega arith
loaded_few value.Reference locals n = omega arith

elements_few : (e : Element) (array : Kind) → length (element_kinds e array) ≤ 2
elements_few elements.Int array = omega arith
elements_few elements.Long array = omega arith
elements_few elements.Reference array = omega arith
elements_few elements.Byte array = omega arith
elements_few elements.Char array = omega arith
elements_few elements.Short array = omega arith

numbers_few : (w : Width) → length (number_kinds w) ≤ 2
numbers_few widths.Int = omega arith
numbers_few widths.Long = omega arith

two_more : (n m : ℕ) → n ≤ 2 → n ≤ 2 * m + 2
two_more n m l = omega (arith, l)

pushed_few : (pool : List (Option Constant)) (action : Action) (locals words : List Kind) → length (pushed pool action locals words) ≤ 2 * length words + 2
unfolding pushed
pushed_few pool acts.PushNull locals words = omega arith
pushed_few pool (acts.PushInt n) locals words = omega arith
pushed_few pool (acts.PushLong n) locals words = omega arith
pushed_few pool (acts.PushConstant i) locals words = omega arith
pushed_few pool (acts.PushLongConstant i) locals words = omega arith
pushed_few pool (acts.Load kind n) locals words = two_more (length (loaded kind locals n)) (length words) (loaded_few kind locals n)
pushed_few pool (acts.LoadElement e) locals words = let l = elements_few e in two_more _ (length words) (l _)
pushed_few pool (acts.Shuffle s) locals words =
    let below = take (below_size s) words in
    let top = drop (below_size s) words in
    let l = moved_few s below top in
    let c = cut_length (below_size s) words in
    omega (arith, l, c)
pushed_few pool (acts.Arithmetic op w) locals words = two_more (length (number_kinds w)) (length words) (numbers_few w)
pushed_few pool (acts.Negate w) locals words = two_more (length (number_kinds w)) (length words) (numbers_few w)
pushed_few pool (acts.Shift s w) locals words = two_more (length (number_kinds w)) (length words) (numbers_few w)
pushed_few pool (acts.Logic l w) locals words = two_more (length (number_kinds w)) (length words) (numbers_few w)
pushed_few pool acts.IntToLong locals words = omega arith
pushed_few pool acts.LongToInt locals words = omega arith
pushed_few pool (acts.Narrow small) locals words = omega arith
pushed_few pool acts.CompareLongs locals words = omega arith
pushed_few pool (acts.GetStatic i) locals words = two_more (length (kinds_of_type (descriptor_at pool i))) (length words) (type_few (descriptor_at pool i))
pushed_few pool (acts.GetField i) locals words = two_more (length (kinds_of_type (descriptor_at pool i))) (length words) (type_few (descriptor_at pool i))
pushed_few pool (acts.Call c i) locals words =
    two_more (length (kinds_of_result (result_of (descriptor_at pool i)))) (length words) (result_few (result_of (descriptor_at pool i)))
pushed_few pool (acts.New i) locals words = omega arith
pushed_few pool (acts.NewArray kind) locals words = omega arith
pushed_few pool (acts.NewReferenceArray i) locals words = omega arith
pushed_few pool acts.ArrayLength locals words = omega arith
pushed_few pool (acts.CheckCast i) locals words = omega arith
pushed_few pool (acts.InstanceOf i) locals words = omega arith
pushed_few pool action locals words = omega arith

-- ---- the height behind an instruction

pub each_top : (xs : List Kind) (n : ℕ) → length xs ≡ n → Each xs (replicate n kinds.Top)
each_top [] zero e = none
each_top [] (suc n) e = absurd (omega (arith, e))
each_top (x ∷ xs) zero e = absurd (omega (arith, e))
each_top (x ∷ xs) (suc n) e = more to_top (each_top xs n (omega (arith, e)))

top_words_length : (n : ℕ) (stack : List Kind) → length (top_words n stack) ≡ n
top_words_length n stack =
    length-append (replicate (n - length stack) kinds.Top) (drop (length stack - n) stack)
    ∙ ap (λ k. k + length (drop (length stack - n) stack)) (length-replicate (n - length stack) kinds.Top)
    ∙ ap (λ k. (n - length stack) + k) (length-drop (length stack - n) stack)
    ∙ omega arith

-- how many words it pushes, whatever it pops
abbrev pub pushes : List (Option Constant) → Action → ℕ → ℕ
pushes pool action locals = length (pushed pool action (replicate locals kinds.Top) (replicate (pops pool action) kinds.Top))

pub pushes_few : (pool : List (Option Constant)) (action : Action) (locals : ℕ) → pushes pool action locals ≤ 2 * pops pool action + 2
pushes_few pool action locals =
    let l = pushed_few pool action (replicate locals kinds.Top) (replicate (pops pool action) kinds.Top) in
    let r = length-replicate (pops pool action) kinds.Top in
    omega (arith, l, r)

pub height_after :
    (pool : List (Option Constant)) (action : Action) (locals : ℕ) (frame : KindFrame) → length frame.slots ≡ locals + words_in frame.height
    → (frame_after pool action locals frame).height ≡ (frame.height -ℤ pos (pops pool action)) +ℤ pos (pushes pool action locals)
unfolding frame_after
height_after pool action locals frame e =
    let n = pops pool action in
    let front = each_top (take locals frame.slots) locals (length-take-le locals frame.slots (omega (arith, e))) in
    let words = each_top (top_words n (drop locals frame.slots)) n (top_words_length n (drop locals frame.slots)) in
    ap (λ k. (frame.height -ℤ pos n) +ℤ pos k) (each_length (pushed_each pool action front words))

-- frames of different heights have different heights behind it
pub apart_after : (a b : ℤ) (n m : ℕ) → (a -ℤ pos n) +ℤ pos m ≡ (b -ℤ pos n) +ℤ pos m → a ≡ b
apart_after a b n m e = omega (arith, ints, e)

-- ---- how far heights come in so many steps

abbrev pub far : ℕ → ℕ
far zero = 0
far (suc k) = far k + 1048576

pub far_is : (k : ℕ) → far k ≡ k * 1048576
far_is zero = refl
far_is (suc k) = let e = far_is k in omega (arith, e)

abbrev pub IsNear : ℕ → ℤ → Type 0
IsNear k h = (neg_ℤ (pos (far k)) ≤ℤ h) × (h ≤ℤ pos (far k))

near_by : (h : ℤ) (n m a : ℕ) → n ≤ 262144 → m ≤ 2 * n + 2 → neg_ℤ (pos a) ≤ℤ h → h ≤ℤ pos a
    → (neg_ℤ (pos (a + 1048576)) ≤ℤ ((h -ℤ pos n) +ℤ pos m)) × (((h -ℤ pos n) +ℤ pos m) ≤ℤ pos (a + 1048576))
near_by h n m a few made low high = (omega (arith, ints, few, made, low, high), omega (arith, ints, few, made, low, high))

pub near_after : (k : ℕ) (h : ℤ) (n m : ℕ) → n ≤ 262144 → m ≤ 2 * n + 2 → IsNear k h → IsNear (suc k) ((h -ℤ pos n) +ℤ pos m)
near_after k h n m few made near = near_by h n m (far k) few made near.0 near.1

near_more_by : (h : ℤ) (a : ℕ) → neg_ℤ (pos a) ≤ℤ h → h ≤ℤ pos a → (neg_ℤ (pos (a + 1048576)) ≤ℤ h) × (h ≤ℤ pos (a + 1048576))
near_more_by h a low high = (omega (arith, ints, low, high), omega (arith, ints, low, high))

pub near_more : (k : ℕ) (h : ℤ) → IsNear k h → IsNear (suc k) h
near_more k h near = near_more_by h (far k) near.0 near.1
