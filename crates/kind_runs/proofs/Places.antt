-- Words of kinds, place by place.
use Rattle.std.proofs.Common.{◌≡◌, ℕ, zero, suc, List, [], ◌∷◌, ◌++◌, length, take, drop, set, get_or, refl, ap, subst, arith, Option, Some}
use Rattle.std.specs.Prelude.{slice_get}
use Rattle.slot_facts.specs.declared.kind.Kind.{Kind}
use Rattle.slot_facts.specs.declared.kind.Kind.TheVariants as kinds
use Rattle.kind_frames.proofs.KindOrder.{Below, itself, to_top, null_array, null_object, array_object}
use Rattle.kind_frames.proofs.Pointwise.{Each}
use Rattle.kind_frames.proofs.Pointwise as each
use Rattle.frames.specs.declared.value.Value.{Value}
use Rattle.frames.specs.declared.heap.Cell.{Cell}
use Rattle.frames.specs.declared.heap.Cell.TheVariants.{Array}
use Rattle.frames.specs.Heap.{Cells, cell_at}
use Rattle.frames.specs.Kept.{IsKept, KeepsHeap}
use Rattle.frames.specs.Kept as kept
use Rattle.kind_runs.specs.Meaning.{HasKind, int, long, pad, array, no_array, object, no_object, null, any, HaveKinds, none, more}

pub have_length : {heap : Cells} {ks : List Kind} {words : List Value} → HaveKinds heap ks words → length ks ≡ length words
have_length none = refl
have_length (more is rest) = ap suc (have_length rest)

pub have_append : {heap : Cells} {ks us : List Kind} {xs ys : List Value} → HaveKinds heap ks xs → HaveKinds heap us ys → HaveKinds heap (ks ++ us) (xs ++ ys)
have_append none others = others
have_append (more is rest) others = more is (have_append rest others)

-- words are cut in two where the first are so many
pub have_front : {heap : Cells} (n : ℕ) (ks : List Kind) (xs ys : List Value) → length xs ≡ n → HaveKinds heap ks (xs ++ ys) → HaveKinds heap (take n ks) xs
have_front zero ks [] ys e is = none
have_front (suc n) ks [] ys e is = absurd (omega (arith, e))
have_front zero ks (x ∷ xs) ys e is = absurd (omega (arith, e))
have_front (suc n) [] (x ∷ xs) ys e is = elim is [ ]
have_front (suc n) (k ∷ ks) (x ∷ xs) ys e (more is rest) = more is (have_front n ks xs ys (omega (arith, e)) rest)

pub have_back : {heap : Cells} (n : ℕ) (ks : List Kind) (xs ys : List Value) → length xs ≡ n → HaveKinds heap ks (xs ++ ys) → HaveKinds heap (drop n ks) ys
have_back zero ks [] ys e is = is
have_back (suc n) ks [] ys e is = absurd (omega (arith, e))
have_back zero ks (x ∷ xs) ys e is = absurd (omega (arith, e))
have_back (suc n) [] (x ∷ xs) ys e is = elim is [ ]
have_back (suc n) (k ∷ ks) (x ∷ xs) ys e (more is rest) = have_back n ks xs ys (omega (arith, e)) rest

pub have_at : {heap : Cells} (ks : List Kind) (words : List Value) (n : ℕ) (word : Value) → HaveKinds heap ks words → slice_get words n ≡ Some word → HasKind heap (get_or ks n kinds.Top) word
have_at [] [] n word none e = absurd cc
have_at [] (x ∷ words) n word is e = elim is [ ]
have_at (k ∷ ks) [] n word is e = elim is [ ]
have_at {heap = heap} (k ∷ ks) (x ∷ words) zero word (more is rest) e =
    let same : x ≡ word = cc in
    subst (λ (v : Value). HasKind heap k v) same is
have_at (k ∷ ks) (x ∷ words) (suc n) word (more is rest) e = have_at ks words n word rest e

pub have_set : {heap : Cells} {ks : List Kind} {words : List Value} {kind : Kind} {word : Value} (n : ℕ) → HasKind heap kind word → HaveKinds heap ks words → HaveKinds heap (set ks n kind) (set words n word)
have_set n is none = none
have_set zero is (more first rest) = more is rest
have_set (suc n) is (more first rest) = more first (have_set n is rest)

pub have_one : {heap : Cells} {kind : Kind} {word : Value} → HasKind heap kind word → HaveKinds heap (kind ∷ []) (word ∷ [])
have_one is = more is none

-- ---- the order of kinds

pub below_has : {heap : Cells} {a b : Kind} {word : Value} → Below a b → HasKind heap a word → HasKind heap b word
below_has itself is = is
below_has to_top is = any
below_has null_array null = no_array
below_has null_object null = no_object
below_has array_object (array at fits) = object
below_has array_object no_array = no_object

pub above_have : {heap : Cells} {ks us : List Kind} {words : List Value} → Each ks us → HaveKinds heap ks words → HaveKinds heap us words
above_have each.none none = none
above_have (each.more b others) (more is rest) = more (below_has b is) (above_have others rest)

-- ---- heaps

kept_array : (before now : Option Cell) (type : List ℕ) (items : List Value) → IsKept before now → before ≡ Some (Array type items) → (others : List Value) × (now ≡ Some (Array type others))
kept_array before now type items kept.nothing e = absurd cc
kept_array before now type items (kept.object same) e = absurd cc
kept_array before now type items (kept.array {type = t} {now = others} same) e =
    let is : t ≡ type = cc in
    (others, ap (λ (x : List ℕ). Some (Array x others)) is)

pub stays : {before now : Cells} {kind : Kind} {word : Value} → KeepsHeap before now → HasKind before kind word → HasKind now kind word
stays keeps int = int
stays keeps long = long
stays keeps pad = pad
stays {before = before} {now = now} keeps (array {type = type} {items = items} {r = r} at fits) =
    let there = kept_array (cell_at before r) (cell_at now r) type items (keeps r) at in
    array there.1 fits
stays keeps no_array = no_array
stays keeps object = object
stays keeps no_object = no_object
stays keeps null = null
stays keeps any = any

pub have_stay : {before now : Cells} {ks : List Kind} {words : List Value} → KeepsHeap before now → HaveKinds before ks words → HaveKinds now ks words
have_stay keeps none = none
have_stay keeps (more is rest) = more (stays keeps is) (have_stay keeps rest)
