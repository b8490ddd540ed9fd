-- The members of a class are found by their names.
use Rattle.std.proofs.Common.{◌≡◌, inl, inr, ℕ, zero, suc, ◌+◌, ◌<◌, ◌≤◌, Bool, true, false, ◌&&◌, nat_lt, nat_eq, List, [], ◌∷◌, ◌++◌, length, drop, map, get_or, Some, None, arith, refl, sym, ap, subst, ◌∙◌}
use Rattle.std.specs.Prelude.{All, Contains}
use Rattle.std.specs.Fn.{Called, ComparesAs}
use Rattle.std.specs.List.{position, range_with_len}
use Rattle.std.specs.List.Sorted.{IsPermutation, IsSorted, IsSortedBy, IsPartitionedBy}
use Rattle.std.specs.declared.cmp.Ordering.{Ordering}
use Rattle.std.specs.declared.cmp.Ordering.TheVariants.{Less, Equal, Greater}
use Rattle.std.specs.Ordering.{nat_cmp, ordering_then, ordering_reverse, is_lt, is_eq, is_ne}
use Rattle.std.specs.Str.{bytes_eq}
use Rattle.std.specs.Cmp.{IsTotalOrder, IsStrictWeakOrder, nat_cmp_is}
use Rattle.std.specs.Cmp.Lexicographic.{slice_cmp}
use Rattle.std.proofs.Math.Dec.{eqb-zero-suc, eqb-suc-zero, eqb-suc-suc}
use Rattle.std.proofs.lemmas.Bool.{cases_Bool, cases_lt, and_parts, and_left, ltb-false, true≢false}
use Rattle.std.proofs.lemmas.Cmp.{nat_list_cmp_total, nat_cmp_total, on_total, then_total}
use Rattle.std.proofs.lemmas.Fn.{always_returns_same}
use Rattle.std.proofs.lemmas.Grind.{common_steps}
use Rattle.std.proofs.lemmas.List.{get_or_default, get_or_append_left, get_or_push, get_or_past, length_push, drop-drop}
use Rattle.std.proofs.lemmas.List.FromFn.{length-range_with_len, get_or-range_with_len}
use Rattle.std.proofs.lemmas.List.Sorted.{ranks_by, sorted_far, All-permutation, Contains-permutation}
use Rattle.std.proofs.lemmas.Map.Text.{is_eq-slice_cmp}
use Rattle.std.proofs.lemmas.Slice.Eq.{bytes_eq-Decides}
use Rattle.common_laws.proofs.Positions.{position_at, position_nowhere}
use denote.Param.Members.{Mut}
use denote.Ref.{Bor}
use Rattle.world.specs.declared.members.Members.{Members}
use Rattle.class_hierarchy.specs.World.{World, class_at, object_class}
use Rattle.world.specs.Members.{Key, front, mixed, key_cmp, key_at, place_cmp, is_keyed, AreByKey, IsPointOf, AreMembers, HaveMembers}

-- ---- the order

pub key_order : IsTotalOrder key_cmp
key_order = on_total (λ (k : Key). mixed k.name k.desc) nat_list_cmp_total

place_order : (keys : List Key) → IsTotalOrder (place_cmp keys)
place_order keys = then_total (on_total (key_at keys) key_order) nat_cmp_total

key_ranks : IsStrictWeakOrder (λ x y. is_lt (key_cmp x y))
key_ranks = ranks_by key_order (λ k. k)

pub place_ranks : (keys : List Key) → IsStrictWeakOrder (λ i j. is_lt (place_cmp keys i j))
place_ranks keys = ranks_by (place_order keys) (λ i. i)

thens : (a b c : Ordering) → ordering_then a (ordering_then b c) ≡ ordering_then (ordering_then a b) c
thens Less b c = refl
thens Equal b c = refl
thens Greater b c = refl

first_not : (a b : Ordering) → is_lt (ordering_then a b) ≡ false → is_lt a ≡ false
first_not Less b e = e
first_not Equal b e = refl
first_not Greater b e = refl

second_not : (a b : Ordering) → is_eq a ≡ true → is_lt (ordering_then a b) ≡ false → is_lt b ≡ false
second_not Less b e h = absurd cc
second_not Equal b e h = h
second_not Greater b e h = absurd cc

up_to : (i j : ℕ) (b : Bool) → nat_lt j i ≡ b → is_lt (nat_cmp j i) ≡ false → i ≤ j
up_to i j true e h = absurd (let less : is_lt (nat_cmp j i) ≡ true = rw e refl in cc)
up_to i j false e h = ltb-false j i e

equal_not : (a : Ordering) → is_eq a ≡ true → is_lt a ≡ false
equal_not Less e = absurd (true≢false (sym e))
equal_not Equal e = refl
equal_not Greater e = refl

neither : (a b : Ordering) → a ≡ ordering_reverse b → is_lt a ≡ false → is_lt b ≡ false → is_eq a ≡ true
neither Less b e h k = absurd cc
neither Equal b e h k = refl
neither Greater Less e h k = absurd cc
neither Greater Equal e h k = absurd cc
neither Greater Greater e h k = absurd cc

-- ---- names and descriptors side by side

less_first : (y : ℕ) (o : Ordering) → ordering_then (nat_cmp 0 (suc y)) o ≡ Less
less_first y o = ap (λ r. ordering_then r o) (sym (nat_cmp_is 0 (suc y) Less (omega arith)))

greater_first : (x : ℕ) (o : Ordering) → ordering_then (nat_cmp (suc x) 0) o ≡ Greater
greater_first x o = ap (λ r. ordering_then r o) (sym (nat_cmp_is (suc x) 0 Greater (omega arith)))

mixed_step : (name other desc other_desc : List ℕ) → slice_cmp nat_cmp (mixed name desc) (mixed other other_desc)
    ≡ ordering_then (nat_cmp (front name) (front other)) (ordering_then (nat_cmp (front desc) (front other_desc)) (slice_cmp nat_cmp (mixed (drop 1 name) (drop 1 desc)) (mixed (drop 1 other) (drop 1 other_desc))))
mixed_step [] [] [] [] = refl
mixed_step [] [] [] (e ∷ es) = sym (less_first e (slice_cmp nat_cmp (mixed [] []) (mixed [] es)))
mixed_step [] [] (d ∷ ds) [] = sym (greater_first d (slice_cmp nat_cmp (mixed [] ds) (mixed [] [])))
mixed_step [] [] (d ∷ ds) (e ∷ es) = refl
mixed_step [] (m ∷ ms) [] es = sym (less_first m (ordering_then (nat_cmp 0 (front es)) (slice_cmp nat_cmp [] (mixed ms (drop 1 es)))))
mixed_step [] (m ∷ ms) (d ∷ ds) es = refl
mixed_step (n ∷ ns) [] ds [] = sym (greater_first n (ordering_then (nat_cmp (front ds) 0) (slice_cmp nat_cmp (mixed ns (drop 1 ds)) [])))
mixed_step (n ∷ ns) [] ds (e ∷ es) = refl
mixed_step (n ∷ ns) (m ∷ ms) ds es = refl

front_eq : (xs ys : List ℕ) → bytes_eq xs ys ≡ nat_eq (front xs) (front ys) && bytes_eq (drop 1 xs) (drop 1 ys)
front_eq [] [] = refl
front_eq [] (y ∷ ys) = sym (and_left (nat_eq 0 (suc y)) (bytes_eq [] ys) (eqb-zero-suc y))
front_eq (x ∷ xs) [] = sym (and_left (nat_eq (suc x) 0) (bytes_eq xs []) (eqb-suc-zero x))
front_eq (x ∷ xs) (y ∷ ys) = sym (ap (λ b. b && bytes_eq xs ys) (eqb-suc-suc x y))

ended_eq : (xs ys : List ℕ) → bytes_eq (mixed [] xs) (mixed [] ys) ≡ bytes_eq xs ys
ended_eq [] [] = refl
ended_eq [] (y ∷ ys) = refl
ended_eq (x ∷ xs) [] = refl
ended_eq (x ∷ xs) (y ∷ ys) = ap (λ b. b && bytes_eq (mixed [] xs) (mixed [] ys)) (eqb-suc-suc x y) ∙ ap (λ b. nat_eq x y && b) (ended_eq xs ys)

swap : (p q r s : Bool) → p && (q && (r && s)) ≡ (p && r) && (q && s)
swap false q r s = refl
swap true q true s = refl
swap true true false s = refl
swap true false false s = refl

-- they spell the same only where the names are the same and the descriptors are
mixed_eq : (name other desc other_desc : List ℕ) → bytes_eq (mixed name desc) (mixed other other_desc) ≡ bytes_eq name other && bytes_eq desc other_desc
mixed_eq [] [] ds es = ended_eq ds es
mixed_eq [] (m ∷ ms) [] es = refl
mixed_eq [] (m ∷ ms) (d ∷ ds) es = and_left (nat_eq 0 (suc m)) (nat_eq (suc d) (front es) && bytes_eq (mixed [] ds) (mixed ms (drop 1 es))) (eqb-zero-suc m)
mixed_eq (n ∷ ns) [] ds [] = refl
mixed_eq (n ∷ ns) [] ds (e ∷ es) = and_left (nat_eq (suc n) 0) (nat_eq (front ds) (suc e) && bytes_eq (mixed ns (drop 1 ds)) (mixed [] es)) (eqb-suc-zero n)
mixed_eq (n ∷ ns) (m ∷ ms) ds es =
    ap (λ b. b && (nat_eq (front ds) (front es) && bytes_eq (mixed ns (drop 1 ds)) (mixed ms (drop 1 es)))) (eqb-suc-suc n m)
    ∙ ap (λ b. nat_eq n m && (nat_eq (front ds) (front es) && b)) (mixed_eq ns ms (drop 1 ds) (drop 1 es))
    ∙ swap (nat_eq n m) (nat_eq (front ds) (front es)) (bytes_eq ns ms) (bytes_eq (drop 1 ds) (drop 1 es))
    ∙ ap (λ b. (nat_eq n m && bytes_eq ns ms) && b) (sym (front_eq ds es))

-- ---- two keys from a position on

abbrev pub behind : Key → ℕ → List ℕ
behind key i = mixed (drop i key.name) (drop i key.desc)

abbrev pub there_cmp : Key → Key → ℕ → Ordering
there_cmp x y i = ordering_then (nat_cmp (front (drop i x.name)) (front (drop i y.name))) (nat_cmp (front (drop i x.desc)) (front (drop i y.desc)))

next_behind : (key : Key) (i : ℕ) → mixed (drop 1 (drop i key.name)) (drop 1 (drop i key.desc)) ≡ behind key (i + 1)
next_behind key i = λ k. mixed (drop-drop 1 i key.name k) (drop-drop 1 i key.desc k)

step_behind : (x y : Key) (i : ℕ) → slice_cmp nat_cmp (behind x i) (behind y i) ≡ ordering_then (there_cmp x y i) (slice_cmp nat_cmp (behind x (i + 1)) (behind y (i + 1)))
step_behind x y i =
    mixed_step (drop i x.name) (drop i y.name) (drop i x.desc) (drop i y.desc)
    ∙ thens (nat_cmp (front (drop i x.name)) (front (drop i y.name))) (nat_cmp (front (drop i x.desc)) (front (drop i y.desc))) (slice_cmp nat_cmp (mixed (drop 1 (drop i x.name)) (drop 1 (drop i x.desc))) (mixed (drop 1 (drop i y.name)) (drop 1 (drop i y.desc))))
    ∙ (λ k. ordering_then (there_cmp x y i) (slice_cmp nat_cmp (next_behind x i k) (next_behind y i k)))

then_level : (a b : Ordering) → is_ne a ≡ false → ordering_then a b ≡ b
then_level Less b e = absurd (true≢false e)
then_level Equal b e = refl
then_level Greater b e = absurd (true≢false e)

pub level_there : (x y : Key) (i : ℕ) (o r : Ordering) → r ≡ slice_cmp nat_cmp (behind x i) (behind y i) → o ≡ there_cmp x y i → is_ne o ≡ false → r ≡ slice_cmp nat_cmp (behind x (i + 1)) (behind y (i + 1))
level_there x y i o r e is level = e ∙ step_behind x y i ∙ then_level (there_cmp x y i) (slice_cmp nat_cmp (behind x (i + 1)) (behind y (i + 1))) (sym (ap is_ne is) ∙ level)

-- ---- keys

keyed_order : (name desc : List ℕ) (k : Key) → is_eq (key_cmp k (record { name = name; desc = desc })) ≡ is_keyed name desc k
keyed_order name desc k = is_eq-slice_cmp (mixed k.name k.desc) (mixed name desc) ∙ mixed_eq k.name name k.desc desc

keyed : (name desc : List ℕ) (k : Key) → is_keyed name desc k ≡ true → k ≡ record { name = name; desc = desc }
keyed name desc k e =
    let parts = and_parts (bytes_eq k.name name) (bytes_eq k.desc desc) e in
    ap (λ l. record { name = l; desc = k.desc }) ((bytes_eq-Decides k.name name).0 parts.0)
    ∙ ap (λ l. record { name = name; desc = l }) ((bytes_eq-Decides k.desc desc).0 parts.1)

-- ---- places by key

place_below : (keys : List Key) (places : List ℕ) (k d : ℕ) → AreByKey keys places → k < length places → get_or places k d < length keys
place_below keys places k d by lt =
    let start : All (λ i. i < length keys) (range_with_len 0 (length keys)) = λ i d less. omega (arith, less, length-range_with_len 0 (length keys), get_or-range_with_len 0 (length keys) i d (omega (arith, less, length-range_with_len 0 (length keys)))) in
    All-permutation (λ i. i < length keys) (range_with_len 0 (length keys)) places by.all start k d lt

place_there : (keys : List Key) (places : List ℕ) (j : ℕ) → AreByKey keys places → j < length keys → Contains places j
place_there keys places j by lt =
    Contains-permutation (range_with_len 0 (length keys)) places j by.all (j, omega (arith, lt, length-range_with_len 0 (length keys)), omega (arith, get_or-range_with_len 0 (length keys) j j lt))

far : (keys : List Key) (places : List ℕ) (i j d : ℕ) → AreByKey keys places → i ≤ j → j < length places → is_lt (place_cmp keys (get_or places j d) (get_or places i d)) ≡ false
far keys places i j d by le lt = sorted_far (λ i j. is_lt (place_cmp keys i j)) (place_ranks keys) places by.sorted i j d le lt

key_far : (keys : List Key) (places : List ℕ) (i j d : ℕ) → AreByKey keys places → i ≤ j → j < length places → is_lt (key_cmp (key_at keys (get_or places j d)) (key_at keys (get_or places i d))) ≡ false
key_far keys places i j d by le lt =
    first_not (key_cmp (key_at keys (get_or places j d)) (key_at keys (get_or places i d))) (nat_cmp (get_or places j d) (get_or places i d)) (far keys places i j d by le lt)

pub by_key : (keys : List Key) (made places : List ℕ) (n : ℕ) → n ≡ length keys → made ≡ range_with_len 0 n → IsPermutation made places → IsSorted (place_cmp keys) places → AreByKey keys places
by_key keys made places n e is all up = record { all = subst (λ m. IsPermutation m places) (is ∙ ap (range_with_len 0) e) all; sorted = up }

-- from what a sort says, where each call compares two places
pub sorted_by : (keys : List Key) {F : Type 0} {g : Mut F (Bor ℕ × (Bor ℕ × Unit {0})) Ordering} {f : F} (places : List ℕ)
    → ((lt : ℕ → ℕ → Bool) → IsStrictWeakOrder lt → ComparesAs g lt f → IsSortedBy lt places)
    → ((a : Bor ℕ × (Bor ℕ × Unit {0})) (r : Ordering) (q : F) → Called g f a r q → (r ≡ place_cmp keys a.0.now a.1.0.now) × (q ≡ f)) → IsSorted (place_cmp keys) places
sorted_by keys {g = g} {f = f} places up h =
    up (λ i j. is_lt (place_cmp keys i j)) (place_ranks keys) (always_returns_same g (λ a r. is_lt r ≡ is_lt (place_cmp keys a.0.now a.1.0.now)) f (λ a r q k. (ap is_lt (h a r q k).0, (h a r q k).1)))

-- ---- the search

before_so : (b : Bool) (x y k : Key) → is_lt (key_cmp x k) ≡ b → is_lt (key_cmp y x) ≡ false → is_lt (key_cmp y k) ≡ true → b ≡ true
before_so true x y k e h less = refl
before_so false x y k e h less = absurd (true≢false (sym less ∙ key_ranks.chain y x k h e))

pub partitioned : (keys : List Key) (places : List ℕ) (key : Key) → AreByKey keys places → IsPartitionedBy (λ i. is_lt (key_cmp (key_at keys i) key)) places
partitioned keys places key by i j d le lt less =
    before_so (is_lt (key_cmp (key_at keys (get_or places i d)) key)) (key_at keys (get_or places i d)) (key_at keys (get_or places j d)) key refl (key_far keys places i j d by le lt) less

-- a member with the key stands behind the point
reached : (keys : List Key) (places : List ℕ) (key : Key) (at j : ℕ) → AreByKey keys places → IsPointOf keys places key at → j < length keys → is_eq (key_cmp (key_at keys j) key) ≡ true → (k : ℕ) × (at ≤ k) × (k < length places) × (get_or places k j ≡ j)
reached keys places key at j by point lt e =
    let there = place_there keys places j by lt in
    elim (cases_lt there.0 at) [
      | inl first ↦
          let less : is_lt (key_cmp (key_at keys j) key) ≡ true = subst (λ i. is_lt (key_cmp (key_at keys i) key) ≡ true) there.2 (point.0 there.0 j (omega arith) first) in
          absurd (true≢false (sym less ∙ equal_not (key_cmp (key_at keys j) key) e))
      | inr later ↦ (there.0, later, there.1, there.2)
    ]

-- and not before the one at the point, if that one has the key too
in_order : (keys : List Key) (places : List ℕ) (name desc : List ℕ) (at x j : ℕ) → AreByKey keys places → IsPointOf keys places (record { name = name; desc = desc }) at → at < length places → x ≡ get_or places at x → is_keyed name desc (key_at keys x) ≡ true → j < length keys → is_keyed name desc (key_at keys j) ≡ true → x ≤ j
in_order keys places name desc at x j by point lt is e within here =
    let r = reached keys places (record { name = name; desc = desc }) at j by point within (keyed_order name desc (key_at keys j) ∙ here) in
    let at_x : get_or places at j ≡ x = get_or_default places at j x lt ∙ sym is in
    let one : is_lt (place_cmp keys j (get_or places at j)) ≡ false = subst (λ i. is_lt (place_cmp keys i (get_or places at j)) ≡ false) r.3 (far keys places at r.0 j by r.1 r.2) in
    let two : is_lt (place_cmp keys j x) ≡ false = subst (λ i. is_lt (place_cmp keys j i) ≡ false) at_x one in
    let level : is_eq (key_cmp (key_at keys j) (key_at keys x)) ≡ true = subst (λ k. is_eq (key_cmp (key_at keys j) k) ≡ true) (sym (keyed name desc (key_at keys x) e)) (keyed_order name desc (key_at keys j) ∙ here) in
    up_to x j (nat_lt j x) refl (second_not (key_cmp (key_at keys j) (key_at keys x)) (nat_cmp j x) level two)

pub found : (keys : List Key) (places : List ℕ) (name desc : List ℕ) (at x : ℕ) → AreByKey keys places → IsPointOf keys places (record { name = name; desc = desc }) at → at < length places → x ≡ get_or places at x → is_eq (key_cmp (key_at keys x) (record { name = name; desc = desc })) ≡ true → position (is_keyed name desc) keys ≡ Some x
found keys places name desc at x by point lt is e =
    let within : x < length keys = subst (λ i. i < length keys) (sym is) (place_below keys places at x by lt) in
    let here : is_keyed name desc (key_at keys x) ≡ true = sym (keyed_order name desc (key_at keys x)) ∙ e in
    position_at (is_keyed name desc) keys x (record { name = []; desc = [] }) within here
    (λ j less. elim (cases_Bool (is_keyed name desc (key_at keys j))) [
      | inl again ↦ absurd (let le : x ≤ j = in_order keys places name desc at x j by point lt is here (omega arith) again in omega (arith, less, le))
      | inr other ↦ other
    ])

-- the one at the point has another key: then it stands behind, and so do all later ones
passed : (keys : List Key) (places : List ℕ) (key : Key) (at x j : ℕ) → AreByKey keys places → IsPointOf keys places key at → at < length places → x ≡ get_or places at x → j < length keys → is_eq (key_cmp (key_at keys j) key) ≡ true → key_at keys j ≡ key → is_eq (key_cmp (key_at keys x) key) ≡ true
passed keys places key at x j by point lt is within here same =
    let r = reached keys places key at j by point within here in
    let at_x : get_or places at j ≡ x = get_or_default places at j x lt ∙ sym is in
    let one : is_lt (key_cmp (key_at keys j) (key_at keys (get_or places at j))) ≡ false = subst (λ i. is_lt (key_cmp (key_at keys i) (key_at keys (get_or places at j))) ≡ false) r.3 (key_far keys places at r.0 j by r.1 r.2) in
    let two : is_lt (key_cmp (key_at keys j) (key_at keys x)) ≡ false = subst (λ i. is_lt (key_cmp (key_at keys j) (key_at keys i)) ≡ false) at_x one in
    let three : is_lt (key_cmp key (key_at keys x)) ≡ false = subst (λ k. is_lt (key_cmp k (key_at keys x)) ≡ false) same two in
    let four : is_lt (key_cmp (key_at keys x) key) ≡ false = subst (λ i. is_lt (key_cmp (key_at keys i) key) ≡ false) at_x (point.1 at j (omega arith) lt) in
    neither (key_cmp (key_at keys x) key) (key_cmp key (key_at keys x)) (key_order.antisymm (key_at keys x) key) four three

pub absent : (keys : List Key) (places : List ℕ) (name desc : List ℕ) (at x : ℕ) → AreByKey keys places → IsPointOf keys places (record { name = name; desc = desc }) at → at < length places → x ≡ get_or places at x → is_eq (key_cmp (key_at keys x) (record { name = name; desc = desc })) ≡ false → position (is_keyed name desc) keys ≡ None
absent keys places name desc at x by point lt is e =
    position_nowhere (is_keyed name desc) keys (record { name = []; desc = [] })
    (λ j within. elim (cases_Bool (is_keyed name desc (key_at keys j))) [
      | inl here ↦ absurd (true≢false (sym (passed keys places (record { name = name; desc = desc }) at x j by point lt is within (keyed_order name desc (key_at keys j) ∙ here) (keyed name desc (key_at keys j) here)) ∙ e))
      | inr other ↦ other
    ])

pub past : (keys : List Key) (places : List ℕ) (name desc : List ℕ) (at : ℕ) → AreByKey keys places → IsPointOf keys places (record { name = name; desc = desc }) at → length places ≤ at → position (is_keyed name desc) keys ≡ None
past keys places name desc at by point le =
    position_nowhere (is_keyed name desc) keys (record { name = []; desc = [] })
    (λ j within. elim (cases_Bool (is_keyed name desc (key_at keys j))) [
      | inl here ↦ absurd (let r = reached keys places (record { name = name; desc = desc }) at j by point within (keyed_order name desc (key_at keys j) ∙ here) in omega (arith, le, r.1, r.2))
      | inr other ↦ other
    ])

-- ---- the members of each class

pub members_none : (w : World) (members : List Members) → members ≡ [] → HaveMembers w 0 members
members_none w members e = record { count = ap (λ l. length l) e; each = λ c d lt. absurd (omega (arith, lt)) }

at_push : (w : World) (n c : ℕ) (old : List Members) (x d : Members) → HaveMembers w n old → AreMembers (class_at w n) x → c < n + 1 → AreMembers (class_at w c) (get_or (old ++ x ∷ []) c d)
at_push w n c old x d h here lt = elim (cases_lt c n) [
  | inl less ↦ subst (λ (m : Members). AreMembers (class_at w c) m) (sym (get_or_append_left old (x ∷ []) d c (omega (arith, less, h.count)))) (h.each c d less)
  | inr more ↦
      let same : n ≡ c = omega (arith, lt, more) in
      subst (λ (m : Members). AreMembers (class_at w c) m) (sym (get_or_push old x d c (h.count ∙ same))) (subst (λ k. AreMembers (class_at w k) x) same here)
]

pub members_next : (w : World) (n : ℕ) (old new : List Members) (x : Members) → HaveMembers w n old → AreMembers (class_at w n) x → new ≡ old ++ x ∷ [] → HaveMembers w (n + 1) new
members_next w n old new x h here e = record {
  count = ap (λ l. length l) e ∙ length_push old x ∙ ap (λ k. k + 1) h.count;
  each = λ c d lt. subst (λ l. AreMembers (class_at w c) (get_or l c d)) (sym e) (at_push w n c old x d h here lt);
}

pub members_there : (w : World) (n : ℕ) (members : List Members) (c : ℕ) (x : Members) → HaveMembers w n members → c < length members → x ≡ get_or members c x → AreMembers (class_at w c) x
members_there w n members c x h lt is = subst (λ (m : Members). AreMembers (class_at w c) m) (sym is) (h.each c x (omega (arith, lt, h.count)))

-- a number past the end means the class that is built in
pub members_past : (w : World) (members : List Members) (c : ℕ) (x : Members) → class_at w 0 ≡ object_class → 1 ≤ length w → HaveMembers w (length w) members → length members ≤ c → x ≡ get_or members 0 x → AreMembers (class_at w c) x
members_past w members c x e some h past is =
    let far : class_at w c ≡ object_class = get_or_past w c object_class (omega (arith, past, h.count)) in
    subst (λ k. AreMembers k x) (e ∙ sym far) (subst (λ (m : Members). AreMembers (class_at w 0) m) (sym is) (h.each 0 x (omega (arith, some))))
