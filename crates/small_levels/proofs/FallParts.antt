-- The parts of the difference of a function's values before and after a step.
use Rattle.std.specs.Prelude.{◌≡◌, ◌⊎◌, ℕ, zero, suc, ◌+◌, ◌<◌, ◌≤◌, ◌^◌, ℤ, pos, negsuc, neg_ℤ, ◌+ℤ◌, ◌-ℤ◌, ◌*ℤ◌, List, [], ◌∷◌, length, map, All, Option, Some, None, FitsSigned}
use Rattle.std.specs.Int.{w128}
use Rattle.std.proofs.Common.{arith, refl, sym, ap, ◌∙◌, subst, get_or, take, inl, inr, ⊎_elim, min, max, ◌++◌}
use Rattle.std.proofs.lemmas.Bool.{cases_lt}
use Rattle.std.proofs.lemmas.List.{get_or_past, get_or_append_left, get_or_push, take_more}
use Rattle.std.proofs.lemmas.List.Elements.{All-push}
use Rattle.std.proofs.lemmas.Int.{ints}
use Rattle.lin_rows.specs.Linear.{Linear, coefficient_of, nothing}
use Rattle.lin_rows.specs.Transitions.{places_sum, lin_plus, lin_times, lin_constant, lin_sum, after, drop_of}
use Rattle.small_levels.specs.Numbers.{IsModest, IsBetween}
use Rattle.small_levels.specs.Falls.{IsUnit, part_of, first_of, sum_part, IsFallList}

place_of_sum : (xs ys : List ℤ) (i : ℕ) → get_or (places_sum xs ys) i (pos 0) ≡ get_or xs i (pos 0) +ℤ get_or ys i (pos 0)
place_of_sum [] ys i = nothing_plus (get_or ys i (pos 0))
  where
    nothing_plus : (x : ℤ) → x ≡ pos 0 +ℤ x
    nothing_plus x = omega (arith, ints)
place_of_sum (x ∷ xs) [] i = plus_nothing (get_or (x ∷ xs) i (pos 0))
  where
    plus_nothing : (x : ℤ) → x ≡ x +ℤ pos 0
    plus_nothing x = omega (arith, ints)
place_of_sum (x ∷ xs) (y ∷ ys) zero = refl
place_of_sum (x ∷ xs) (y ∷ ys) (suc i) = place_of_sum xs ys i

times_nothing : (k : ℤ) → pos 0 ≡ k *ℤ pos 0
times_nothing k = omega (arith, ints)

pub place_of_multiple : (k : ℤ) (xs : List ℤ) (i : ℕ) → get_or (map (λ c. k *ℤ c) xs) i (pos 0) ≡ k *ℤ get_or xs i (pos 0)
place_of_multiple k [] i = times_nothing k
place_of_multiple k (x ∷ xs) zero = refl
place_of_multiple k (x ∷ xs) (suc i) = place_of_multiple k xs i

part_plus : (a b : Linear) (at : Option ℕ) → part_of (lin_plus a b) at ≡ part_of a at +ℤ part_of b at
part_plus a b None = refl
part_plus a b (Some v) = place_of_sum a.coefficients b.coefficients v

part_times : (k : ℤ) (l : Linear) (at : Option ℕ) → part_of (lin_times k l) at ≡ k *ℤ part_of l at
part_times k l None = refl
part_times k l (Some v) = place_of_multiple k l.coefficients v

part_nothing : (at : Option ℕ) → part_of nothing at ≡ pos 0
part_nothing None = refl
part_nothing (Some v) = refl

sum_is : (cs : List ℤ) (es : List Linear) (at : Option ℕ) → part_of (lin_sum cs es) at ≡ sum_part cs es at
sum_is [] es at = part_nothing at
sum_is (c ∷ cs) [] at = part_nothing at
sum_is (c ∷ cs) (e ∷ es) at =
    part_plus (lin_times c e) (lin_sum cs es) at ∙ ap (λ x. x +ℤ part_of (lin_sum cs es) at) (part_times c e at) ∙ ap (λ x. c *ℤ part_of e at +ℤ x) (sum_is cs es at)

-- the difference at a variable, or its constant
pub fall_is : (f : Linear) (next : List Linear) (at : Option ℕ) → part_of (drop_of f next (pos 0)) at ≡ first_of f at -ℤ sum_part f.coefficients next at
fall_is f next None =
    ap (λ x. f.constant +ℤ (negsuc 0 *ℤ (x +ℤ f.constant) +ℤ neg_ℤ (pos 0))) (sum_is f.coefficients next None) ∙ constants f.constant (sum_part f.coefficients next None)
  where
    constants : (c s : ℤ) → c +ℤ (negsuc 0 *ℤ (s +ℤ c) +ℤ neg_ℤ (pos 0)) ≡ pos 0 -ℤ s
    constants c s = omega (arith, ints)
fall_is f next (Some v) =
    let moved = after f next in
    let tail = lin_plus (lin_times (negsuc 0) moved) (lin_constant (neg_ℤ (pos 0))) in
    part_plus f tail (Some v) ∙ ap (λ x. coefficient_of f v +ℤ x) (part_plus (lin_times (negsuc 0) moved) (lin_constant (neg_ℤ (pos 0))) (Some v) ∙ ap (λ x. x +ℤ pos 0) (part_times (negsuc 0) moved (Some v)
    ∙ ap (λ x. negsuc 0 *ℤ x) (part_plus (lin_sum f.coefficients next) (lin_constant f.constant) (Some v) ∙ ap (λ x. x +ℤ pos 0) (sum_is f.coefficients next (Some v)))))
    ∙ places (coefficient_of f v) (sum_part f.coefficients next (Some v))
  where
    places : (c s : ℤ) → c +ℤ (negsuc 0 *ℤ (s +ℤ pos 0) +ℤ pos 0) ≡ c -ℤ s
    places c s = omega (arith, ints)

-- ---- one expression after another
sum_more : (cs : List ℤ) (es : List Linear) (at : Option ℕ) (j : ℕ) (d : Linear) → j < length cs → j < length es → sum_part (take (suc j) cs) es at ≡ sum_part (take j cs) es at +ℤ get_or cs j (pos 0) *ℤ part_of (get_or es j d) at
sum_more [] es at j d lt k = absurd (omega (arith, lt))
sum_more (c ∷ cs) [] at j d lt k = absurd (omega (arith, k))
sum_more (c ∷ cs) (e ∷ es) at zero d lt k = one (c *ℤ part_of e at)
  where
    one : (x : ℤ) → x +ℤ pos 0 ≡ pos 0 +ℤ x
    one x = omega (arith, ints)
sum_more (c ∷ cs) (e ∷ es) at (suc j) d lt k =
    ap (λ x. c *ℤ part_of e at +ℤ x) (sum_more cs es at j d (omega (arith, lt)) (omega (arith, k)))
    ∙ assoc (c *ℤ part_of e at) (sum_part (take j cs) es at) (get_or cs j (pos 0) *ℤ part_of (get_or es j d) at)
  where
    assoc : (a b c : ℤ) → a +ℤ (b +ℤ c) ≡ (a +ℤ b) +ℤ c
    assoc a b c = omega (arith, ints)

pub sum_all : (cs : List ℤ) (es : List Linear) (at : Option ℕ) (j : ℕ) → (length cs ≤ j) ⊎ (length es ≤ j) → sum_part (take j cs) es at ≡ sum_part cs es at
sum_all [] es at zero h = refl
sum_all [] es at (suc j) h = refl
sum_all (c ∷ cs) [] at zero h = refl
sum_all (c ∷ cs) [] at (suc j) h = refl
sum_all (c ∷ cs) (e ∷ es) at zero (inl h) = absurd (omega (arith, h))
sum_all (c ∷ cs) (e ∷ es) at zero (inr h) = absurd (omega (arith, h))
sum_all (c ∷ cs) (e ∷ es) at (suc j) (inl h) = ap (λ x. c *ℤ part_of e at +ℤ x) (sum_all cs es at j (inl (omega (arith, h))))
sum_all (c ∷ cs) (e ∷ es) at (suc j) (inr h) = ap (λ x. c *ℤ part_of e at +ℤ x) (sum_all cs es at j (inr (omega (arith, h))))

pub fall_more : (f : Linear) (next : List Linear) (at : Option ℕ) (j : ℕ) (e : Linear) (before now unit number : ℤ) → j < length f.coefficients → j < length next → get_or next j e ≡ e → unit ≡ coefficient_of f j → number ≡ part_of e at
    → before ≡ first_of f at -ℤ sum_part (take j f.coefficients) next at → now ≡ before -ℤ (unit *ℤ number) → now ≡ first_of f at -ℤ sum_part (take (j + 1) f.coefficients) next at
fall_more f next at j e before now unit number lt k there is_unit is_number is_before is_now =
    let product : unit *ℤ number ≡ coefficient_of f j *ℤ part_of (get_or next j e) at = ap (λ x. x *ℤ number) is_unit ∙ ap (λ x. coefficient_of f j *ℤ x) (is_number ∙ ap (λ (l : Linear). part_of l at) (sym there)) in
    is_now ∙ ap (λ x. before -ℤ x) product ∙ ap (λ x. x -ℤ (coefficient_of f j *ℤ part_of (get_or next j e) at)) is_before
    ∙ regroup (first_of f at) (sum_part (take j f.coefficients) next at) (coefficient_of f j *ℤ part_of (get_or next j e) at)
    ∙ ap (λ x. first_of f at -ℤ x) (sym (sum_more f.coefficients next at j e lt k) ∙ ap (λ (n : ℕ). sum_part (take n f.coefficients) next at) (one_more j))
  where
    one_more : (j : ℕ) → suc j ≡ j + 1
    one_more j = omega arith

    regroup : (a b c : ℤ) → (a -ℤ b) -ℤ c ≡ a -ℤ (b +ℤ c)
    regroup a b c = omega (arith, ints)

-- ---- bounds
pub between_modest : (j : ℕ) (z : ℤ) → IsBetween j z → j ≤ 2 ^ 32 → IsModest z
between_modest j z h le = record { low = omega (arith, ints, h.low, le); high = omega (arith, ints, h.high, le) }

pub between_four : (j : ℕ) (z : ℤ) → IsBetween j z → j ≤ 2 ^ 32 → IsModest (pos 4 *ℤ z)
between_four j z h le = record { low = omega (arith, ints, h.low, le); high = omega (arith, ints, h.high, le) }

pub between_more : (j : ℕ) (before now unit number : ℤ) → IsUnit unit → FitsSigned w128 number → IsBetween j before → now ≡ before -ℤ (unit *ℤ number) → IsBetween (j + 1) now
between_more j before now unit number (inl e) fits h is =
    let now_is : now ≡ before -ℤ (pos 0 *ℤ number) = is ∙ ap (λ x. before -ℤ (x *ℤ number)) e in
    record { low = omega (arith, ints, h.low, fits.sfits, now_is); high = omega (arith, ints, h.high, fits.sfits, now_is) }
between_more j before now unit number (inr (inl e)) fits h is =
    let now_is : now ≡ before -ℤ (pos 1 *ℤ number) = is ∙ ap (λ x. before -ℤ (x *ℤ number)) e in
    record { low = omega (arith, ints, h.low, fits.sfits, now_is); high = omega (arith, ints, h.high, fits.sfits, now_is) }
between_more j before now unit number (inr (inr e)) fits h is =
    let now_is : now ≡ before -ℤ (negsuc 0 *ℤ number) = is ∙ ap (λ x. before -ℤ (x *ℤ number)) e in
    record { low = omega (arith, ints, h.low, fits.sfits, now_is); high = omega (arith, ints, h.high, fits.sfits, now_is) }

-- a place past the shorter list
pub past_either : (a b m j : ℕ) → m ≡ min a b → m ≤ j → (a ≤ j) ⊎ (b ≤ j)
past_either a b m j is past = ⊎_elim (λ (h : a < b). inl (omega (arith, h, is, past))) (λ (h : b ≤ a). inr (omega (arith, h, is, past))) (cases_lt a b)

-- ---- past the end of all lists
part_past : (l : Linear) (v n : ℕ) → length l.coefficients ≤ n → n ≤ v → part_of l (Some v) ≡ pos 0
part_past l v n short le = get_or_past l.coefficients v (pos 0) (omega (arith, short, le))

sum_past : (cs : List ℤ) (es : List Linear) (v n : ℕ) → All (λ (l : Linear). length l.coefficients ≤ n) es → n ≤ v → sum_part cs es (Some v) ≡ pos 0
sum_past [] es v n short le = refl
sum_past (c ∷ cs) [] v n short le = refl
sum_past (c ∷ cs) (e ∷ es) v n short le =
    ap (λ x. c *ℤ x +ℤ sum_part cs es (Some v)) (part_past e v n (short 0 e (omega arith)) le) ∙ ap (λ x. c *ℤ pos 0 +ℤ x) (sum_past cs es v n (λ i d lt. short (suc i) d (omega (arith, lt))) le) ∙ none c
  where
    none : (c : ℤ) → c *ℤ pos 0 +ℤ pos 0 ≡ pos 0
    none c = omega (arith, ints)

pub fall_past : (f : Linear) (next : List Linear) (v n : ℕ) → length f.coefficients ≤ n → All (λ (l : Linear). length l.coefficients ≤ n) next → n ≤ v → pos 0 ≡ coefficient_of (drop_of f next (pos 0)) v
fall_past f next v n short shorts le = sym (fall_is f next (Some v) ∙ ap (λ x. x -ℤ sum_part f.coefficients next (Some v)) (part_past f v n short le) ∙ ap (λ x. pos 0 -ℤ x) (sum_past f.coefficients next v n shorts le))

-- ---- the longest of some
pub longer_more : (ls : List Linear) (i m n : ℕ) (l : Linear) → i < length ls → l ≡ get_or ls i l → n ≡ max (length l.coefficients) m → All (λ (l : Linear). length l.coefficients ≤ m) (take i ls) → All (λ (l : Linear). length l.coefficients ≤ n) (take (i + 1) ls)
longer_more ls i m n l lt here is all =
    subst (λ (xs : List Linear). All (λ (l : Linear). length l.coefficients ≤ n) xs) (ap (λ (x : Linear). take i ls ++ x ∷ []) here ∙ sym (take_more ls i l lt))
    (All-push (λ (l : Linear). length l.coefficients ≤ n) (take i ls) l (λ k d less. le_trans (all k d less) (omega (arith, is))) (omega (arith, is)))
  where
    le_trans : {a b c : ℕ} → a ≤ b → b ≤ c → a ≤ c
    le_trans h k = omega (arith, h, k)

-- ---- one coefficient after another
pub coefficients_more : (f : Linear) (next : List Linear) (cs more : List ℤ) (i : ℕ) (c fall : ℤ) → length cs ≡ i → ((v : ℕ) → v < i → get_or cs v (pos 0) ≡ coefficient_of (drop_of f next (pos 0)) v)
    → c ≡ fall → fall ≡ part_of (drop_of f next (pos 0)) (Some i) → more ≡ cs ++ c ∷ [] → (v : ℕ) → v < i + 1 → get_or more v (pos 0) ≡ coefficient_of (drop_of f next (pos 0)) v
coefficients_more f next cs more i c fall count before is made pushed v lt =
    ap (λ (xs : List ℤ). get_or xs v (pos 0)) pushed
    ∙ ⊎_elim (λ (less : v < i). get_or_append_left cs (c ∷ []) (pos 0) v (omega (arith, less, count)) ∙ before v less)
    (λ (not_less : i ≤ v). let last : v ≡ i = omega (arith, lt, not_less) in get_or_push cs c (pos 0) v (count ∙ sym last) ∙ is ∙ made ∙ ap (λ (n : ℕ). coefficient_of (drop_of f next (pos 0)) n) (sym last)) (cases_lt v i)

pub coefficients_all : (f : Linear) (next : List Linear) (cs : List ℤ) (n i : ℕ) → length f.coefficients ≤ n → All (λ (l : Linear). length l.coefficients ≤ n) next → n < 2 ^ 32 → n ≤ i → i ≤ n → length cs ≡ i
    → ((v : ℕ) → v < i → get_or cs v (pos 0) ≡ coefficient_of (drop_of f next (pos 0)) v) → IsFallList f next cs
coefficients_all f next cs n i short shorts narrow past le count before = record {
  short = omega (arith, narrow, le, count);
  each = λ v. ⊎_elim (λ (less : v < i). before v less) (λ (not_less : i ≤ v). get_or_past cs v (pos 0) (omega (arith, not_less, count)) ∙ fall_past f next v n short shorts (omega (arith, not_less, past))) (cases_lt v i);
}
