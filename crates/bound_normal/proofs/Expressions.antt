-- Texts tell expressions with their divisors apart.
use Rattle.std.proofs.Common.{ℕ, suc, ◌≡◌, ◌+◌, ◌<◌, ◌≤◌, ◌^◌, ◌==◌, Bool, true, false, List, [], ◌∷◌, ◌++◌, length, decimal, codes, refl, sym, ◌∙◌, ap, subst, arith}
use Rattle.std.specs.Prelude.{All, ℤ, pos, negsuc, unsigned_abs, FitsSigned, if◌then◌else◌}
use Rattle.std.specs.List.{flat_map}
use Rattle.std.specs.Int.{w128}
use Rattle.std.proofs.lemmas.Bool.{eqb-true, eqb-false}
use Rattle.std.proofs.lemmas.Int.{ints}
use Rattle.std.proofs.lemmas.List.{append_assoc}
use Rattle.std.proofs.lemmas.List.Elements.{All-nil, All-cons, All-head, All-tail, All-weaker}
use Rattle.lin_rows.specs.Linear.{Linear}
use Rattle.bound_terms.specs.Terms.{Floored}
use Rattle.bound_terms.specs.Texts.{is_below_zero, times_text, parts_from, later_part, signed_sum, linear_text, floored_text}
use Rattle.bound_forms.specs.Normal.{IsLowest}
use Rattle.bound_normal.proofs.Divisors.{EndsUsed, trimmed_used}
use Rattle.bound_normal.proofs.Digits.{heads, tails, all_digits, same_number, NoDigit, number_reads, Without, until, digits_without, without-append}
use Rattle.bound_normal.proofs.Linears.{front_by, times_split, times_reads, number_part, times_part, AreParts, IsPartText, signed_reads}

-- ---- whole numbers
number_is : (z w : ℤ) → is_below_zero z ≡ is_below_zero w → unsigned_abs z ≡ unsigned_abs w → z ≡ w
number_is (pos m) (pos n) s e = ap pos e
number_is (pos m) (negsuc n) s e = absurd (cc)
number_is (negsuc m) (pos n) s e = absurd (cc)
number_is (negsuc m) (negsuc n) s e = let f : m ≡ n = omega (arith, e) in ap negsuc f

pub zero_is : (z : ℤ) → unsigned_abs z ≡ 0 → z ≡ pos 0
zero_is (pos m) e = ap pos e
zero_is (negsuc m) e = absurd (omega (arith, e))

abs_small : (z : ℤ) → FitsSigned w128 z → unsigned_abs z < 2 ^ 128
abs_small (pos n) fit = omega (arith, ints, fit)
abs_small (negsuc n) fit = omega (arith, ints, fit)

abbrev pub IsSmall : ℤ → Type 0
IsSmall c = unsigned_abs c < 2 ^ 128

abbrev Part : Type 0
Part = Bool × List ℕ

first_is : {x y : Part} {xs ys : List Part} → x ∷ xs ≡ y ∷ ys → x ≡ y
first_is e = cc

rest_is : {x y : Part} {xs ys : List Part} → x ∷ xs ≡ y ∷ ys → xs ≡ ys
rest_is e = cc

-- ---- the constant
abbrev constant_by : Bool → ℤ → List Part
constant_by b k = if b then [] else (is_below_zero k, decimal (unsigned_abs k)) ∷ []

constant_reads : (b c : Bool) (k l : ℤ) → (unsigned_abs k == 0) ≡ b → (unsigned_abs l == 0) ≡ c → IsSmall k → IsSmall l → constant_by b k ≡ constant_by c l → k ≡ l
constant_reads true true k l x y h g e = zero_is k (eqb-true (unsigned_abs k) 0 x) ∙ sym (zero_is l (eqb-true (unsigned_abs l) 0 y))
constant_reads true false k l x y h g e = absurd (cc)
constant_reads false true k l x y h g e = absurd (cc)
constant_reads false false k l x y h g e = number_is k l (ap (λ p. p.0) (first_is e)) (same_number (unsigned_abs k) (unsigned_abs l) h g (ap (λ p. p.1) (first_is e)))

-- ---- the first part of what ends with a coefficient that isn't 0
record IsFirst (v : ℕ) (cs : List ℤ) (ps : List Part) : Type 0 where
  sign : Bool
  size : ℕ
  place : ℕ
  rest : List Part
  splits : ps ≡ (sign, times_text size place) ∷ rest
  small : size < 2 ^ 128
  from : v ≤ place
  below : place < v + length cs

first_by : (b : Bool) (v : ℕ) (d : ℤ) (ds : List ℤ) (ps : List Part) → (unsigned_abs d == 0) ≡ b → IsSmall d → (unsigned_abs d ≡ 0 → IsFirst (suc v) ds ps) → IsFirst v (d ∷ ds) (if b then ps else (is_below_zero d, times_text (unsigned_abs d) v) ∷ ps)
first_by true v d ds ps x h later =
    let f = later (eqb-true (unsigned_abs d) 0 x) in
    record { sign = f.sign; size = f.size; place = f.place; rest = f.rest; splits = f.splits; small = f.small; from = omega (arith, f.from); below = omega (arith, f.below) }
first_by false v d ds ps x h later = record { sign = is_below_zero d; size = unsigned_abs d; place = v; rest = ps; splits = refl; small = h; from = omega arith; below = omega arith }

first_used : (v : ℕ) (d : ℤ) (ds : List ℤ) (k : ℤ) → EndsUsed (d ∷ ds) → All IsSmall (d ∷ ds) → IsFirst v (d ∷ ds) (parts_from v (d ∷ ds) k)
first_used v d [] k u h = first_by (unsigned_abs d == 0) v d [] (parts_from (suc v) [] k) refl (All-head IsSmall d [] h) (λ e. absurd (u e))
first_used v d (e ∷ es) k u h = first_by (unsigned_abs d == 0) v d (e ∷ es) (parts_from (suc v) (e ∷ es) k) refl (All-head IsSmall d (e ∷ es) h) (λ z. first_used (suc v) e es k u (All-tail IsSmall d (e ∷ es) h))

behind_zero : (v : ℕ) (c : ℤ) (cs : List ℤ) (k : ℤ) → unsigned_abs c ≡ 0 → EndsUsed (c ∷ cs) → All IsSmall cs → IsFirst (suc v) cs (parts_from (suc v) cs k)
behind_zero v c [] k z u h = absurd (u z)
behind_zero v c (d ∷ ds) k z u h = first_used (suc v) d ds k u h

-- a number isn't a part with a size
has_size : (u v : List ℕ) → Without 97 (u ++ 97 ∷ v) → ⊥
has_size [] v w = w.0 refl
has_size (x ∷ u) v w = has_size u v w.1

no_number : (k j w : ℕ) → k < 2 ^ 128 → decimal k ≡ times_text j w → ⊥
no_number k j w h e =
    has_size (front_by (j == 1) j) (decimal w) (subst (Without 97) (e ∙ times_split j w) (digits_without 97 (decimal k) (λ d. absurd (omega (arith, d))) (all_digits k h)))

no_sizes : (b : Bool) (k : ℤ) (v : ℕ) (ds : List ℤ) (ps : List Part) → IsSmall k → IsFirst v ds ps → constant_by b k ≡ ps → ⊥
no_sizes true k v ds ps h f e = let g = e ∙ f.splits in absurd (cc)
no_sizes false k v ds ps h f e = no_number (unsigned_abs k) f.size f.place h (ap (λ p. p.1) (first_is (e ∙ f.splits)))

tail_used : (c : ℤ) (cs : List ℤ) → EndsUsed (c ∷ cs) → EndsUsed cs
tail_used c [] u = tt
tail_used c (d ∷ ds) u = u

-- a part of size v isn't behind it
not_behind : (v j : ℕ) (sign : Bool) (ds : List ℤ) (ps qs : List Part) → j < 2 ^ 128 → v + suc (length ds) < 2 ^ 128 → IsFirst (suc v) ds ps → ps ≡ (sign, times_text j v) ∷ qs → ⊥
not_behind v j sign ds ps qs h within f e =
    let w = times_reads f.size f.place j v f.small (omega (arith, f.below, within)) h (omega (arith, within)) (ap (λ p. p.1) (first_is (sym f.splits ∙ e))) in
    absurd (omega (arith, w.1, f.from))

one_more : (c d : ℤ) (cs ds : List ℤ) (k l : ℤ) → c ≡ d → (cs ≡ ds) × (k ≡ l) → (c ∷ cs ≡ d ∷ ds) × (k ≡ l)
one_more c d cs ds k l e w = (ap (λ x. x ∷ cs) e ∙ ap (λ xs. d ∷ xs) w.0, w.1)

step : (b e : Bool) (v : ℕ) (c d : ℤ) (cs ds : List ℤ) (k l : ℤ) → (unsigned_abs c == 0) ≡ b → (unsigned_abs d == 0) ≡ e → EndsUsed (c ∷ cs) → EndsUsed (d ∷ ds) → IsSmall c → IsSmall d → All IsSmall cs → All IsSmall ds
    → v + suc (length cs) < 2 ^ 128 → v + suc (length ds) < 2 ^ 128 → (parts_from (suc v) cs k ≡ parts_from (suc v) ds l → (cs ≡ ds) × (k ≡ l))
    → (if b then parts_from (suc v) cs k else (is_below_zero c, times_text (unsigned_abs c) v) ∷ parts_from (suc v) cs k) ≡ (if e then parts_from (suc v) ds l else (is_below_zero d, times_text (unsigned_abs d) v) ∷ parts_from (suc v) ds l)
    → (c ∷ cs ≡ d ∷ ds) × (k ≡ l)
step true true v c d cs ds k l x y u w hc hd hs gs n m later same =
    one_more c d cs ds k l (zero_is c (eqb-true (unsigned_abs c) 0 x) ∙ sym (zero_is d (eqb-true (unsigned_abs d) 0 y))) (later same)
step true false v c d cs ds k l x y u w hc hd hs gs n m later same =
    absurd (not_behind v (unsigned_abs d) (is_below_zero d) cs (parts_from (suc v) cs k) (parts_from (suc v) ds l) hd n (behind_zero v c cs k (eqb-true (unsigned_abs c) 0 x) u hs) same)
step false true v c d cs ds k l x y u w hc hd hs gs n m later same =
    absurd (not_behind v (unsigned_abs c) (is_below_zero c) ds (parts_from (suc v) ds l) (parts_from (suc v) cs k) hc m (behind_zero v d ds l (eqb-true (unsigned_abs d) 0 y) w gs) (sym same))
step false false v c d cs ds k l x y u w hc hd hs gs n m later same =
    let t = times_reads (unsigned_abs c) v (unsigned_abs d) v hc (omega (arith, n)) hd (omega (arith, n)) (ap (λ p. p.1) (first_is same)) in
    one_more c d cs ds k l (number_is c d (ap (λ p. p.0) (first_is same)) t.0) (later (rest_is same))

parts_read : (v : ℕ) (cs ds : List ℤ) (k l : ℤ) → EndsUsed cs → EndsUsed ds → All IsSmall cs → All IsSmall ds → IsSmall k → IsSmall l → v + length cs < 2 ^ 128 → v + length ds < 2 ^ 128
    → parts_from v cs k ≡ parts_from v ds l → (cs ≡ ds) × (k ≡ l)
parts_read v [] [] k l u w hs gs hk hl n m e = (refl, constant_reads (unsigned_abs k == 0) (unsigned_abs l == 0) k l refl refl hk hl e)
parts_read v [] (d ∷ ds) k l u w hs gs hk hl n m e = absurd (no_sizes (unsigned_abs k == 0) k v (d ∷ ds) (parts_from v (d ∷ ds) l) hk (first_used v d ds l w gs) e)
parts_read v (c ∷ cs) [] k l u w hs gs hk hl n m e = absurd (no_sizes (unsigned_abs l == 0) l v (c ∷ cs) (parts_from v (c ∷ cs) k) hl (first_used v c cs k u hs) (sym e))
parts_read v (c ∷ cs) (d ∷ ds) k l u w hs gs hk hl n m e =
    step (unsigned_abs c == 0) (unsigned_abs d == 0) v c d cs ds k l refl refl u w (All-head IsSmall c cs hs) (All-head IsSmall d ds gs) (All-tail IsSmall c cs hs) (All-tail IsSmall d ds gs) n m
    (parts_read (suc v) cs ds k l (tail_used c cs u) (tail_used d ds w) (All-tail IsSmall c cs hs) (All-tail IsSmall d ds gs) hk hl (omega (arith, n)) (omega (arith, m))) e

-- ---- what the parts are
abbrev IsWritten : Part → Type 0
IsWritten p = IsPartText p.1 × Without 41 p.1

times_without : (b : Bool) (k v : ℕ) → k < 2 ^ 128 → v < 2 ^ 128 → Without 41 (front_by b k ++ 97 ∷ decimal v)
times_without true k v h g = (λ e. absurd (omega (arith, e)), digits_without 41 (decimal v) (λ d. absurd (omega (arith, d))) (all_digits v g))
times_without false k v h g =
    without-append 41 (decimal k ++ codes "*") (97 ∷ decimal v)
    (without-append 41 (decimal k) (codes "*") (digits_without 41 (decimal k) (λ d. absurd (omega (arith, d))) (all_digits k h)) (λ e. absurd (omega (arith, e)), tt))
    (λ e. absurd (omega (arith, e)), digits_without 41 (decimal v) (λ d. absurd (omega (arith, d))) (all_digits v g))

written_times : (s : Bool) (k v : ℕ) → k < 2 ^ 128 → v < 2 ^ 128 → IsWritten (s, times_text k v)
written_times s k v h g = (times_part k v h g, subst (Without 41) (sym (times_split k v)) (times_without (k == 1) k v h g))

constant_written : (b : Bool) (k : ℤ) → (unsigned_abs k == 0) ≡ b → IsSmall k → All IsWritten (constant_by b k)
constant_written true k x h = All-nil IsWritten
constant_written false k x h =
    All-cons IsWritten (is_below_zero k, decimal (unsigned_abs k)) [] (number_part (unsigned_abs k) h (eqb-false (unsigned_abs k) 0 x), digits_without 41 (decimal (unsigned_abs k)) (λ d. absurd (omega (arith, d))) (all_digits (unsigned_abs k) h)) (All-nil IsWritten)

written_by : (b : Bool) (v : ℕ) (c : ℤ) (ps : List Part) → IsSmall c → v < 2 ^ 128 → All IsWritten ps → All IsWritten (if b then ps else (is_below_zero c, times_text (unsigned_abs c) v) ∷ ps)
written_by true v c ps h g w = w
written_by false v c ps h g w = All-cons IsWritten (is_below_zero c, times_text (unsigned_abs c) v) ps (written_times (is_below_zero c) (unsigned_abs c) v h g) w

parts_written : (v : ℕ) (cs : List ℤ) (k : ℤ) → All IsSmall cs → IsSmall k → v + length cs < 2 ^ 128 → All IsWritten (parts_from v cs k)
parts_written v [] k hs hk n = constant_written (unsigned_abs k == 0) k refl hk
parts_written v (c ∷ cs) k hs hk n =
    written_by (unsigned_abs c == 0) v c (parts_from (suc v) cs k) (All-head IsSmall c cs hs) (omega (arith, n)) (parts_written (suc v) cs k (All-tail IsSmall c cs hs) hk (omega (arith, n)))

later_without : (ps : List Part) → All IsWritten ps → Without 41 (flat_map later_part ps)
later_without [] h = tt
later_without ((true, t) ∷ ps) h =
    (λ e. absurd (omega (arith, e)), (λ e. absurd (omega (arith, e)), (λ e. absurd (omega (arith, e)), without-append 41 t (flat_map later_part ps) (All-head IsWritten (true, t) ps h).1 (later_without ps (All-tail IsWritten (true, t) ps h)))))
later_without ((false, t) ∷ ps) h =
    (λ e. absurd (omega (arith, e)), (λ e. absurd (omega (arith, e)), (λ e. absurd (omega (arith, e)), without-append 41 t (flat_map later_part ps) (All-head IsWritten (false, t) ps h).1 (later_without ps (All-tail IsWritten (false, t) ps h)))))

sum_without : (ps : List Part) → All IsWritten ps → Without 41 (signed_sum ps)
sum_without [] h = (λ e. absurd (omega (arith, e)), tt)
sum_without ((true, t) ∷ ps) h = (λ e. absurd (omega (arith, e)), without-append 41 t (flat_map later_part ps) (All-head IsWritten (true, t) ps h).1 (later_without ps (All-tail IsWritten (true, t) ps h)))
sum_without ((false, t) ∷ ps) h = without-append 41 t (flat_map later_part ps) (All-head IsWritten (false, t) ps h).1 (later_without ps (All-tail IsWritten (false, t) ps h))

-- ---- expressions
pub record IsWell (n : Floored) : Type 0 where
  pub used : EndsUsed n.expression.coefficients
  pub coefficients : All IsSmall n.expression.coefficients
  pub constant : IsSmall n.expression.constant
  pub variables : 0 + length n.expression.coefficients < 2 ^ 128
  pub divisor : n.divisor < 2 ^ 128

pub well : (n : Floored) → IsLowest n → IsWell n
well n h = record {
  used = subst EndsUsed h.last_is_used (trimmed_used n.expression.coefficients);
  coefficients = All-weaker (FitsSigned w128) IsSmall abs_small n.expression.coefficients h.held.coefficients;
  constant = abs_small n.expression.constant h.held.constant;
  variables = omega (arith, h.held.variables);
  divisor = omega (arith, h.within_limit);
}

linear_is : (l m : Linear) → (l.coefficients ≡ m.coefficients) × (l.constant ≡ m.constant) → l ≡ m
linear_is l m w =
    ap (λ (cs : List ℤ). let x : Linear = record { coefficients = cs; constant = l.constant } in x) w.0 ∙ ap (λ (k : ℤ). let x : Linear = record { coefficients = m.coefficients; constant = k } in x) w.1

linear_written : (n : Floored) → IsWell n → All IsWritten (parts_from 0 n.expression.coefficients n.expression.constant)
linear_written n h = parts_written 0 n.expression.coefficients n.expression.constant h.coefficients h.constant h.variables

pub linear_without : (n : Floored) → IsWell n → Without 41 (linear_text n.expression)
linear_without n h = sum_without (parts_from 0 n.expression.coefficients n.expression.constant) (linear_written n h)

linear_reads : (n m : Floored) → IsWell n → IsWell m → linear_text n.expression ≡ linear_text m.expression → n.expression ≡ m.expression
linear_reads n m h g e =
    let texts : (k : Floored) → IsWell k → AreParts (parts_from 0 k.expression.coefficients k.expression.constant) = λ k w. All-weaker IsWritten (λ p. IsPartText p.1) (λ p x. x.0) (parts_from 0 k.expression.coefficients k.expression.constant) (linear_written k w) in
    let parts = signed_reads (parts_from 0 n.expression.coefficients n.expression.constant) (parts_from 0 m.expression.coefficients m.expression.constant) (texts n h) (texts m g) e in
    linear_is n.expression m.expression
    (parts_read 0 n.expression.coefficients m.expression.coefficients n.expression.constant m.expression.constant h.used g.used h.coefficients g.coefficients h.constant g.constant h.variables g.variables parts)

floored_is : (n m : Floored) → n.expression ≡ m.expression → n.divisor ≡ m.divisor → n ≡ m
floored_is n m e f =
    ap (λ (l : Linear). let x : Floored = record { expression = l; divisor = n.divisor } in x) e ∙ ap (λ (d : ℕ). let x : Floored = record { expression = m.expression; divisor = d } in x) f

-- ---- divided expressions, and what follows them
abbrev pub floored_by : Bool → Floored → List ℕ
floored_by b n =
    if b then codes "nat(" ++ linear_text n.expression ++ codes ")"
    else codes "(nat(" ++ linear_text n.expression ++ codes ")/" ++ decimal n.divisor ++ codes ")"

whole_splits : (l r : List ℕ) → (l ++ 41 ∷ []) ++ r ≡ l ++ 41 ∷ r
whole_splits l r = append_assoc l (41 ∷ []) r

divided_splits : (l d r : List ℕ) → (((l ++ 41 ∷ 47 ∷ []) ++ d) ++ 41 ∷ []) ++ r ≡ l ++ 41 ∷ 47 ∷ (d ++ 41 ∷ r)
divided_splits l d r = append_assoc ((l ++ 41 ∷ 47 ∷ []) ++ d) (41 ∷ []) r ∙ append_assoc (l ++ 41 ∷ 47 ∷ []) d (41 ∷ r) ∙ append_assoc l (41 ∷ 47 ∷ []) (d ++ 41 ∷ r)

no_close : NoDigit (41 ∷ [])
no_close d = absurd (omega (arith, d))

floored_reads_by : (b c : Bool) (n m : Floored) (r s : List ℕ) → (n.divisor == 1) ≡ b → (m.divisor == 1) ≡ c → IsWell n → IsWell m → floored_by b n ++ r ≡ floored_by c m ++ s → (n ≡ m) × (r ≡ s)
floored_reads_by true true n m r s x y h g e =
    let w = until 41 (linear_text n.expression) (linear_text m.expression) r s (linear_without n h) (linear_without m g)
    (sym (whole_splits (linear_text n.expression) r) ∙ tails (tails (tails (tails e))) ∙ whole_splits (linear_text m.expression) s) in
    (floored_is n m (linear_reads n m h g w.0) (eqb-true n.divisor 1 x ∙ sym (eqb-true m.divisor 1 y)), w.1)
floored_reads_by true false n m r s x y h g e = absurd (omega (arith, heads e))
floored_reads_by false true n m r s x y h g e = absurd (omega (arith, heads e))
floored_reads_by false false n m r s x y h g e =
    let w = until 41 (linear_text n.expression) (linear_text m.expression) (47 ∷ (decimal n.divisor ++ 41 ∷ r)) (47 ∷ (decimal m.divisor ++ 41 ∷ s)) (linear_without n h) (linear_without m g)
    (sym (divided_splits (linear_text n.expression) (decimal n.divisor) r) ∙ tails (tails (tails (tails (tails e)))) ∙ divided_splits (linear_text m.expression) (decimal m.divisor) s) in
    let d = number_reads n.divisor m.divisor (41 ∷ r) (41 ∷ s) h.divisor g.divisor no_close no_close (tails w.1) in
    (floored_is n m (linear_reads n m h g w.0) d.0, tails d.1)

pub floored_reads : (n m : Floored) (r s : List ℕ) → IsWell n → IsWell m → floored_text n ++ r ≡ floored_text m ++ s → (n ≡ m) × (r ≡ s)
floored_reads n m r s h g e = floored_reads_by (n.divisor == 1) (m.divisor == 1) n m r s refl refl h g e
