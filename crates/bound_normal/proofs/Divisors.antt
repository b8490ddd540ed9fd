-- Expressions in lowest terms.
use Rattle.std.proofs.Common.{ℕ, suc, ◌≡◌, ◌*◌, ◌/◌, ◌<◌, ◌≤◌, ◌==◌, Bool, true, false, List, [], ◌∷◌, length, get_or, map, refl, sym, ◌∙◌, ap, subst, arith, ⊎_elim}
use Rattle.std.specs.Prelude.{All, ℤ, pos, int_div, unsigned_abs, FitsSigned, ◌<ℤ◌, if◌then◌else◌}
use Rattle.std.specs.Int.{w128, ◌∣◌, IsGcd}
use Rattle.std.proofs.lemmas.Bool.{cases_Bool, eqb-true}
use Rattle.std.proofs.lemmas.Int.{ints, quot_fits}
use Rattle.std.proofs.lemmas.List.{length-map}
use Rattle.std.proofs.lemmas.List.Elements.{All-nil, All-cons, All-head, All-tail}
use Rattle.std.proofs.Math.Nat.{dvd_refl, dvd_trans, dvd-zero, div-mul_cancel, mul-dvd-mul_right, dvd_of_mul-dvd-mul_right, eq-one_of_dvd-one, pos_of_dvd_of_pos}
use Rattle.q128.specs.Rule.{gcd}
use Rattle.q128.proofs.Divisors.{IsGcd-gcd, gcd_pos}
use Rattle.q128.proofs.Coprime.{div_pos}
use Rattle.q128.proofs.Abs.{abs-int_div}
use Rattle.bound_terms.specs.Terms.{Floored}
use Rattle.bound_forms.specs.Lowest.{onto_trimmed, trimmed, common_divisor, lowest}
use Rattle.bound_forms.specs.Limits.{past_limit}
use Rattle.bound_forms.specs.Normal.{IsHeld, IsLowest}

-- ---- what divides a number and several
pub common_divides : (d : ℕ) (cs : List ℤ) → common_divisor d cs ∣ d
common_divides d [] = dvd_refl d
common_divides d (c ∷ cs) = dvd_trans (common_divisor (gcd (unsigned_abs c) d) cs) (common_divides (gcd (unsigned_abs c) d) cs) (IsGcd-gcd (unsigned_abs c) d).1

pub common_divides_all : (d : ℕ) (cs : List ℤ) → All (λ c. common_divisor d cs ∣ unsigned_abs c) cs
common_divides_all d [] = All-nil (λ c. d ∣ unsigned_abs c)
common_divides_all d (c ∷ cs) =
    let g = gcd (unsigned_abs c) d in
    All-cons (λ b. common_divisor g cs ∣ unsigned_abs b) c cs (dvd_trans (common_divisor g cs) (common_divides g cs) (IsGcd-gcd (unsigned_abs c) d).0) (common_divides_all g cs)

pub divides_common : (e d : ℕ) (cs : List ℤ) → e ∣ d → All (λ c. e ∣ unsigned_abs c) cs → e ∣ common_divisor d cs
divides_common e d [] h g = h
divides_common e d (c ∷ cs) h g =
    divides_common e (gcd (unsigned_abs c) d) cs ((IsGcd-gcd (unsigned_abs c) d).2 e (All-head (λ c. e ∣ unsigned_abs c) c cs g) h) (All-tail (λ c. e ∣ unsigned_abs c) c cs g)

-- ---- without zeros at the end
abbrev pub EndsUsed : List ℤ → Type 0
EndsUsed [] = Unit {0}
EndsUsed (c ∷ []) = unsigned_abs c ≡ 0 → ⊥
EndsUsed (c ∷ d ∷ ds) = EndsUsed (d ∷ ds)

one_used : (b : Bool) (c : ℤ) → (b ≡ false → unsigned_abs c ≡ 0 → ⊥) → EndsUsed (if b then [] else c ∷ [])
one_used true c h = tt
one_used false c h = h refl

not_zero : (k : ℕ) → (k == 0) ≡ false → k ≡ 0 → ⊥
not_zero k e h = both (k == 0) e (ap (λ n. n == 0) h)
  where
    both : (b : Bool) → b ≡ false → b ≡ true → ⊥
    both b f g = absurd (cc)

onto_used : (c : ℤ) (ds : List ℤ) → EndsUsed ds → EndsUsed (onto_trimmed c ds)
onto_used c [] h = one_used (unsigned_abs c == 0) c (not_zero (unsigned_abs c))
onto_used c (d ∷ ds) h = h

pub trimmed_used : (cs : List ℤ) → EndsUsed (trimmed cs)
trimmed_used [] = tt
trimmed_used (c ∷ cs) = onto_used c (trimmed cs) (trimmed_used cs)

one_stays : (b : Bool) (c : ℤ) → b ≡ false → (if b then [] else c ∷ []) ≡ c ∷ []
one_stays true c h = absurd (cc)
one_stays false c h = refl

is_used : (k : ℕ) → (k ≡ 0 → ⊥) → (k == 0) ≡ false
is_used k h = ⊎_elim (λ e. absurd (h (eqb-true k 0 e))) (λ e. e) (cases_Bool (k == 0))

pub used_stays : (cs : List ℤ) → EndsUsed cs → trimmed cs ≡ cs
used_stays [] h = refl
used_stays (c ∷ []) h = one_stays (unsigned_abs c == 0) c (is_used (unsigned_abs c) h)
used_stays (c ∷ d ∷ ds) h = ap (onto_trimmed c) (used_stays (d ∷ ds) h)

pub used_map : (f : ℤ → ℤ) (cs : List ℤ) → All (λ c. unsigned_abs (f c) ≡ 0 → unsigned_abs c ≡ 0) cs → EndsUsed cs → EndsUsed (map f cs)
used_map f [] g h = tt
used_map f (c ∷ []) g h = λ e. h (All-head (λ c. unsigned_abs (f c) ≡ 0 → unsigned_abs c ≡ 0) c [] g e)
used_map f (c ∷ d ∷ ds) g h = used_map f (d ∷ ds) (All-tail (λ c. unsigned_abs (f c) ≡ 0 → unsigned_abs c ≡ 0) c (d ∷ ds) g) h

onto_all : (P : ℤ → Type 0) (c : ℤ) (ds : List ℤ) → P c → All P ds → All P (onto_trimmed c ds)
onto_all P c [] x h = by_test (unsigned_abs c == 0)
  where
    by_test : (b : Bool) → All P (if b then [] else c ∷ [])
    by_test true = All-nil P
    by_test false = All-cons P c [] x (All-nil P)
onto_all P c (d ∷ ds) x h = All-cons P c (d ∷ ds) x h

pub all_trimmed : (P : ℤ → Type 0) (cs : List ℤ) → All P cs → All P (trimmed cs)
all_trimmed P [] h = All-nil P
all_trimmed P (c ∷ cs) h = onto_all P c (trimmed cs) (All-head P c cs h) (all_trimmed P cs (All-tail P c cs h))

zero_by : (e : ℕ) (c : ℤ) (b : Bool) → b ≡ (unsigned_abs c == 0) → All (λ c. e ∣ unsigned_abs c) (if b then [] else c ∷ []) → e ∣ unsigned_abs c
zero_by e c true is h = subst (λ k. e ∣ k) (sym (eqb-true (unsigned_abs c) 0 (sym is))) (dvd-zero e)
zero_by e c false is h = All-head (λ c. e ∣ unsigned_abs c) c [] h

-- what divides all that isn't cut off divides all
onto_divided : (e : ℕ) (c : ℤ) (cs ds : List ℤ) → All (λ c. e ∣ unsigned_abs c) (onto_trimmed c ds) → (All (λ c. e ∣ unsigned_abs c) ds → All (λ c. e ∣ unsigned_abs c) cs) → All (λ c. e ∣ unsigned_abs c) (c ∷ cs)
onto_divided e c cs [] h later = All-cons (λ c. e ∣ unsigned_abs c) c cs (zero_by e c (unsigned_abs c == 0) refl h) (later (All-nil (λ c. e ∣ unsigned_abs c)))
onto_divided e c cs (d ∷ ds) h later = All-cons (λ c. e ∣ unsigned_abs c) c cs (All-head (λ c. e ∣ unsigned_abs c) c (d ∷ ds) h) (later (All-tail (λ c. e ∣ unsigned_abs c) c (d ∷ ds) h))

pub all_divided : (e : ℕ) (cs : List ℤ) → All (λ c. e ∣ unsigned_abs c) (trimmed cs) → All (λ c. e ∣ unsigned_abs c) cs
all_divided e [] h = All-nil (λ c. e ∣ unsigned_abs c)
all_divided e (c ∷ cs) h = onto_divided e c cs (trimmed cs) h (all_divided e cs)

onto_long : (c : ℤ) (ds : List ℤ) → length (onto_trimmed c ds) ≤ suc (length ds)
onto_long c [] = by_test (unsigned_abs c == 0)
  where
    by_test : (b : Bool) → length (if b then [] else c ∷ []) ≤ 1
    by_test true = omega arith
    by_test false = omega arith
onto_long c (d ∷ ds) = omega arith

trimmed_long : (cs : List ℤ) → length (trimmed cs) ≤ length cs
trimmed_long [] = omega arith
trimmed_long (c ∷ cs) = omega (arith, onto_long c (trimmed cs), trimmed_long cs)

-- ---- quotients
quotient_zero : (n g : ℕ) → g ∣ n → n / g ≡ 0 → n ≡ 0
quotient_zero n g h e = sym (div-mul_cancel g h) ∙ ap (λ q. q * g) e ∙ none g
  where
    none : (g : ℕ) → 0 * g ≡ 0
    none g = omega arith

quotient_divides : (h n g : ℕ) → g ∣ n → h ∣ n / g → h * g ∣ n
quotient_divides h n g d e = subst (λ m. h * g ∣ m) (div-mul_cancel g d) (mul-dvd-mul_right h e g)

map_divides : (h g : ℕ) (cs : List ℤ) → All (λ c. g ∣ unsigned_abs c) cs → All (λ c. h ∣ unsigned_abs c) (map (λ c. int_div c (pos g)) cs) → All (λ c. h * g ∣ unsigned_abs c) cs
map_divides h g [] d e = All-nil (λ c. h * g ∣ unsigned_abs c)
map_divides h g (c ∷ cs) d e =
    let first : h ∣ unsigned_abs c / g = subst (λ k. h ∣ k) (abs-int_div c g) (All-head (λ c. h ∣ unsigned_abs c) (int_div c (pos g)) (map (λ c. int_div c (pos g)) cs) e) in
    All-cons (λ c. h * g ∣ unsigned_abs c) c cs (quotient_divides h (unsigned_abs c) g (All-head (λ c. g ∣ unsigned_abs c) c cs d) first)
    (map_divides h g cs (All-tail (λ c. g ∣ unsigned_abs c) c cs d) (All-tail (λ c. h ∣ unsigned_abs c) (int_div c (pos g)) (map (λ c. int_div c (pos g)) cs) e))

map_fits : (g : ℕ) (cs : List ℤ) → 1 ≤ g → All (FitsSigned w128) cs → All (FitsSigned w128) (map (λ c. int_div c (pos g)) cs)
map_fits g [] one h = All-nil (FitsSigned w128)
map_fits g (c ∷ cs) one h =
    All-cons (FitsSigned w128) (int_div c (pos g)) (map (λ c. int_div c (pos g)) cs) (quot_fits w128 c (pos g) (All-head (FitsSigned w128) c cs h) (positive g one)) (map_fits g cs one (All-tail (FitsSigned w128) c cs h))
  where
    positive : (g : ℕ) → 1 ≤ g → pos 0 <ℤ pos g
    positive g one = omega (arith, ints, one)

-- ---- the lowest terms of an expression
pub lowest_is : (n : Floored) → IsHeld n → 0 < length (trimmed n.expression.coefficients) → (lowest n).divisor < past_limit → IsLowest (lowest n)
lowest_is n held some low =
    let cs = n.expression.coefficients in
    let k = n.expression.constant in
    let d = n.divisor in
    let first = gcd (unsigned_abs k) d in
    let g = common_divisor first cs in
    let first_is : IsGcd (unsigned_abs k) d first = IsGcd-gcd (unsigned_abs k) d in
    let first_positive : 0 < first = gcd_pos (unsigned_abs k) d held.positive in
    let divides_first : g ∣ first = common_divides first cs in
    let positive : 0 < g = pos_of_dvd_of_pos divides_first first_positive in
    let divides_d : g ∣ d = dvd_trans g divides_first first_is.1 in
    let divides_k : g ∣ unsigned_abs k = dvd_trans g divides_first first_is.0 in
    let divides_cs : All (λ c. g ∣ unsigned_abs c) (trimmed cs) = all_trimmed (λ c. g ∣ unsigned_abs c) cs (common_divides_all first cs) in
    let above : pos 0 <ℤ pos g = omega (arith, ints, positive) in
    let used : EndsUsed (map (λ c. int_div c (pos g)) (trimmed cs)) =
    used_map (λ c. int_div c (pos g)) (trimmed cs) (λ i c l e. quotient_zero (unsigned_abs (get_or (trimmed cs) i c)) g (divides_cs i c l) (sym (abs-int_div (get_or (trimmed cs) i c) g) ∙ e)) (trimmed_used cs) in
    record {
      held = record {
        coefficients = map_fits g (trimmed cs) positive (all_trimmed (FitsSigned w128) cs held.coefficients);
        constant = quot_fits w128 k (pos g) held.constant above;
        variables = omega (arith, held.variables, trimmed_long cs, length-map (trimmed cs) (λ c. int_div c (pos g)));
        positive = div_pos d g held.positive divides_d;
      };
      depends = omega (arith, some, length-map (trimmed cs) (λ c. int_div c (pos g)));
      last_is_used = used_stays (map (λ c. int_div c (pos g)) (trimmed cs)) used;
      nothing_common = λ h hd hk hc.
          let all : h * g ∣ g = divides_common (h * g) first cs (first_is.2 (h * g) (quotient_divides h (unsigned_abs k) g divides_k (subst (λ m. h ∣ m) (abs-int_div k g) hk)) (quotient_divides h d g divides_d hd)) (all_divided (h * g) cs (map_divides h g (trimmed cs) divides_cs hc)) in
          eq-one_of_dvd-one (dvd_of_mul-dvd-mul_right h positive (subst (λ m. h * g ∣ m) (one_times g) all));
      within_limit = low;
    }
  where
    one_times : (g : ℕ) → g ≡ 1 * g
    one_times g = omega arith
