-- Forms of expressions, powers and sums of powers keep the values of these.
use Rattle.std.proofs.Common.{ℕ, zero, suc, ◌≡◌, ◌+◌, ◌*◌, ◌/◌, ◌^◌, ◌<◌, ◌==◌, Bool, true, false, List, [], ◌∷◌, get_or, map, refl, sym, ◌∙◌, ap, arith}
use Rattle.std.specs.Prelude.{All, ℤ, pos, negsuc, neg_ℤ, ◌+ℤ◌, ◌*ℤ◌, int_div, unsigned_abs, if◌then◌else◌}
use Rattle.std.specs.Int.{◌∣◌}
use Rattle.std.proofs.lemmas.Bool.{eqb-true}
use Rattle.std.proofs.lemmas.Int.{ints}
use Rattle.std.proofs.lemmas.List.Elements.{All-head, All-tail}
use Rattle.std.proofs.Math.Nat.{dvd_trans, div-mul_cancel, mul-div-mul_right, pos_of_dvd_of_pos}
use Rattle.std.proofs.Math.IntN.{*ℤ_comm, +ℤ_idl}
use Rattle.q128.specs.Rule.{gcd}
use Rattle.q128.proofs.Divisors.{IsGcd-gcd, gcd_pos}
use Rattle.q128.proofs.Abs.{int_div-*}
use Rattle.lin_rows.specs.Linear.{Linear, coefficient_of}
use Rattle.lin_rows.specs.Points.{whole_sum, whole_value}
use Rattle.lin_rows.specs.Transitions.{lin_times}
use Rattle.lin_rows.proofs.Expressions.{whole_sum-zero, whole_value-times}
use Rattle.bound_terms.specs.Terms.{Floored, Floor, Power, Geometric, terms}
use Rattle.bound_terms.specs.Values.{not_below_zero, floored_value, geo, total_of}
use Rattle.bound_terms.proofs.Growth.{one_pow, geo_one}
use Rattle.bound_forms.specs.Monomials.{Form, monomial_term, constant, one_atom}
use Rattle.bound_forms.specs.Lowest.{onto_trimmed, trimmed, common_divisor, divided, lowest, by_sizes, fixed_value, floor_form, power_form, geometric_form}
use Rattle.bound_forms.specs.Normal.{IsHeld}
use Rattle.bound_normal.proofs.Divisors.{common_divides, common_divides_all, all_trimmed}
use Rattle.bound_normal.proofs.Expressions.{zero_is}

-- the value of a form, monomial by monomial
abbrev pub form_value : List ℤ → Form → ℕ
form_value sizes p = total_of sizes (terms (map monomial_term p))

-- ---- zeros at the end
nothing_at : (j : ℕ) → get_or [] j (pos 0) ≡ pos 0
nothing_at zero = refl
nothing_at (suc j) = refl

one_at : (b : Bool) (c : ℤ) → (unsigned_abs c == 0) ≡ b → get_or (if b then [] else c ∷ []) zero (pos 0) ≡ c
one_at true c x = sym (zero_is c (eqb-true (unsigned_abs c) 0 x))
one_at false c x = refl

one_behind : (b : Bool) (c : ℤ) (j : ℕ) → get_or (if b then [] else c ∷ []) (suc j) (pos 0) ≡ pos 0
one_behind true c j = refl
one_behind false c j = nothing_at j

onto_at : (c : ℤ) (ds cs : List ℤ) (i : ℕ) → ((j : ℕ) → get_or ds j (pos 0) ≡ get_or cs j (pos 0)) → get_or (onto_trimmed c ds) i (pos 0) ≡ get_or (c ∷ cs) i (pos 0)
onto_at c [] cs zero e = one_at (unsigned_abs c == 0) c refl
onto_at c [] cs (suc j) e = one_behind (unsigned_abs c == 0) c j ∙ sym (nothing_at j) ∙ e j
onto_at c (d ∷ ds) cs zero e = refl
onto_at c (d ∷ ds) cs (suc j) e = e j

trimmed_at : (cs : List ℤ) (i : ℕ) → get_or (trimmed cs) i (pos 0) ≡ get_or cs i (pos 0)
trimmed_at [] i = refl
trimmed_at (c ∷ cs) i = onto_at c (trimmed cs) cs i (trimmed_at cs)

same_sum : (f g : ℕ → ℤ) (zs : List ℤ) → ((i : ℕ) → f i ≡ g i) → whole_sum f zs ≡ whole_sum g zs
same_sum f g [] e = refl
same_sum f g (z ∷ zs) e = ap (λ k. k *ℤ z +ℤ whole_sum (λ i. f (suc i)) zs) (e zero) ∙ ap (λ k. g zero *ℤ z +ℤ k) (same_sum (λ i. f (suc i)) (λ i. g (suc i)) zs (λ i. e (suc i)))

-- ---- what divides all
abbrev cut : Floored → Linear
cut n = record { coefficients = trimmed n.expression.coefficients; constant = n.expression.constant }

cut_value : (n : Floored) (sizes : List ℤ) → whole_value (cut n) sizes ≡ whole_value n.expression sizes
cut_value n sizes = ap (λ z. z +ℤ n.expression.constant) (same_sum (coefficient_of (cut n)) (coefficient_of n.expression) sizes (trimmed_at n.expression.coefficients))

times_quotient : (g : ℕ) (c : ℤ) → g ∣ unsigned_abs c → pos g *ℤ int_div c (pos g) ≡ c
times_quotient g c h = *ℤ_comm (pos g) (int_div c (pos g)) ∙ int_div-* c g h

times_quotients : (g : ℕ) (cs : List ℤ) → All (λ c. g ∣ unsigned_abs c) cs → map (λ c. pos g *ℤ c) (map (λ c. int_div c (pos g)) cs) ≡ cs
times_quotients g [] h = refl
times_quotients g (c ∷ cs) h =
    ap (λ d. d ∷ map (λ c. pos g *ℤ c) (map (λ c. int_div c (pos g)) cs)) (times_quotient g c (All-head (λ c. g ∣ unsigned_abs c) c cs h))
    ∙ ap (λ ds. c ∷ ds) (times_quotients g cs (All-tail (λ c. g ∣ unsigned_abs c) c cs h))

times_divided : (g : ℕ) (cs : List ℤ) (k : ℤ) (d : ℕ) → All (λ c. g ∣ unsigned_abs c) cs → g ∣ unsigned_abs k → lin_times (pos g) (divided cs k d g).expression ≡ record { coefficients = cs; constant = k }
times_divided g cs k d h l =
    ap (λ (xs : List ℤ). let x : Linear = record { coefficients = xs; constant = pos g *ℤ int_div k (pos g) } in x) (times_quotients g cs h)
    ∙ ap (λ (z : ℤ). let x : Linear = record { coefficients = cs; constant = z } in x) (times_quotient g k l)

none_below : (m : ℕ) → not_below_zero (neg_ℤ (pos m)) ≡ 0
none_below zero = refl
none_below (suc m) = refl

no_times : (g : ℕ) → 0 ≡ 0 * g
no_times g = omega arith

cut_off : (g : ℕ) (z : ℤ) → 0 < g → not_below_zero (pos g *ℤ z) ≡ not_below_zero z * g
cut_off g (pos n) h = by (pos g *ℤ pos n) (omega (arith, ints))
  where
    by : (z : ℤ) → z ≡ pos (n * g) → not_below_zero z ≡ n * g
    by z e = ap not_below_zero e
cut_off zero (negsuc n) h = absurd (omega (arith, h))
cut_off (suc g) (negsuc n) h = none_below (suc g * suc n) ∙ no_times (suc g)

floor_divided : (sizes : List ℤ) (g : ℕ) (cs : List ℤ) (k : ℤ) (d : ℕ) → 0 < g → g ∣ d → All (λ c. g ∣ unsigned_abs c) cs → g ∣ unsigned_abs k
    → floored_value sizes (divided cs k d g) ≡ not_below_zero (whole_value (record { coefficients = cs; constant = k }) sizes) / d
floor_divided sizes g cs k d some hd hs hk =
    let small = divided cs k d g in
    let z = whole_value small.expression sizes in
    let whole : whole_value (record { coefficients = cs; constant = k }) sizes ≡ pos g *ℤ z = ap (λ (l : Linear). whole_value l sizes) (sym (times_divided g cs k d hs hk)) ∙ whole_value-times (pos g) small.expression sizes in
    let above : not_below_zero (whole_value (record { coefficients = cs; constant = k }) sizes) ≡ not_below_zero z * g = ap not_below_zero whole ∙ cut_off g z some in
    sym (ap (λ x. x / d) above ∙ ap (λ x. not_below_zero z * g / x) (sym (div-mul_cancel g hd)) ∙ mul-div-mul_right (not_below_zero z) (d / g) some)

pub lowest_value : (sizes : List ℤ) (n : Floored) → IsHeld n → floored_value sizes (lowest n) ≡ floored_value sizes n
lowest_value sizes n held =
    let cs = n.expression.coefficients in
    let k = n.expression.constant in
    let d = n.divisor in
    let first = gcd (unsigned_abs k) d in
    let g = common_divisor first cs in
    let is = IsGcd-gcd (unsigned_abs k) d in
    let divides : g ∣ first = common_divides first cs in
    let some : 0 < g = pos_of_dvd_of_pos divides (gcd_pos (unsigned_abs k) d held.positive) in
    floor_divided sizes g (trimmed cs) k d some (dvd_trans g divides is.1) (all_trimmed (λ c. g ∣ unsigned_abs c) cs (common_divides_all first cs)) (dvd_trans g divides is.0)
    ∙ ap (λ z. not_below_zero z / d) (cut_value n sizes)

-- ---- what doesn't depend on a size
fixed_is : (sizes : List ℤ) (n : Floored) → trimmed n.expression.coefficients ≡ [] → floored_value sizes n ≡ fixed_value n
fixed_is sizes n e =
    let k = n.expression.constant in
    let zero_all : (i : ℕ) → get_or n.expression.coefficients i (pos 0) ≡ pos 0 = λ i. sym (trimmed_at n.expression.coefficients i) ∙ ap (λ cs. get_or cs i (pos 0)) e ∙ nothing_at i in
    ap (λ z. not_below_zero (z +ℤ k) / n.divisor) (same_sum (coefficient_of n.expression) (λ i. pos 0) sizes zero_all ∙ whole_sum-zero sizes) ∙ ap (λ z. not_below_zero z / n.divisor) (+ℤ_idl k)

pub number_value : (sizes : List ℤ) (n : ℕ) → form_value sizes (constant n) ≡ n
number_value sizes zero = refl
number_value sizes (suc n) = omega arith

by_sizes_value : (sizes cs : List ℤ) (p q : Form) (v : ℕ) → (cs ≡ [] → form_value sizes p ≡ v) → form_value sizes q ≡ v → form_value sizes (by_sizes cs p q) ≡ v
by_sizes_value sizes [] p q v h g = h refl
by_sizes_value sizes (c ∷ cs) p q v h g = g

one_value : (n : ℕ) → 1 * (n * 1) + 0 ≡ n
one_value n = omega arith

pub floor_form_value : (sizes : List ℤ) (n : Floored) → IsHeld n → form_value sizes (floor_form n) ≡ floored_value sizes n
floor_form_value sizes n held =
    by_sizes_value sizes (trimmed n.expression.coefficients) (constant (fixed_value n)) (one_atom (Floor (lowest n))) (floored_value sizes n)
    (λ e. number_value sizes (fixed_value n) ∙ sym (fixed_is sizes n e)) (one_value (floored_value sizes (lowest n)) ∙ lowest_value sizes n held)

power_by : (sizes : List ℤ) (b : ℕ) (n : Floored) (is_one : Bool) → IsHeld n → (b == 1) ≡ is_one
    → form_value sizes (if is_one then constant 1 else by_sizes (trimmed n.expression.coefficients) (constant (b ^ fixed_value n)) (one_atom (Power b (lowest n)))) ≡ b ^ floored_value sizes n
power_by sizes b n true held x = sym (ap (λ c. c ^ floored_value sizes n) (eqb-true b 1 x) ∙ one_pow (floored_value sizes n))
power_by sizes b n false held x =
    by_sizes_value sizes (trimmed n.expression.coefficients) (constant (b ^ fixed_value n)) (one_atom (Power b (lowest n))) (b ^ floored_value sizes n)
    (λ e. number_value sizes (b ^ fixed_value n) ∙ ap (λ v. b ^ v) (sym (fixed_is sizes n e)))
    (one_value (b ^ floored_value sizes (lowest n)) ∙ ap (λ v. b ^ v) (lowest_value sizes n held))

pub power_form_value : (sizes : List ℤ) (b : ℕ) (n : Floored) → IsHeld n → form_value sizes (power_form b n) ≡ b ^ floored_value sizes n
power_form_value sizes b n held = power_by sizes b n (b == 1) held refl

geometric_by : (sizes : List ℤ) (b : ℕ) (n : Floored) (is_one : Bool) → IsHeld n → (b == 1) ≡ is_one
    → form_value sizes (if is_one then floor_form n else by_sizes (trimmed n.expression.coefficients) (constant (geo b (fixed_value n))) (one_atom (Geometric b (lowest n)))) ≡ geo b (floored_value sizes n)
geometric_by sizes b n true held x = floor_form_value sizes n held ∙ sym (geo_one (floored_value sizes n)) ∙ ap (λ c. geo c (floored_value sizes n)) (sym (eqb-true b 1 x))
geometric_by sizes b n false held x =
    by_sizes_value sizes (trimmed n.expression.coefficients) (constant (geo b (fixed_value n))) (one_atom (Geometric b (lowest n))) (geo b (floored_value sizes n))
    (λ e. number_value sizes (geo b (fixed_value n)) ∙ ap (geo b) (sym (fixed_is sizes n e)))
    (one_value (geo b (floored_value sizes (lowest n))) ∙ ap (geo b) (lowest_value sizes n held))

pub geometric_form_value : (sizes : List ℤ) (b : ℕ) (n : Floored) → IsHeld n → form_value sizes (geometric_form b n) ≡ geo b (floored_value sizes n)
geometric_form_value sizes b n held = geometric_by sizes b n (b == 1) held refl
