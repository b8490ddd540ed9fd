-- The texts of expressions are read.
use Rattle.std.proofs.Common.{ℕ, suc, ◌≡◌, ◌<◌, ◌≤◌, ◌+◌, ◌-◌, ◌^◌, ◌==◌, Bool, true, false, List, [], ◌∷◌, ◌++◌, length, decimal, refl, sym, ◌∙◌, ap, arith, codes}
use Rattle.std.specs.Prelude.{All, ℤ, pos, negsuc, unsigned_abs, FitsSigned, Option, Some, None, replicate, if◌then◌else◌}
use Rattle.std.specs.List.{flat_map}
use Rattle.std.specs.Int.{w128}
use Rattle.std.proofs.lemmas.Bool.Decides.{nat_tests}
use Rattle.std.proofs.lemmas.Bool.{eqb-true}
use Rattle.std.proofs.lemmas.Int.{ints}
use Rattle.std.proofs.lemmas.List.{append_assoc, append-nil, length-append, length-replicate, replicate_more}
use Rattle.std.proofs.lemmas.List.Elements.{All-head, All-tail}
use Rattle.lin_rows.specs.Linear.{Linear}
use Rattle.bound_terms.specs.Texts.{is_below_zero, times_text, parts_from, later_part, signed_sum, linear_text}
use Rattle.bound_normal.proofs.Divisors.{EndsUsed}
use Rattle.bound_normal.proofs.Linears.{front_by, times_split}
use Rattle.bound_text.specs.inside.Runs.{run, is_digit, digit_onto}
use Rattle.bound_text.specs.inside.Expressions.{Drawn, nothing_drawn, signed, placed, settled, drawn_with}
use Rattle.bound_text.proofs.Numbers.{run-append, Takes, number_run}

-- ---- one term
abbrev pub pending : List ℤ → ℤ → Bool → Option ℕ → Option ℕ → Drawn
pending cs k sign factor variable = record { coefficients = cs; constant = k; is_negative = sign; factor = factor; variable = variable }

abbrev Test : Bool → Drawn → Drawn → Drawn
Test b x y = if b then x else y

chosen : (b : Bool) (x y : Drawn) → b ≡ true → Test b x y ≡ x
chosen true x y e = refl
chosen false x y e = absurd (cc)

factor_takes : (cs : List ℤ) (k : ℤ) (sign : Bool) → Takes drawn_with (λ n. pending cs k sign (Some n) None)
factor_takes cs k sign n c e = chosen (is_digit c) _ _ e

factor_starts : (cs : List ℤ) (k : ℤ) (sign : Bool) (c : ℕ) → is_digit c ≡ true → drawn_with c (pending cs k sign None None) ≡ pending cs k sign (Some (digit_onto 0 c)) None
factor_starts cs k sign c e = chosen (is_digit c) _ _ e

size_takes : (cs : List ℤ) (k : ℤ) (sign : Bool) (factor : Option ℕ) → Takes drawn_with (λ n. pending cs k sign factor (Some n))
size_takes cs k sign factor n c e = chosen (is_digit c) _ _ e

size_run : (cs : List ℤ) (k : ℤ) (sign : Bool) (factor : Option ℕ) (v : ℕ) → v < 2 ^ 128 → run drawn_with (97 ∷ decimal v) (pending cs k sign factor None) ≡ pending cs k sign factor (Some v)
size_run cs k sign factor v h = number_run drawn_with (λ n. pending cs k sign factor (Some n)) (pending cs k sign factor (Some 0)) (size_takes cs k sign factor) (λ c e. size_takes cs k sign factor 0 c e) v h

factor_run : (cs : List ℤ) (k : ℤ) (sign : Bool) (n : ℕ) → n < 2 ^ 128 → run drawn_with (decimal n) (pending cs k sign None None) ≡ pending cs k sign (Some n) None
factor_run cs k sign n h = number_run drawn_with (λ n. pending cs k sign (Some n) None) (pending cs k sign None None) (factor_takes cs k sign) (factor_starts cs k sign) n h

front_run : (cs : List ℤ) (k : ℤ) (sign : Bool) (n : ℕ) → n < 2 ^ 128 → run drawn_with (decimal n ++ codes "*") (pending cs k sign None None) ≡ pending cs k sign (Some n) None
front_run cs k sign n h = run-append drawn_with (decimal n) (codes "*") (pending cs k sign None None) ∙ ap (run drawn_with (codes "*")) (factor_run cs k sign n h)

times_by : (b : Bool) (n v : ℕ) → (n == 1) ≡ b → n < 2 ^ 128 → v < 2 ^ 128 → (cs : List ℤ) (k : ℤ) (sign : Bool)
    → settled false (run drawn_with (front_by b n ++ 97 ∷ decimal v) (pending cs k sign None None)) ≡ pending (placed cs v (signed sign n)) k false None None
times_by true n v e h g cs k sign =
    ap (settled false) (size_run cs k sign None v g) ∙ ap (λ m. pending (placed cs v (signed sign m)) k false None None) (sym (eqb-true n 1 e))
times_by false n v e h g cs k sign =
    ap (settled false) (run-append drawn_with (decimal n ++ codes "*") (97 ∷ decimal v) (pending cs k sign None None) ∙ ap (run drawn_with (97 ∷ decimal v)) (front_run cs k sign n h) ∙ size_run cs k sign (Some n) v g)

times_run : (n v : ℕ) → n < 2 ^ 128 → v < 2 ^ 128 → (cs : List ℤ) (k : ℤ) (sign : Bool)
    → settled false (run drawn_with (times_text n v) (pending cs k sign None None)) ≡ pending (placed cs v (signed sign n)) k false None None
times_run n v h g cs k sign = ap (λ t. settled false (run drawn_with t (pending cs k sign None None))) (times_split n v) ∙ times_by (n == 1) n v refl h g cs k sign

-- ---- terms behind others
settled_same_by : (factor variable : Option ℕ) (sign : Bool) (cs : List ℤ) (k : ℤ) (was : Bool) (ds : List ℤ) (l : ℤ) → settled false (pending cs k was factor variable) ≡ pending ds l false None None → settled sign (pending cs k was factor variable) ≡ pending ds l sign None None
settled_same_by None None sign cs k was ds l e = ap (λ (d : Drawn). pending d.coefficients d.constant sign None None) e
settled_same_by (Some n) None sign cs k was ds l e = ap (λ (d : Drawn). pending d.coefficients d.constant sign None None) e
settled_same_by None (Some v) sign cs k was ds l e = ap (λ (d : Drawn). pending d.coefficients d.constant sign None None) e
settled_same_by (Some n) (Some v) sign cs k was ds l e = ap (λ (d : Drawn). pending d.coefficients d.constant sign None None) e

settled_same : (d : Drawn) (sign : Bool) (ds : List ℤ) (l : ℤ) → settled false d ≡ pending ds l false None None → settled sign d ≡ pending ds l sign None None
settled_same d sign ds l e = settled_same_by d.factor d.variable sign d.coefficients d.constant d.is_negative ds l e

later_signs : (b : Bool) (t rest : List ℕ) (d : Drawn) → run drawn_with (later_part (b, t) ++ rest) d ≡ run drawn_with (t ++ rest) (settled b d)
later_signs true t rest d = refl
later_signs false t rest d = refl

one_later : (b : Bool) (t rest : List ℕ) (d : Drawn) (cs : List ℤ) (k : ℤ) → settled false d ≡ pending cs k false None None → run drawn_with (later_part (b, t) ++ rest) d ≡ run drawn_with rest (run drawn_with t (pending cs k b None None))
one_later b t rest d cs k e = later_signs b t rest d ∙ run-append drawn_with t rest (settled b d) ∙ ap (λ s. run drawn_with rest (run drawn_with t s)) (settled_same d b cs k e)

signed_is : (z : ℤ) → FitsSigned w128 z → signed (is_below_zero z) (unsigned_abs z) ≡ z
signed_is (pos n) fit = grind (arith, ints, nat_tests)
signed_is (negsuc n) fit = grind (arith, ints, nat_tests)

pub abs_small : (z : ℤ) → FitsSigned w128 z → unsigned_abs z < 2 ^ 128
abs_small (pos n) fit = omega (arith, ints, fit)
abs_small (negsuc n) fit = omega (arith, ints, fit)

-- the coefficients behind others
abbrev ends : List ℤ → ℕ → List ℤ → List ℤ
ends cs v [] = cs
ends cs v (c ∷ rest) = ends (if unsigned_abs c == 0 then cs else placed cs v c) (suc v) rest

abbrev last_constant : Bool → ℤ → ℤ → ℤ
last_constant b k was = if b then was else k

constant_run : (b : Bool) (k : ℤ) → (unsigned_abs k == 0) ≡ b → FitsSigned w128 k → (d : Drawn) (cs : List ℤ) (l : ℤ) → settled false d ≡ pending cs l false None None
    → settled false (run drawn_with (flat_map later_part (if b then [] else (is_below_zero k, decimal (unsigned_abs k)) ∷ [])) d) ≡ pending cs (last_constant b k l) false None None
constant_run true k x fit d cs l e = e
constant_run false k x fit d cs l e =
    ap (settled false) (one_later (is_below_zero k) (decimal (unsigned_abs k)) [] d cs l e ∙ factor_run cs l (is_below_zero k) (unsigned_abs k) (abs_small k fit)) ∙ ap (λ z. pending cs z false None None) (signed_is k fit)

abbrev Later : ℕ → List ℤ → ℤ → Type 0
Later v rest k =
    (d : Drawn) (cs : List ℤ) (l : ℤ) → settled false d ≡ pending cs l false None None
    → settled false (run drawn_with (flat_map later_part (parts_from v rest k)) d) ≡ pending (ends cs v rest) (last_constant (unsigned_abs k == 0) k l) false None None

coefficient_run : (b : Bool) (v : ℕ) (c : ℤ) (rest : List ℤ) (k : ℤ) → (unsigned_abs c == 0) ≡ b → FitsSigned w128 c → v < 2 ^ 128 → Later (suc v) rest k → (d : Drawn) (cs : List ℤ) (l : ℤ) → settled false d ≡ pending cs l false None None
    → settled false (run drawn_with (flat_map later_part (if b then parts_from (suc v) rest k else (is_below_zero c, times_text (unsigned_abs c) v) ∷ parts_from (suc v) rest k)) d) ≡ pending (ends (if b then cs else placed cs v c) (suc v) rest) (last_constant (unsigned_abs k == 0) k l) false None None
coefficient_run true v c rest k x hc n next d cs l e = next d cs l e
coefficient_run false v c rest k x hc n next d cs l e =
    ap (settled false) (one_later (is_below_zero c) (times_text (unsigned_abs c) v) (flat_map later_part (parts_from (suc v) rest k)) d cs l e)
    ∙ next (run drawn_with (times_text (unsigned_abs c) v) (pending cs l (is_below_zero c) None None)) (placed cs v c) l
    (times_run (unsigned_abs c) v (abs_small c hc) n cs l (is_below_zero c) ∙ ap (λ z. pending (placed cs v z) l false None None) (signed_is c hc))

later_run : (v : ℕ) (rest : List ℤ) (k : ℤ) → All (FitsSigned w128) rest → FitsSigned w128 k → v + length rest < 2 ^ 128 → Later v rest k
later_run v [] k hs hk n d cs l e = constant_run (unsigned_abs k == 0) k refl hk d cs l e
later_run v (c ∷ rest) k hs hk n d cs l e =
    coefficient_run (unsigned_abs c == 0) v c rest k refl (All-head (FitsSigned w128) c rest hs) (omega (arith, n)) (later_run (suc v) rest k (All-tail (FitsSigned w128) c rest hs) hk (omega (arith, n))) d cs l e

-- ---- what is behind others, with zeros between
abbrev full : List ℤ → ℕ → List ℤ
full cs v = cs ++ replicate (v - length cs) (pos 0)

placed_is : (cs : List ℤ) (v : ℕ) (c : ℤ) → length cs ≤ v → v + 1 < 2 ^ 32 → placed cs v c ≡ full cs v ++ c ∷ []
placed_is cs v c h g = grind (arith, nat_tests)

length_placed : (cs : List ℤ) (v : ℕ) (c : ℤ) → length cs ≤ v → v + 1 < 2 ^ 32 → length (placed cs v c) ≡ suc v
length_placed cs v c h g = ap length (placed_is cs v c h g) ∙ length-append (full cs v) (c ∷ []) ∙ ap (λ n. n + 1) (length-append cs (replicate (v - length cs) (pos 0)) ∙ ap (λ n. length cs + n) (length-replicate (v - length cs) (pos 0))) ∙ omega (arith, h)

one_zero : (cs : List ℤ) (v : ℕ) → length cs ≤ v → full cs (suc v) ≡ full cs v ++ pos 0 ∷ []
one_zero cs v h =
    let more : suc v - length cs ≡ (v - length cs) + 1 = omega (arith, h) in
    ap (λ n. cs ++ replicate n (pos 0)) more ∙ ap (λ zs. cs ++ zs) (sym (replicate_more (v - length cs) (pos 0))) ∙ sym (append_assoc cs (replicate (v - length cs) (pos 0)) (pos 0 ∷ []))

zero_is : (z : ℤ) → unsigned_abs z ≡ 0 → pos 0 ≡ z
zero_is (pos m) e = ap pos (sym e)
zero_is (negsuc m) e = absurd (omega (arith, e))

full_again : (cs : List ℤ) (v : ℕ) → length cs ≡ v → full cs v ≡ cs
full_again cs v e =
    let none : v - length cs ≡ 0 = omega (arith, e) in
    ap (λ n. cs ++ replicate n (pos 0)) none ∙ append-nil cs

last_is : (b : Bool) (cs : List ℤ) (v : ℕ) (c : ℤ) → (unsigned_abs c == 0) ≡ b → (unsigned_abs c ≡ 0 → ⊥) → length cs ≤ v → v + 1 < 2 ^ 32 → (if b then cs else placed cs v c) ≡ full cs v ++ c ∷ []
last_is true cs v c e u h g = absurd (u (eqb-true (unsigned_abs c) 0 e))
last_is false cs v c e u h g = placed_is cs v c h g

ends_by : (b : Bool) (cs : List ℤ) (v : ℕ) (c : ℤ) (rest : List ℤ) → (unsigned_abs c == 0) ≡ b → length cs ≤ v → v + 1 < 2 ^ 32 → ((ds : List ℤ) → length ds ≤ suc v → ends ds (suc v) rest ≡ full ds (suc v) ++ rest) → ends (if b then cs else placed cs v c) (suc v) rest ≡ full cs v ++ c ∷ rest
ends_by true cs v c rest e h g next =
    next cs (omega (arith, h)) ∙ ap (λ xs. xs ++ rest) (one_zero cs v h) ∙ append_assoc (full cs v) (pos 0 ∷ []) rest ∙ ap (λ z. full cs v ++ z ∷ rest) (zero_is c (eqb-true (unsigned_abs c) 0 e))
ends_by false cs v c rest e h g next =
    let long = length_placed cs v c h g in
    next (placed cs v c) (omega (arith, long)) ∙ ap (λ xs. xs ++ rest) (full_again (placed cs v c) (suc v) long ∙ placed_is cs v c h g) ∙ append_assoc (full cs v) (c ∷ []) rest

ends_are : (cs : List ℤ) (v : ℕ) (c : ℤ) (rest : List ℤ) → length cs ≤ v → v + suc (length rest) < 2 ^ 32 → EndsUsed (c ∷ rest) → ends cs v (c ∷ rest) ≡ full cs v ++ c ∷ rest
ends_are cs v c [] h g u = last_is (unsigned_abs c == 0) cs v c refl u h (omega (arith, g))
ends_are cs v c (d ∷ rest) h g u = ends_by (unsigned_abs c == 0) cs v c (d ∷ rest) refl h (omega (arith, g)) (λ ds long. ends_are ds (suc v) d rest long (omega (arith, g)) u)

whole_is : (cs : List ℤ) → length cs < 2 ^ 32 → EndsUsed cs → ends [] 0 cs ≡ cs
whole_is [] h u = refl
whole_is (c ∷ rest) h u = ends_are [] 0 c rest (omega arith) (omega (arith, h)) u

constant_is : (b : Bool) (k : ℤ) → (unsigned_abs k == 0) ≡ b → last_constant b k (pos 0) ≡ k
constant_is true k e = zero_is k (eqb-true (unsigned_abs k) 0 e)
constant_is false k e = refl

-- ---- expressions
sum_run : (ps : List (Bool × List ℕ)) → settled false (run drawn_with (signed_sum ps) nothing_drawn) ≡ settled false (run drawn_with (flat_map later_part ps) nothing_drawn)
sum_run [] = refl
sum_run ((true, t) ∷ ps) = refl
sum_run ((false, t) ∷ ps) = refl

pub linear_run : (l : Linear) → All (FitsSigned w128) l.coefficients → FitsSigned w128 l.constant → length l.coefficients < 2 ^ 32 → EndsUsed l.coefficients
    → settled false (run drawn_with (linear_text l) nothing_drawn) ≡ pending l.coefficients l.constant false None None
linear_run l hs hk n u =
    sum_run (parts_from 0 l.coefficients l.constant) ∙ later_run 0 l.coefficients l.constant hs hk (omega (arith, n)) nothing_drawn [] (pos 0) refl
    ∙ ap (λ cs. pending cs (last_constant (unsigned_abs l.constant == 0) l.constant (pos 0)) false None None) (whole_is l.coefficients n u)
    ∙ ap (λ z. pending l.coefficients z false None None) (constant_is (unsigned_abs l.constant == 0) l.constant refl)
