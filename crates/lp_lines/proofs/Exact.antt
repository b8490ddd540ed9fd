-- The numbers of a pivot are the rationals that are meant.
use Rattle.std.specs.Prelude.{◌≡◌, ℕ, suc, ◌*◌, Bool, true, false, if◌then◌else◌, ℤ, pos, ◌*ℤ◌, Option, Some, None, Result, Ok, Err}
use Rattle.std.specs.Option.{ok_or}
use Rattle.std.specs.Ordering.{int_eq}
use Rattle.std.proofs.Common.{arith, refl, ap, ◌∙◌, subst}
use Rattle.std.proofs.lemmas.Bool.Decides.{Decides-int_eq}
use Rattle.q128.specs.Fraction.{Fraction, whole, IsSame, plus, negative, times}
use Rattle.q128.specs.Rule.{sub_rule, mul_rule, div_rule}
use Rattle.q128.specs.declared.q.TooWide.{TooWide}
use Rattle.q128.proofs.Exact.{sub-exact, mul-exact, div-exact}
use Rattle.q128.proofs.Ordered.{minus_is}
use Rattle.fraction_laws.proofs.Same.{Same, same, back, ◌∘◌, sums, products, negatives, associate, swap, opposed, no_more, none_more, of_none, by_none, negative_left}
use Rattle.lp_lines.specs.inside.Lines.{◌>>=◌, divided, lessened, multiplied, solved_number, rest_number}

pub given : (o : Option Fraction) (e : TooWide) (y : Fraction) → ok_or o e ≡ Ok y → o ≡ Some y
given (Some x) e y h = cc
given None e y h = absurd (cc)

-- a first step, and what follows it
pub bound : {A B : Type 0} (r : Result A TooWide) (f : A → Result B TooWide) (y : B) → (r >>= f) ≡ Ok y → (x : A) × (r ≡ Ok x) × (f x ≡ Ok y)
bound (Ok x) f y h = (x, refl, h)
bound (Err e) f y h = absurd (cc)

pub quotient_is : (x y z : Fraction) → divided x y ≡ Ok z → Same (times z y) x
quotient_is x y z h = record { is = div-exact x y z (given (div_rule x y) _ z h) }

difference_is : (x y z : Fraction) → lessened x y ≡ Ok z → Same z (plus x (negative y))
difference_is x y z h = record { is = subst (IsSame z) (minus_is x y) (sub-exact x y z (given (sub_rule x y) _ z h)) }

product_is : (x y z : Fraction) → multiplied x y ≡ Ok z → Same z (times x y)
product_is x y z h = record { is = mul-exact x y z (given (mul_rule x y) _ z h) }

-- ---- the line that is solved: y k = -q
solved_steps : (k q y : Fraction) (b : Bool) → ((if b then Ok q else (divided q k >>= lessened (whole (pos 0)))) ≡ Ok y) → (b ≡ true → Same q (whole (pos 0))) → Same (times y k) (negative q)
solved_steps k q y true h none =
    let is : q ≡ y = cc in
    let zero = none refl in
    subst (λ z. Same (times z k) (negative q)) is (products zero same ∘ of_none k ∘ back (negatives zero))
solved_steps k q y false h none =
    let steps = bound (divided q k) (lessened (whole (pos 0))) y h in
    let opposite : Same y (negative steps.0) = difference_is (whole (pos 0)) steps.0 y steps.2 ∘ none_more (negative steps.0) in
    products opposite same ∘ negative_left steps.0 k ∘ negatives (quotient_is q k steps.0 steps.1)

-- ---- another line: y + s q = own
rest_steps : (s own q y : Fraction) (b : Bool) → ((if b then Ok own else (multiplied s q >>= lessened own)) ≡ Ok y) → (b ≡ true → Same q (whole (pos 0))) → Same (plus y (times s q)) own
rest_steps s own q y true h none =
    let is : own ≡ y = cc in
    subst (λ z. Same (plus z (times s q)) own) is (sums same (products same (none refl) ∘ by_none s) ∘ no_more own)
rest_steps s own q y false h none =
    let steps = bound (multiplied s q) (lessened own) y h in
    let p = steps.0 in
    let less : Same y (plus own (negative p)) = difference_is own p y steps.2 in
    sums less (back (product_is s q p steps.1)) ∘ associate own (negative p) p ∘ sums same (swap (negative p) p ∘ opposed p) ∘ no_more own

none_same : (q : Fraction) → int_eq q.num (pos 0) ≡ true → Same q (whole (pos 0))
none_same q e = record { is = ap (λ n. n *ℤ pos 1) (zero q.num e) ∙ none (q.den_less_one) }
  where
    zero : (z : ℤ) → int_eq z (pos 0) ≡ true → z ≡ pos 0
    zero z e = (Decides-int_eq z (pos 0)).0 e

    none : (d : ℕ) → pos 0 *ℤ pos 1 ≡ pos 0 *ℤ pos (suc d)
    none d = ap pos (is (suc d))
      where
        is : (d : ℕ) → 0 * 1 ≡ 0 * d
        is d = omega arith

pub solved_exact : (k q y : Fraction) → solved_number k q ≡ Ok y → Same (times y k) (negative q)
unfolding solved_number
solved_exact k q y h = solved_steps k q y (int_eq q.num (pos 0)) h (none_same q)

pub rest_exact : (s own q y : Fraction) → rest_number s own q ≡ Ok y → Same (plus y (times s q)) own
unfolding rest_number
rest_exact s own q y h = rest_steps s own q y (int_eq q.num (pos 0)) h (none_same q)
