-- The numbers that a line's steps make, and where one is too wide.
use Rattle.std.specs.Prelude.{◌≡◌, suc, Bool, true, false, if◌then◌else◌, ℤ, pos, unsigned_abs, Option, Some, None, Result, Ok, Err}
use Rattle.std.specs.Option.{ok_or}
use Rattle.std.specs.Ordering.{int_eq}
use Rattle.std.specs.Int.{◌∣◌}
use Rattle.std.proofs.Common.{arith, refl, sym, ap, ◌∙◌, subst}
use Rattle.std.proofs.lemmas.Bool.Decides.{Decides-int_eq}
use Rattle.std.proofs.lemmas.Nat.Gcd.{dvd-zero}
use Rattle.std.proofs.Math.Nat.{dvd_refl}
use Rattle.q128.specs.Fraction.{Fraction, whole}
use Rattle.q128.specs.Rule.{sub_rule, mul_rule, div_rule, inverse_rule}
use Rattle.q128.specs.declared.q.TooWide.{TooWide}
use Rattle.q128.specs.declared.q.QOp.TheVariants.{Sub, Mul, Div}
use Rattle.q128.proofs.Steps.{bind-some}
use Rattle.lp_lines.specs.Numbers.{IsNumber}
use Rattle.lp_lines.specs.inside.Lines.{◌>>=◌, divided, lessened, multiplied, solved_number, rest_number}
use Rattle.lp_lines.proofs.Exact.{given, bound}
use Rattle.lp_lines.proofs.Fitting.{difference_number, quotient_number, product_number}
use Rattle.lp_lines.proofs.Zeros.{times_none, none_over_it, less_none}

-- a 0 is the 0
pub is_zero : (q : Fraction) → IsNumber q → q.num ≡ pos 0 → q ≡ whole (pos 0)
is_zero q n e =
    let one : suc q.den_less_one ≡ 1 = n.parts.lowest (suc q.den_less_one) (subst (λ (z : ℤ). suc q.den_less_one ∣ unsigned_abs z) (sym e) (dvd-zero (suc q.den_less_one))) (dvd_refl (suc q.den_less_one)) in
    let none : q.den_less_one ≡ 0 = omega arith in
    ap (λ z. record { num = z; den_less_one = q.den_less_one }) e ∙ ap (λ m. record { num = pos 0; den_less_one = m }) none

pub reads_zero : (q : Fraction) → int_eq q.num (pos 0) ≡ true → q.num ≡ pos 0
reads_zero q e = (Decides-int_eq q.num (pos 0)).0 e

-- ---- an operation that is too wide
pub record Fails (o : Option Fraction) (w e : TooWide) : Type 0 where
  pub none : o ≡ None
  pub is : e ≡ w

pub failed : (o : Option Fraction) (w e : TooWide) → ok_or o w ≡ Err e → Fails o w e
failed (Some x) w e h = absurd (cc)
failed None w e h = record { none = refl; is = cc }

pub data Broken {A B : Type 0} (r : Result A TooWide) (f : A → Result B TooWide) (e : TooWide) : Type 0 where
  at_first : r ≡ Err e → Broken r f e
  at_second : (x : A) → r ≡ Ok x → f x ≡ Err e → Broken r f e

pub broken : {A B : Type 0} (r : Result A TooWide) (f : A → Result B TooWide) (e : TooWide) → (r >>= f) ≡ Err e → Broken r f e
broken (Ok x) f e h = at_second x refl h
broken (Err w) f e h = at_first (cc)

-- ---- the line that is solved
-- no step of 0 - q/k is too wide
pub record NarrowSolved (k q y : Fraction) : Type 0 where
  pub share : Fraction
  pub quotient : div_rule q k ≡ Some share
  pub opposite : sub_rule (whole (pos 0)) share ≡ Some y

solved_steps : (k q y : Fraction) (b : Bool) → int_eq q.num (pos 0) ≡ b → IsNumber q → (h : Fraction) → inverse_rule k ≡ Some h → ((if b then Ok q else (divided q k >>= lessened (whole (pos 0)))) ≡ Ok y) → NarrowSolved k q y
solved_steps k q y true test n h inverse made =
    let zero = is_zero q n (reads_zero q test) in
    let is : q ≡ y = cc in
    record {
      share = whole (pos 0);
      quotient = ap (λ z. div_rule z k) zero ∙ none_over_it k h inverse;
      opposite = less_none (whole (pos 0)) (subst IsNumber zero n) ∙ ap (λ (z : Fraction). Some z) (sym zero ∙ is);
    }
solved_steps k q y false test n h inverse made =
    let steps = bound (divided q k) (lessened (whole (pos 0))) y made in
    record {
      share = steps.0;
      quotient = given (div_rule q k) _ steps.0 steps.1;
      opposite = given (sub_rule (whole (pos 0)) steps.0) _ y steps.2;
    }

pub solved_narrow : (k q y : Fraction) → IsNumber q → (h : Fraction) → inverse_rule k ≡ Some h → solved_number k q ≡ Ok y → NarrowSolved k q y
unfolding solved_number
solved_narrow k q y n h inverse made = solved_steps k q y (int_eq q.num (pos 0)) refl n h inverse made

pub divided_is : (x y z : Fraction) → divided x y ≡ Ok z → div_rule x y ≡ Some z
divided_is x y z h = given (div_rule x y) _ z h

pub inverse_of : (x k z : Fraction) → divided x k ≡ Ok z → (h : Fraction) × (inverse_rule k ≡ Some h)
unfolding div_rule
inverse_of x k z e = let b = bind-some (inverse_rule k) (mul_rule x) z (given (div_rule x k) _ z e) in (b.x, b.was)

-- ---- another line
pub record NarrowRest (s own q y : Fraction) : Type 0 where
  pub product : Fraction
  pub times : mul_rule s q ≡ Some product
  pub less : sub_rule own product ≡ Some y

rest_steps : (s own q y : Fraction) (b : Bool) → int_eq q.num (pos 0) ≡ b → IsNumber own → IsNumber q → ((if b then Ok own else (multiplied s q >>= lessened own)) ≡ Ok y) → NarrowRest s own q y
rest_steps s own q y true test m n made =
    let zero = is_zero q n (reads_zero q test) in
    let is : own ≡ y = cc in
    record {
      product = whole (pos 0);
      times = ap (mul_rule s) zero ∙ times_none s;
      less = less_none own m ∙ ap (λ (z : Fraction). Some z) is;
    }
rest_steps s own q y false test m n made =
    let steps = bound (multiplied s q) (lessened own) y made in
    record {
      product = steps.0;
      times = given (mul_rule s q) _ steps.0 steps.1;
      less = given (sub_rule own steps.0) _ y steps.2;
    }

pub rest_narrow : (s own q y : Fraction) → IsNumber own → IsNumber q → rest_number s own q ≡ Ok y → NarrowRest s own q y
unfolding rest_number
rest_narrow s own q y m n made = rest_steps s own q y (int_eq q.num (pos 0)) refl m n made

-- ---- what is made keeps to 128 bits
pub divided_number : (x y z : Fraction) → IsNumber x → IsNumber y → divided x y ≡ Ok z → IsNumber z
divided_number x y z nx ny e = quotient_number x y z nx ny (divided_is x y z e)

pub solved_keeps : (k q y : Fraction) → IsNumber k → IsNumber q → IsNumber (whole (pos 0)) → NarrowSolved k q y → IsNumber y
solved_keeps k q y nk nq none s = difference_number (whole (pos 0)) s.share y none (quotient_number q k s.share nq nk s.quotient) s.opposite

pub rest_keeps : (s own q y : Fraction) → IsNumber s → IsNumber own → IsNumber q → NarrowRest s own q y → IsNumber y
rest_keeps s own q y ns nown nq r = difference_number own r.product y nown (product_number s q r.product ns nq r.times) r.less

-- ---- where a step is too wide
pub data WideSolved (k q : Fraction) (e : TooWide) : Type 0 where
  at_quotient : Fails (div_rule q k) (record { a = q; b = k; op = Div }) e → WideSolved k q e
  at_opposite : (p : Fraction) → div_rule q k ≡ Some p → Fails (sub_rule (whole (pos 0)) p) (record { a = whole (pos 0); b = p; op = Sub }) e → WideSolved k q e

solving_steps : (k q : Fraction) (e : TooWide) (b : Bool) → ((if b then Ok q else (divided q k >>= lessened (whole (pos 0)))) ≡ Err e) → WideSolved k q e
solving_steps k q e true h = absurd (cc)
solving_steps k q e false h = elim (broken (divided q k) (lessened (whole (pos 0))) e h) [
  | at_first f ↦ at_quotient (failed (div_rule q k) (record { a = q; b = k; op = Div }) e f)
  | at_second p is f ↦ at_opposite p (given (div_rule q k) _ p is) (failed (sub_rule (whole (pos 0)) p) (record { a = whole (pos 0); b = p; op = Sub }) e f)
]

pub solving_wide : (k q : Fraction) (e : TooWide) → solved_number k q ≡ Err e → WideSolved k q e
unfolding solved_number
solving_wide k q e h = solving_steps k q e (int_eq q.num (pos 0)) h

pub data WideRest (s own q : Fraction) (e : TooWide) : Type 0 where
  at_product : Fails (mul_rule s q) (record { a = s; b = q; op = Mul }) e → WideRest s own q e
  at_rest : (p : Fraction) → mul_rule s q ≡ Some p → Fails (sub_rule own p) (record { a = own; b = p; op = Sub }) e → WideRest s own q e

putting_steps : (s own q : Fraction) (e : TooWide) (b : Bool) → ((if b then Ok own else (multiplied s q >>= lessened own)) ≡ Err e) → WideRest s own q e
putting_steps s own q e true h = absurd (cc)
putting_steps s own q e false h = elim (broken (multiplied s q) (lessened own) e h) [
  | at_first f ↦ at_product (failed (mul_rule s q) (record { a = s; b = q; op = Mul }) e f)
  | at_second p is f ↦ at_rest p (given (mul_rule s q) _ p is) (failed (sub_rule own p) (record { a = own; b = p; op = Sub }) e f)
]

pub putting_wide : (s own q : Fraction) (e : TooWide) → rest_number s own q ≡ Err e → WideRest s own q e
unfolding rest_number
putting_wide s own q e h = putting_steps s own q e (int_eq q.num (pos 0)) h
