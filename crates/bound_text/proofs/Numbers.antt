-- Numbers that are read digit by digit.
use Rattle.std.proofs.Common.{ℕ, ◌≡◌, ◌<◌, ◌≤◌, ◌+◌, ◌-◌, ◌*◌, ◌^◌, true, List, [], ◌∷◌, ◌++◌, length, decimal, refl, ◌∙◌, sym, ap, arith}
use Rattle.std.proofs.lemmas.Bool.Decides.{nat_tests}
use Rattle.std.specs.Str.Parse.{AllDigits, digits_value_after}
use Rattle.std.specs.Char.{digit_value}
use Rattle.bound_normal.proofs.Digits.{all_digits, some_digit, value_is}
use Rattle.bound_text.specs.inside.Runs.{run, is_digit, digit_onto}

pub run-append : {S : Type 0} (f : ℕ → S → S) (xs ys : List ℕ) (s : S) → run f (xs ++ ys) s ≡ run f ys (run f xs s)
run-append f [] ys s = refl
run-append f (x ∷ xs) ys s = run-append f xs ys (f x s)

is_one : (c : ℕ) → digit_value c < 10 → is_digit c ≡ true
is_one c h = grind (arith, nat_tests)

digit_is : (c : ℕ) → digit_value c < 10 → digit_value c ≡ c - 48
digit_is c h = grind (arith, nat_tests)

onto_is : (n c : ℕ) → digit_value c < 10 → n * 10 + digit_value c < 2 ^ 128 → digit_onto n c ≡ n * 10 + digit_value c
onto_is n c h fits = let e = digit_is c h in grind (arith, nat_tests)

not_less : (n : ℕ) (ds : List ℕ) → n ≤ digits_value_after 10 n ds
not_less n [] = omega arith
not_less n (c ∷ cs) = omega (arith, not_less (n * 10 + digit_value c) cs)

-- what a digit does to a number that is read
abbrev pub Takes : {S : Type 0} → (ℕ → S → S) → (ℕ → S) → Type 0
Takes f set = (n c : ℕ) → is_digit c ≡ true → f c (set n) ≡ set (digit_onto n c)

digits_run : {S : Type 0} (f : ℕ → S → S) (set : ℕ → S) → Takes f set → (ds : List ℕ) (n : ℕ) → AllDigits 10 ds → digits_value_after 10 n ds < 2 ^ 128 → run f ds (set n) ≡ set (digits_value_after 10 n ds)
digits_run f set each [] n a h = refl
digits_run f set each (c ∷ cs) n a h =
    let fits : n * 10 + digit_value c < 2 ^ 128 = omega (arith, h, not_less (n * 10 + digit_value c) cs) in
    ap (run f cs) (each n c (is_one c a.0) ∙ ap set (onto_is n c a.0 fits)) ∙ digits_run f set each cs (n * 10 + digit_value c) a.1 h

from_start : {S : Type 0} (f : ℕ → S → S) (set : ℕ → S) (start : S) → Takes f set → ((c : ℕ) → is_digit c ≡ true → f c start ≡ set (digit_onto 0 c)) → (ds : List ℕ) → 0 < length ds → AllDigits 10 ds → run f ds start ≡ run f ds (set 0)
from_start f set start each first [] some a = absurd (omega (arith, some))
from_start f set start each first (c ∷ cs) some a = ap (run f cs) (first c (is_one c a.0) ∙ sym (each 0 c (is_one c a.0)))

-- a number's text makes it
pub number_run : {S : Type 0} (f : ℕ → S → S) (set : ℕ → S) (start : S) → Takes f set → ((c : ℕ) → is_digit c ≡ true → f c start ≡ set (digit_onto 0 c)) → (k : ℕ) → k < 2 ^ 128 → run f (decimal k) start ≡ set k
number_run f set start each first k h =
    from_start f set start each first (decimal k) (some_digit k h) (all_digits k h)
    ∙ digits_run f set each (decimal k) 0 (all_digits k h) (omega (arith, value_is k h, h))
    ∙ ap set (value_is k h)
