-- Bytes taken one by one, and numbers made of digits.
use Rattle.std.specs.Prelude.{ℕ, ◌+◌, ◌-◌, ◌*◌, ◌^◌, ◌==◌, ◌&&◌, nat_le, nat_lt, Bool, Option, Some, None, List, [], ◌∷◌, if◌then◌else◌}

-- what a state becomes by several bytes
abbrev pub run : {S : Type 0} → (ℕ → S → S) → List ℕ → S → S
run f [] s = s
run f (x ∷ xs) s = run f xs (f x s)

abbrev pub is_digit : ℕ → Bool
is_digit byte = nat_le 48 byte && nat_le byte 57

-- a number with one digit more, the greatest number of the machine where it doesn't hold it
abbrev pub digit_onto : ℕ → ℕ → ℕ
digit_onto n byte = if nat_lt (n * 10 + (byte - 48)) (2 ^ 128) then n * 10 + (byte - 48) else 2 ^ 128 - 1

-- a number that is left out
abbrev pub number_or : ℕ → Option ℕ → ℕ
number_or n None = n
number_or n (Some k) = k

abbrev pub at_least_one : ℕ → ℕ
at_least_one n = if n == 0 then 1 else n
