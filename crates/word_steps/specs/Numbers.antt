-- Arithmetic on ints and longs (JVMS 2.11.3, 6.5).
use Rattle.std.specs.Prelude.{ℕ, ◌/◌, ◌%◌, ◌^◌, ◌==◌, not, nat_lt, Bool, false, ℤ, pos, negsuc, ◌+ℤ◌, ◌-ℤ◌, ◌*ℤ◌, int_div, int_rem, int_lt, if◌then◌else◌}
use Rattle.std.specs.Int.{w32, w64, int_wrap, int_rem_euclid, int_signum, int_shl, int_shr, int_bit_and, int_bit_or, int_bit_xor, cast_signed, cast_unsigned}
use Rattle.std.specs.Int as bits
use Rattle.op_table.specs.declared.acts.Width.{Width}
use Rattle.op_table.specs.declared.acts.Width.TheVariants as widths
use Rattle.op_table.specs.declared.acts.Small.{Small}
use Rattle.op_table.specs.declared.acts.Small.TheVariants.{Byte, Char, Short}
use Rattle.op_table.specs.declared.acts.Arithmetic.{Arithmetic}
use Rattle.op_table.specs.declared.acts.Arithmetic.TheVariants.{Add, Subtract, Multiply, Divide, Remainder}
use Rattle.op_table.specs.declared.acts.Shift.{Shift}
use Rattle.op_table.specs.declared.acts.Shift.TheVariants.{Left, Right, UnsignedRight}
use Rattle.op_table.specs.declared.acts.Logic.{Logic}
use Rattle.op_table.specs.declared.acts.Logic.TheVariants.{And, Or, Xor}

abbrev pub bits_of : Width → bits.Width
bits_of widths.Int = w32
bits_of widths.Long = w64

-- what is left of a number in the type
abbrev pub wrapped : Width → ℤ → ℤ
wrapped w z = int_wrap (bits_of w) z

-- whether a number n, or -(n + 1), has n below the limit
abbrev pub is_within : ℕ → ℤ → Bool
is_within limit (pos n) = nat_lt n limit
is_within limit (negsuc n) = nat_lt n limit

-- whether a number lies in the range of the type
abbrev pub fits : Width → ℤ → Bool
fits widths.Int z = is_within (2 ^ 31) z
fits widths.Long z = is_within (2 ^ 63) z

-- the exact result of an operation; a quotient is rounded towards 0
abbrev pub exact : Arithmetic → ℤ → ℤ → ℤ
exact Add x y = x +ℤ y
exact Subtract x y = x -ℤ y
exact Multiply x y = x *ℤ y
exact Divide x y = int_div x y
exact Remainder x y = int_rem x y

abbrev pub is_zero : ℤ → Bool
is_zero (pos n) = n == 0
is_zero (negsuc n) = false

-- a division by 0 throws
abbrev pub throws : Arithmetic → ℤ → Bool
throws Add y = false
throws Subtract y = false
throws Multiply y = false
throws Divide y = is_zero y
throws Remainder y = is_zero y

-- whether the exact result is told not to fit: the least number divided by -1 isn't told (JVMS 6.5.idiv)
abbrev pub wraps : Arithmetic → Width → ℤ → Bool
wraps Add w z = not (fits w z)
wraps Subtract w z = not (fits w z)
wraps Multiply w z = not (fits w z)
wraps Divide w z = false
wraps Remainder w z = false

-- by how many places a number is shifted: the low five bits of the int, or six for a long
abbrev pub distance : Width → ℤ → ℕ
distance widths.Int k = cast_unsigned w32 k % 32
distance widths.Long k = cast_unsigned w32 k % 64

abbrev pub shifted : Shift → Width → ℤ → ℕ → ℤ
shifted Left w x k = int_shl (bits_of w) x k
shifted Right w x k = int_shr x k
shifted UnsignedRight w x k = cast_signed (bits_of w) (cast_unsigned (bits_of w) x / 2 ^ k)

abbrev pub combined : Logic → Width → ℤ → ℤ → ℤ
combined And w x y = int_bit_and (bits_of w) x y
combined Or w x y = int_bit_or (bits_of w) x y
combined Xor w x y = int_bit_xor (bits_of w) x y

-- what is left of a number below a limit, where the upper half stands for numbers below 0
abbrev pub signed_below : ℤ → ℤ → ℤ
signed_below limit z = if int_lt (int_rem_euclid z limit) (int_div limit (pos 2)) then int_rem_euclid z limit else int_rem_euclid z limit -ℤ limit

-- what is left of a number in a byte, a char or a short: a char has no sign
abbrev pub narrowed : Small → ℤ → ℤ
narrowed Byte z = signed_below (pos (2 ^ 8)) z
narrowed Char z = int_rem_euclid z (pos (2 ^ 16))
narrowed Short z = signed_below (pos (2 ^ 16)) z

-- 1 where the first number is greater, -1 where it is less, and else 0 (JVMS 6.5.lcmp)
abbrev pub compared : ℤ → ℤ → ℤ
compared x y = int_signum (x -ℤ y)
