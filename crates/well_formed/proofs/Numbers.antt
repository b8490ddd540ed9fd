-- Results of arithmetic lie in the range of their type.
use Rattle.std.proofs.Common.{◌≡◌, ℕ, suc, ◌-◌, ◌*◌, ◌/◌, ◌%◌, ◌^◌, ◌<◌, ◌≤◌, min, Bool, true, false, List, [], ◌∷◌, refl, ap, arith, IsTrue, ℤ, pos, negsuc, nat_lt, ◌-ℤ◌}
use Rattle.std.specs.Prelude.{int_lt, if◌then◌else◌, ◌==◌, FitsSigned}
use Rattle.std.specs.Int.{int_rem_euclid, int_signum, int_shr, cast_signed}
use Rattle.std.specs.Int.Signed.{shr_z}
use mir.Val.{sel}
use Rattle.std.proofs.Math.Nat.{mod-eq_of_lt, mod-lt, div-le_self}
use Rattle.std.proofs.lemmas.Bool.{lt-ltb, ltb-true, ltb-false, le-ltb}
use Rattle.std.proofs.lemmas.Int.{SFits-int_wrap, ints}
use Rattle.op_table.specs.declared.acts.Width.{Width}
use Rattle.op_table.specs.declared.acts.Width.TheVariants as widths
use Rattle.op_table.specs.declared.acts.Small.{Small}
use Rattle.op_table.specs.declared.acts.Small.TheVariants.{Byte, Char, Short}
use Rattle.op_table.specs.declared.acts.Shift.{Shift}
use Rattle.op_table.specs.declared.acts.Shift.TheVariants.{Left, Right, UnsignedRight}
use Rattle.op_table.specs.declared.acts.Logic.{Logic}
use Rattle.op_table.specs.declared.acts.Logic.TheVariants.{And, Or, Xor}
use Rattle.frames.specs.declared.value.Value.TheVariants.{Int}
use Rattle.word_steps.specs.Numbers.{bits_of, wrapped, is_within, fits, shifted, combined, narrowed, compared}
use Rattle.word_steps.specs.Narrowing.{narrowed_int, left_in, narrowed_to}
use Rattle.entries.specs.Entry.{IsInRange}

-- a function leaves numbers in the range of an int, and leaves what it left
abbrev pub Keeps : (ℤ → ℤ) → Type 0
Keeps f = (z : ℤ) → IsTrue (fits widths.Int z) → IsTrue (fits widths.Int (f z)) × (f (f z) ≡ f z)

-- ---- ranges

signed_fits : (w : Width) (z : ℤ) → FitsSigned (bits_of w) z → IsTrue (fits w z)
signed_fits widths.Int (pos n) f = lt-ltb n (2 ^ 31) f.sfits
signed_fits widths.Int (negsuc n) f = lt-ltb n (2 ^ 31) f.sfits
signed_fits widths.Long (pos n) f = lt-ltb n (2 ^ 63) f.sfits
signed_fits widths.Long (negsuc n) f = lt-ltb n (2 ^ 63) f.sfits

pub wrapped_fits : (w : Width) (z : ℤ) → IsTrue (fits w (wrapped w z))
wrapped_fits w z = signed_fits w (wrapped w z) (SFits-int_wrap (bits_of w) z)

cast_if : (half whole n : ℕ) (low : Bool) → 0 < half → whole ≡ 2 * half → nat_lt n half ≡ low → IsTrue (is_within half (sel low (pos n) (negsuc (whole - suc n))))
cast_if half whole n true some twice is = is
cast_if half whole n false some twice is =
    let past : half ≤ n = ltb-false n half is in
    lt-ltb (whole - suc n) half (omega arith)

-- what is read as signed lies in the range, however great the number is
pub cast_fits : (w : Width) (n : ℕ) → IsTrue (fits w (cast_signed (bits_of w) n))
cast_fits widths.Int n = cast_if (2 ^ 31) (2 ^ 32) n (nat_lt n (2 ^ 31)) (omega arith) refl refl
cast_fits widths.Long n = cast_if (2 ^ 63) (2 ^ 64) n (nat_lt n (2 ^ 63)) (omega arith) refl refl

within_shr : (limit : ℕ) (z : ℤ) (m : ℕ) → IsTrue (is_within limit z) → IsTrue (is_within limit (shr_z z m))
within_shr limit (pos n) m is =
    let low : n < limit = ltb-true n limit is in
    let less : n / m ≤ n = div-le_self n m in
    lt-ltb (n / m) limit (omega arith)
within_shr limit (negsuc n) m is =
    let low : n < limit = ltb-true n limit is in
    let less : n / m ≤ n = div-le_self n m in
    lt-ltb (n / m) limit (omega arith)

shr_fits : (w : Width) (x : ℤ) (k : ℕ) → IsTrue (fits w x) → IsTrue (fits w (int_shr x k))
shr_fits widths.Int x k is = within_shr (2 ^ 31) x (2 ^ k) is
shr_fits widths.Long x k is = within_shr (2 ^ 63) x (2 ^ k) is

pub shifted_fits : (s : Shift) (w : Width) (x : ℤ) (k : ℕ) → IsTrue (fits w x) → IsTrue (fits w (shifted s w x k))
shifted_fits Left w x k is = cast_fits w _
shifted_fits Right w x k is = shr_fits w x k is
shifted_fits UnsignedRight w x k is = cast_fits w _

pub combined_fits : (l : Logic) (w : Width) (x y : ℤ) → IsTrue (fits w (combined l w x y))
combined_fits And w x y = cast_fits w _
combined_fits Or w x y = cast_fits w _
combined_fits Xor w x y = cast_fits w _

sign_fits : (z : ℤ) → IsTrue (fits widths.Int (int_signum z))
sign_fits (pos n) = lt-ltb (min n 1) (2 ^ 31) (omega arith)
sign_fits (negsuc n) = refl

pub compared_fits : (x y : ℤ) → IsTrue (fits widths.Int (compared x y))
compared_fits x y = sign_fits (x -ℤ y)

within_more : (few many : ℕ) (z : ℤ) → few ≤ many → IsTrue (is_within few z) → IsTrue (is_within many z)
within_more few many (pos n) le is = let low : n < few = ltb-true n few is in lt-ltb n many (omega arith)
within_more few many (negsuc n) le is = let low : n < few = ltb-true n few is in lt-ltb n many (omega arith)

-- ---- what is left of a number

record Rest (n : ℕ) (z : ℤ) : Type 0 where
  rest : ℕ
  small : rest < n
  is : int_rem_euclid z (pos n) ≡ pos rest

rest_of : (n : ℕ) (z : ℤ) → 0 < n → Rest n z
rest_of n (pos a) some = record { rest = a % n; small = mod-lt a some; is = refl }
rest_of n (negsuc a) some = record { rest = n - 1 - a % n; small = omega arith; is = refl }

-- the rest r of a number, with the upper half of the rests below 0
pub halved_within : (half whole r : ℕ) (low : Bool) → whole ≡ 2 * half → r < whole → nat_lt r half ≡ low → IsTrue (is_within half (if low then pos r else pos r -ℤ pos whole))
halved_within half whole r true twice small is = is
halved_within half whole r false twice small is =
    let past : half ≤ r = ltb-false r half is in
    let below : pos r -ℤ pos whole ≡ negsuc (whole - suc r) = omega (arith, ints) in
    rw below (lt-ltb (whole - suc r) half (omega arith))

rest_again : (half whole : ℕ) (z : ℤ) → whole ≡ 2 * half → IsTrue (is_within half z) → (if int_lt (int_rem_euclid z (pos whole)) (pos half) then int_rem_euclid z (pos whole) else int_rem_euclid z (pos whole) -ℤ pos whole) ≡ z
rest_again half whole (pos n) twice is =
    let low : n < half = ltb-true n half is in
    let same : n % whole ≡ n = mod-eq_of_lt (let l : n < whole = omega arith in l) in
    rw (same, is) refl
rest_again half whole (negsuc n) twice is =
    let low : n < half = ltb-true n half is in
    let same : n % whole ≡ n = mod-eq_of_lt (let l : n < whole = omega arith in l) in
    let high : nat_lt (whole - 1 - n) half ≡ false = le-ltb (whole - 1 - n) half (omega arith) in
    let below : pos (whole - 1 - n) -ℤ pos whole ≡ negsuc n = omega (arith, ints) in
    rw (same, high) below

halved_fits : (half whole : ℕ) (z : ℤ) → whole ≡ 2 * half → 0 < whole → IsTrue (is_within half (if int_lt (int_rem_euclid z (pos whole)) (pos half) then int_rem_euclid z (pos whole) else int_rem_euclid z (pos whole) -ℤ pos whole))
halved_fits half whole z twice some =
    let r = rest_of whole z some in
    rw r.is (halved_within half whole r.rest (nat_lt r.rest half) twice r.small refl)

byte_keeps : Keeps (narrowed Byte)
byte_keeps z is =
    let small : IsTrue (is_within (2 ^ 7) (narrowed Byte z)) = halved_fits (2 ^ 7) (2 ^ 8) z refl (omega arith) in
    (within_more (2 ^ 7) (2 ^ 31) (narrowed Byte z) (omega arith) small, rest_again (2 ^ 7) (2 ^ 8) (narrowed Byte z) refl small)

short_keeps : Keeps (narrowed Short)
short_keeps z is =
    let small : IsTrue (is_within (2 ^ 15) (narrowed Short z)) = halved_fits (2 ^ 15) (2 ^ 16) z refl (omega arith) in
    (within_more (2 ^ 15) (2 ^ 31) (narrowed Short z) (omega arith) small, rest_again (2 ^ 15) (2 ^ 16) (narrowed Short z) refl small)

rest_keeps : (n : ℕ) → 0 < n → n ≤ 2 ^ 31 → Keeps (λ z. int_rem_euclid z (pos n))
rest_keeps n some few z is =
    let r = rest_of n z some in
    let same : r.rest % n ≡ r.rest = mod-eq_of_lt r.small in
    let low = r.small in
    rw r.is (lt-ltb r.rest (2 ^ 31) (omega arith), ap pos same)

pub narrowed_keeps : (s : Small) → Keeps (narrowed s)
narrowed_keeps Byte = byte_keeps
narrowed_keeps Char = rest_keeps (2 ^ 16) (omega arith) (omega arith)
narrowed_keeps Short = short_keeps

keeps_if : (b : Bool) (f g : ℤ → ℤ) → Keeps f → Keeps g → Keeps (λ z. if b then f z else g z)
keeps_if true f g one other = one
keeps_if false f g one other = other

letter_keeps : (b : ℕ) → Keeps (λ z. narrowed_int b z)
letter_keeps b =
    keeps_if (b == 66) (narrowed Byte) _ (narrowed_keeps Byte)
    (keeps_if (b == 67) (narrowed Char) _ (narrowed_keeps Char)
    (keeps_if (b == 83) (narrowed Short) _ (narrowed_keeps Short)
    (keeps_if (b == 90) (λ z. int_rem_euclid z (pos 2)) (λ z. z) (rest_keeps 2 (omega arith) (omega arith)) (λ z is. (is, refl)))))

pub left_keeps : (type : List ℕ) → Keeps (left_in type)
left_keeps [] z is = (is, refl)
left_keeps (b ∷ []) z is = letter_keeps b z is
left_keeps (b ∷ c ∷ others) z is = (is, refl)

-- ---- values

-- what a number is in a type lies in its range
pub narrowed_in_range : (type : List ℕ) (n : ℤ) → IsTrue (fits widths.Int n) → IsInRange type (narrowed_to type (Int n))
narrowed_in_range type n is =
    let keeps = left_keeps type n is in
    (keeps.0, ap Int keeps.1)

-- two's complement of numbers that have so many bits
pub twos_within : (half whole x : ℕ) → whole ≡ 2 * half → x < whole → IsTrue (is_within half (if nat_lt x half then pos x else pos x -ℤ pos whole))
twos_within half whole x twice small = halved_within half whole x (nat_lt x half) twice small refl

pub int_within : (few : ℕ) (z : ℤ) → few ≤ 2 ^ 31 → IsTrue (is_within few z) → IsTrue (fits widths.Int z)
int_within few z le is = within_more few (2 ^ 31) z le is

pub left_fits : (type : List ℕ) (n : ℤ) → IsTrue (fits widths.Int n) → IsTrue (fits widths.Int (left_in type n))
left_fits type n is = (left_keeps type n is).0
