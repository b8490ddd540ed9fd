-- What is left of numbers when multiples of 2^64 are taken away.
use Rattle.std.specs.Prelude.{◌≡◌, ℕ, ◌+◌, ◌-◌, ◌*◌, ◌/◌, ◌%◌, ◌<◌, ◌≤◌, ℤ, pos, negsuc, ◌+ℤ◌, ◌-ℤ◌, ◌*ℤ◌, neg_ℤ, List, length}
use Rattle.std.proofs.Common.{arith, refl, sym, ap, subst, drop}
use Rattle.std.proofs.lemmas.Int.{ints}
use Rattle.std.proofs.lemmas.List.{drop_all}
use Rattle.small_sums.specs.Keys.{base, digits, IsResidue}

pub low_residue : (n : ℕ) → IsResidue (pos n) (n % 18446744073709551616)
low_residue n = record { quotient = pos (n / 18446744073709551616); value = ap pos (omega arith); small = omega arith }

pub negative_residue : (n r : ℕ) → IsResidue (pos n) r → IsResidue (negsuc n) (18446744073709551615 - r)
negative_residue n r h =
    let v = h.value in
    let s = h.small in
    record { quotient = neg_ℤ h.quotient -ℤ pos 1; value = omega (arith, ints, v, s); small = omega arith }

pub digit_residue : (z y : ℤ) (d k r : ℕ) → IsResidue z d → IsResidue y k → IsResidue (pos (d + 11400714819323198485 * k)) r → IsResidue (z +ℤ base *ℤ y) r
digit_residue z y d k r a b c = record { quotient = a.quotient +ℤ (base *ℤ b.quotient +ℤ c.quotient); value = omega (arith, ints, a.value, b.value, c.value); small = c.small }

pub double_residue : (z : ℤ) (k r : ℕ) → IsResidue z k → IsResidue (pos (k + k)) r → IsResidue (pos 2 *ℤ z) r
double_residue z k r a c = record { quotient = pos 2 *ℤ a.quotient +ℤ c.quotient; value = omega (arith, ints, a.value, c.value); small = c.small }

apart : (a b : ℕ) (t : ℤ) → a < 18446744073709551616 → b < 18446744073709551616 → pos a ≡ pos b +ℤ pos 18446744073709551616 *ℤ t → a ≡ b
apart a b t h k e = omega (arith, ints, e)

pub residue_is_one : (z : ℤ) (a b : ℕ) → IsResidue z a → IsResidue z b → a ≡ b
residue_is_one z a b h k =
    let e : pos a ≡ pos b +ℤ pos 18446744073709551616 *ℤ (k.quotient -ℤ h.quotient) = omega (arith, ints, h.value, k.value) in
    apart a b (k.quotient -ℤ h.quotient) (omega (arith, h.small)) (omega (arith, k.small)) e

-- the residue of a part is what is left of the total's
pub rest_low : (z x y : ℤ) (t p r : ℕ) → IsResidue z t → IsResidue x p → IsResidue y r → z ≡ x +ℤ y → p ≤ t → r ≡ t - p
rest_low z x y t p r h k l e le =
    let f : pos r ≡ pos (t - p) +ℤ pos 18446744073709551616 *ℤ ((h.quotient -ℤ k.quotient) -ℤ l.quotient) = omega (arith, ints, e, h.value, k.value, l.value, le) in
    apart r (t - p) ((h.quotient -ℤ k.quotient) -ℤ l.quotient) (omega (arith, l.small)) (omega (arith, h.small)) f

pub rest_high : (z x y : ℤ) (t p r : ℕ) → IsResidue z t → IsResidue x p → IsResidue y r → z ≡ x +ℤ y → t < p → r ≡ 18446744073709551615 - p + t + 1
rest_high z x y t p r h k l e lt =
    let s : p < 18446744073709551616 = omega (arith, k.small) in
    let f : pos r ≡ pos (18446744073709551615 - p + t + 1) +ℤ pos 18446744073709551616 *ℤ (((h.quotient -ℤ k.quotient) -ℤ l.quotient) -ℤ pos 1) = omega (arith, ints, e, h.value, k.value, l.value, s, lt) in
    apart r (18446744073709551615 - p + t + 1) (((h.quotient -ℤ k.quotient) -ℤ l.quotient) -ℤ pos 1) (omega (arith, l.small)) (omega (arith, s, lt)) f

pub opposite_residue : (z : ℤ) (n r : ℕ) → IsResidue (pos n) r → z +ℤ pos n ≡ negsuc 0 → IsResidue z (18446744073709551615 - r)
opposite_residue z n r h e =
    let v = h.value in
    let s = h.small in
    record { quotient = neg_ℤ h.quotient -ℤ pos 1; value = omega (arith, ints, v, s, e); small = omega arith }

pub zero_residue : IsResidue (pos 0) 0
zero_residue = record { quotient = pos 0; value = refl; small = omega arith }

pub no_digits : (cs : List ℤ) (i : ℕ) → length cs ≤ i → IsResidue (digits (drop i cs)) 0
no_digits cs i h = subst (λ (l : List ℤ). IsResidue (digits l) 0) (sym (drop_all i cs h)) zero_residue
