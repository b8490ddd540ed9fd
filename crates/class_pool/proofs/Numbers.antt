-- Numbers of n bytes at a place: what is read is what stands there, both ways.
use Rattle.std.proofs.Common.{◌≡◌, ℕ, zero, suc, ◌+◌, ◌*◌, ◌/◌, ◌%◌, ◌^◌, ◌<◌, ◌≤◌, Bool, true, false, cond, List, [], ◌∷◌, ◌++◌, length, take, drop, Some, None, refl, sym, ap, ◌∙◌, arith, inl, inr, ltb}
use Rattle.std.proofs.Math.Arith.{digits_div, digits_mod}
use Rattle.std.proofs.Math.Nat.{mod-lt}
use Rattle.std.proofs.lemmas.Bool.{cases_lt, ltb-false, le-ltb}
use Rattle.std.proofs.lemmas.List.{append-nil, drop_at, take-append-drop, length-append, length-take, length-take-le, get_or-drop, get_or-take, get_or_past, nil_from_length}
use Rattle.std.specs.Int.{byte_at}
use Rattle.byteorder.specs.Endian.{big_from, big_number, big_bytes}
use Rattle.byteorder.specs.Numbers.{big_from-cons, big_from-take, big_from-lt, big_number-reads_back, length-bytes_high_first}
use Rattle.class_pool.specs.Place.{Place, after, number_at, IsBytes}

pub IsBytes-drop : (n : ℕ) (bytes : List ℕ) → IsBytes bytes → IsBytes (drop n bytes)
IsBytes-drop n bytes h i = rw get_or-drop (h (n + i))

pub IsBytes-take : (n : ℕ) (bytes : List ℕ) → IsBytes bytes → IsBytes (take n bytes)
IsBytes-take n bytes h i =
    elim (cases_lt i n) [
      | inl lt ↦ rw (get_or-take n bytes i 0 lt) (h i)
      | inr le ↦ rw (get_or_past (take n bytes) i 0 (omega (arith, length-take n bytes))) (omega arith)
    ]

-- what is left of bytes is bytes
pub IsBytes-rest : (bytes piece rest : List ℕ) → bytes ≡ piece ++ rest → IsBytes bytes → IsBytes rest
IsBytes-rest bytes piece rest parts h =
    let e : drop (length piece) bytes ≡ rest = ap (drop (length piece)) parts ∙ drop_at piece rest (length piece) refl in
    rw (← e) (IsBytes-drop (length piece) bytes h)

IsBytes-tail : (b : ℕ) (bytes : List ℕ) → IsBytes (b ∷ bytes) → IsBytes bytes
IsBytes-tail b bytes h i = h (suc i)

byte_at-lt : (i n : ℕ) → byte_at i n < 256
byte_at-lt zero n = mod-lt n (omega arith)
byte_at-lt (suc i) n = mod-lt (n / 256 ^ suc i) (omega arith)

pub big_bytes-fit : (n k : ℕ) → IsBytes (big_bytes n k)
big_bytes-fit zero k i = omega arith
big_bytes-fit (suc n) k zero = byte_at-lt n k
big_bytes-fit (suc n) k (suc i) = big_bytes-fit n k i

-- the two digits of a number
same_digits : (x y r s m : ℕ) → r < m → s < m → x * m + r ≡ y * m + s → (x ≡ y) × (r ≡ s)
same_digits x y r s m lr ls e =
    (sym (digits_div x lr) ∙ ap (λ (n : ℕ). n / m) e ∙ digits_div y ls, sym (digits_mod x lr) ∙ ap (λ (n : ℕ). n % m) e ∙ digits_mod y ls)

-- bytes that make one number are the same
big_from-injective : (n : ℕ) (xs ys : List ℕ) → length xs ≡ n → length ys ≡ n → IsBytes xs → IsBytes ys → big_from 0 n xs ≡ big_from 0 n ys → xs ≡ ys
big_from-injective zero xs ys lx ly fx fy e = nil_from_length xs lx ∙ sym (nil_from_length ys ly)
big_from-injective (suc n) [] ys lx ly fx fy e = absurd (omega (arith, lx))
big_from-injective (suc n) (x ∷ xs) [] lx ly fx fy e = absurd (omega (arith, ly))
big_from-injective (suc n) (x ∷ xs) (y ∷ ys) lx ly fx fy e =
    let moved : x * 256 ^ n + big_from 0 n xs ≡ y * 256 ^ n + big_from 0 n ys =
    ap (λ (r : ℕ). x * 256 ^ n + r) (sym (big_from-cons 0 n x xs)) ∙ e ∙ ap (λ (r : ℕ). y * 256 ^ n + r) (big_from-cons 0 n y ys) in
    let both = same_digits x y (big_from 0 n xs) (big_from 0 n ys) (256 ^ n) (big_from-lt 0 n xs (IsBytes-tail x xs fx)) (big_from-lt 0 n ys (IsBytes-tail y ys fy)) moved in
    let others = big_from-injective n xs ys (omega (arith, lx)) (omega (arith, ly)) (IsBytes-tail x xs fx) (IsBytes-tail y ys fy) both.1 in
    rw (both.0, others) refl

-- the bytes of the number that stands in the first n bytes
pub big_bytes-number : (n : ℕ) (xs : List ℕ) → n ≤ length xs → IsBytes xs → big_bytes n (big_number n xs) ≡ take n xs
big_bytes-number n xs long fits =
    let k : ℕ = big_number n xs in
    let lt : k < 256 ^ n = big_from-lt 0 n xs fits in
    let nothing : big_bytes n k ++ [] ≡ big_bytes n k = append-nil (big_bytes n k) in
    let back : big_from 0 n (big_bytes n k) ≡ k = ap (big_from 0 n) (sym nothing) ∙ big_number-reads_back n k [] lt in
    let front : big_from 0 n (take n xs) ≡ k = big_from-take 0 n n xs (omega arith) in
    big_from-injective n (big_bytes n k) (take n xs) (length-bytes_high_first n k) (length-take-le n xs long) (big_bytes-fit n k) (IsBytes-take n xs fits) (back ∙ sym front)

guard_some : {A : Type 0} (b : Bool) (x y : A) → cond b None (Some x) ≡ Some y → (b ≡ false) × (x ≡ y)
guard_some true x y e = absurd cc
guard_some false x y e = (refl, cc)

-- a number that is read stands there
pub number_takes : (n : ℕ) (place : Place) (k : ℕ) → IsBytes place.rest → number_at n place ≡ Some k → (place.rest ≡ big_bytes n k ++ drop n place.rest) × (k < 256 ^ n) × (n ≤ length place.rest)
number_takes n place k fits e =
    let g = guard_some (ltb (length place.rest) n) (big_number n place.rest) k e in
    let long : n ≤ length place.rest = ltb-false _ _ g.0 in
    let same : big_bytes n k ≡ take n place.rest = ap (big_bytes n) (sym g.1) ∙ big_bytes-number n place.rest long fits in
    (rw same (sym (take-append-drop n place.rest)), rw (← g.1) (big_from-lt 0 n place.rest fits), long)

-- a number that stands there is read
pub number_again : (n : ℕ) (place : Place) (k : ℕ) (rest : List ℕ) → k < 256 ^ n → place.rest ≡ big_bytes n k ++ rest → (number_at n place ≡ Some k) × (after n place ≡ record { at = place.at + n; rest = rest })
number_again n place k rest lt parts =
    let len : length (big_bytes n k) ≡ n = length-bytes_high_first n k in
    let long : ltb (length (big_bytes n k ++ rest)) n ≡ false = le-ltb _ _ (omega (arith, length-append (big_bytes n k) rest)) in
    (rw (parts, long, big_number-reads_back n k rest lt) refl, rw (parts, drop_at (big_bytes n k) rest n len) refl)
