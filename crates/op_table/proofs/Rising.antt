-- The values of pairs that rise as far as they have been looked at.
use Rattle.std.proofs.Common.{◌≡◌, ℕ, zero, suc, ◌+◌, ◌-◌, ◌<◌, ◌≤◌, Bool, true, false, List, ◌&&◌, refl, arith, add-one, sub-one, ◌<ℤ◌, ◌≤ℤ◌, subst}
use Rattle.std.specs.Prelude.{int_lt}
use Rattle.std.proofs.lemmas.Int.{ints}
use Rattle.std.proofs.lemmas.Bool.{and_parts}
use Rattle.op_table.specs.Grammar.{are_rising, value_of}

one-more : (n : ℕ) (pairs : List ℕ) → are_rising (suc n) pairs ≡ true → value_of n pairs <ℤ value_of (suc n) pairs → are_rising (suc (suc n)) pairs ≡ true
one-more n pairs risen above = rw risen (grind (arith, ints))

-- one more value is above those before
pub rises-on : (k : ℕ) (pairs : List ℕ) → 1 ≤ k → are_rising k pairs ≡ true → value_of (k - 1) pairs <ℤ value_of k pairs → are_rising (k + 1) pairs ≡ true
rises-on zero pairs some risen above = absurd (omega arith)
rises-on (suc n) pairs some risen above = rw add-one (one-more n pairs risen (rw sub-one at above))

falls-here : (n : ℕ) (pairs : List ℕ) → value_of (suc n) pairs ≤ℤ value_of n pairs → are_rising (suc (suc n)) pairs ≡ false
falls-here n pairs under =
    let test : int_lt (value_of n pairs) (value_of (suc n) pairs) ≡ false = grind (arith, ints) in
    elim (are_rising (suc n) pairs) as (λ b. (b && int_lt (value_of n pairs) (value_of (suc n) pairs)) ≡ false) [ true ↦ test | false ↦ refl ]

still-false : (n : ℕ) (pairs : List ℕ) → are_rising n pairs ≡ false → are_rising (suc n) pairs ≡ false
still-false zero pairs h = absurd (cc)
still-false (suc n) pairs h = rw h refl

later-false : (more from : ℕ) (pairs : List ℕ) → are_rising from pairs ≡ false → (all : ℕ) → all ≡ from + more → are_rising all pairs ≡ false
later-false zero from pairs h all e =
    let same : from ≡ all = omega arith in
    subst (λ (n : ℕ). are_rising n pairs ≡ false) same h
later-false (suc more) from pairs h zero e = absurd (omega arith)
later-false (suc more) from pairs h (suc all) e = still-false all pairs (later-false more from pairs h all (omega arith))

-- a value that isn't above the one before
pub falls : (k count : ℕ) (pairs : List ℕ) → 1 ≤ k → k < count → value_of k pairs ≤ℤ value_of (k - 1) pairs → are_rising count pairs ≡ false
falls zero count pairs some inside under = absurd (omega arith)
falls (suc n) count pairs some inside under =
    later-false (count - suc (suc n)) (suc (suc n)) pairs (falls-here n pairs (rw sub-one at under)) count (omega arith)

-- ---- what values that rise are

risen-before : (m n : ℕ) (pairs : List ℕ) → m ≤ n → are_rising n pairs ≡ true → are_rising m pairs ≡ true
risen-before m n pairs before risen =
    let P : Bool → Type 0 = λ b. are_rising m pairs ≡ b → are_rising m pairs ≡ true in
    elim (are_rising m pairs) as P [
      | true ↦ λ h. h
      | false ↦ λ h. let fallen : are_rising n pairs ≡ false = later-false (n - m) m pairs h n (omega arith) in absurd (cc)
    ] refl

adjacent : (k n : ℕ) (pairs : List ℕ) → suc k < n → are_rising n pairs ≡ true → value_of k pairs <ℤ value_of (suc k) pairs
adjacent k n pairs inside risen =
    let here : are_rising (suc (suc k)) pairs ≡ true = risen-before (suc (suc k)) n pairs (omega arith) risen in
    let test : int_lt (value_of k pairs) (value_of (suc k) pairs) ≡ true = (and_parts (are_rising (suc k) pairs) _ here).1 in
    grind (arith, ints)

-- of two values the later one is the greater
pub apart : (d i j n : ℕ) (pairs : List ℕ) → j ≡ i + suc d → j < n → are_rising n pairs ≡ true → value_of i pairs <ℤ value_of j pairs
apart d i zero n pairs gap inside risen = absurd (omega arith)
apart zero i (suc j) n pairs gap inside risen =
    let same : j ≡ i = omega arith in
    subst (λ (k : ℕ). value_of k pairs <ℤ value_of (suc j) pairs) same (adjacent j n pairs inside risen)
apart (suc d) i (suc j) n pairs gap inside risen =
    let below : value_of i pairs <ℤ value_of j pairs = apart d i j n pairs (omega arith) (omega arith) risen in
    let above : value_of j pairs <ℤ value_of (suc j) pairs = adjacent j n pairs inside risen in
    omega (arith, ints, below, above)
