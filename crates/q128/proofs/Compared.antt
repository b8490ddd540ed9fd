-- How whole numbers and their products are ordered.
use Rattle.std.specs.Prelude.{ℕ, zero, suc, ◌*◌, ◌<◌, ◌≡◌, ℤ, pos, negsuc, neg_ℤ, ◌*ℤ◌, ◌<ℤ◌, ◌≤ℤ◌, unsigned_abs}
use Rattle.std.specs.Ordering.{nat_cmp, int_cmp, MatchOrdering}
use Rattle.std.specs.declared.cmp.Ordering.{Ordering}
use Rattle.std.specs.declared.cmp.Ordering.TheVariants.{Less, Equal, Greater}
use Rattle.std.specs.Cmp.{int_cmp_is, nat_cmp_is}
use Rattle.std.proofs.Common.{arith, sym, ap, subst, ⊎_elim}
use Rattle.std.proofs.lemmas.Bool.{cases_order}
use Rattle.std.proofs.lemmas.Int.{ints}

nat_ranks : (m n : ℕ) → MatchOrdering (nat_cmp m n) (m < n) (m ≡ n) (n < m)
nat_ranks m n = ⊎_elim (from Equal) (⊎_elim (from Less) (from Greater)) (cases_order m n)
  where
    from : (r : Ordering) → MatchOrdering r (m < n) (m ≡ n) (n < m) → MatchOrdering (nat_cmp m n) (m < n) (m ≡ n) (n < m)
    from r h = subst (λ s. MatchOrdering s (m < n) (m ≡ n) (n < m)) (nat_cmp_is m n r h) h

at_numbers : (m n : ℕ) (r : Ordering) → MatchOrdering r (m < n) (m ≡ n) (n < m) → MatchOrdering r (pos m <ℤ pos n) (pos m ≡ pos n) (pos n <ℤ pos m)
at_numbers m n Less h = omega (arith, ints)
at_numbers m n Equal h = ap pos h
at_numbers m n Greater h = omega (arith, ints)

at_negatives : (m n : ℕ) (r : Ordering) → MatchOrdering r (n < m) (n ≡ m) (m < n) → MatchOrdering r (neg_ℤ (pos m) <ℤ neg_ℤ (pos n)) (neg_ℤ (pos m) ≡ neg_ℤ (pos n)) (neg_ℤ (pos n) <ℤ neg_ℤ (pos m))
at_negatives m n Less h = omega (arith, ints)
at_negatives m n Equal h = ap (λ k. neg_ℤ (pos k)) (sym h)
at_negatives m n Greater h = omega (arith, ints)

pub cmp_pos : (m n : ℕ) → nat_cmp m n ≡ int_cmp (pos m) (pos n)
cmp_pos m n = int_cmp_is (pos m) (pos n) (nat_cmp m n) (at_numbers m n (nat_cmp m n) (nat_ranks m n))

pub cmp_neg : (m n : ℕ) → nat_cmp n m ≡ int_cmp (neg_ℤ (pos m)) (neg_ℤ (pos n))
cmp_neg m n = int_cmp_is (neg_ℤ (pos m)) (neg_ℤ (pos n)) (nat_cmp n m) (at_negatives m n (nat_cmp n m) (nat_ranks n m))

pub both_high : (a c : ℤ) (b d : ℕ) → pos 0 ≤ℤ a → pos 0 ≤ℤ c → nat_cmp (unsigned_abs a * d) (unsigned_abs c * b) ≡ int_cmp (a *ℤ pos d) (c *ℤ pos b)
both_high (pos m) (pos n) b d h k = cmp_pos (m * d) (n * b)
both_high (pos m) (negsuc n) b d h k = absurd (omega (arith, ints))
both_high (negsuc m) c b d h k = absurd (omega (arith, ints))

pub both_low : (a c : ℤ) (b d : ℕ) → a <ℤ pos 0 → c <ℤ pos 0 → nat_cmp (unsigned_abs c * b) (unsigned_abs a * d) ≡ int_cmp (a *ℤ pos d) (c *ℤ pos b)
both_low (negsuc m) (negsuc n) b d h k = cmp_neg (suc m * d) (suc n * b)
both_low (pos m) c b d h k = absurd (omega (arith, ints))
both_low (negsuc m) (pos n) b d h k = absurd (omega (arith, ints))

below_zero : (a : ℤ) (d : ℕ) → a <ℤ pos 0 → 0 < d → (a *ℤ pos d) <ℤ pos 0
below_zero (pos m) d h k = absurd (omega (arith, ints))
below_zero (negsuc m) zero h k = absurd (omega arith)
below_zero (negsuc m) (suc d) h k = let e : 0 < suc m * suc d = omega arith in omega (arith, ints)

not_below : (c : ℤ) (b : ℕ) → pos 0 ≤ℤ c → pos 0 ≤ℤ (c *ℤ pos b)
not_below (pos n) b h = omega (arith, ints)
not_below (negsuc n) b h = absurd (omega (arith, ints))

pub low_high : (a c : ℤ) (b d : ℕ) → a <ℤ pos 0 → pos 0 ≤ℤ c → 0 < d → Less ≡ int_cmp (a *ℤ pos d) (c *ℤ pos b)
low_high a c b d h k p =
    let e = below_zero a d h p in
    let f = not_below c b k in
    int_cmp_is (a *ℤ pos d) (c *ℤ pos b) Less (omega (arith, ints))

pub high_low : (a c : ℤ) (b d : ℕ) → pos 0 ≤ℤ a → c <ℤ pos 0 → 0 < b → Greater ≡ int_cmp (a *ℤ pos d) (c *ℤ pos b)
high_low a c b d h k p =
    let e = below_zero c b k p in
    let f = not_below a d h in
    int_cmp_is (a *ℤ pos d) (c *ℤ pos b) Greater (omega (arith, ints))
