-- how often each point's fact is read, and sums of that
use Rattle.std.proofs.Common.{◌≡◌, ◌≢◌, ◌⊎◌, ℕ, zero, suc, zero-le, ◌+◌, ◌*◌, ◌<◌, ◌≤◌, if◌then◌else◌, Option, Some, None, List, length, get_or, set, refl, sym, ◌∙◌, ap, inl, inr, ⊎_elim, subst, arith, add-one, get_or-set_same, get_or-set_other}
use Rattle.std.proofs.lemmas.Bool.{cases_eq}
use Rattle.std.proofs.lemmas.Bool.Decides.{eqb_tells}
use Rattle.std.proofs.lemmas.List.{length-set}
use Rattle.fix_engine.specs.Problem.{Problem}
use Rattle.fix_engine.specs.Readers.{reads, facts_read}
use Rattle.fix_engine.specs.Counting.{hit, also_hit, reads_of, sum_below, AreCounts}

pub hit_cases : (j k : ℕ) → ((j ≡ k) × (hit j k ≡ 1)) ⊎ ((j ≢ k) × (hit j k ≡ 0))
hit_cases j k =
    ⊎_elim (λ h. inl (h.1, ap (λ b. (if b then 1 else 0)) h.0)) (λ h. inr (h.1, ap (λ b. (if b then 1 else 0)) h.0)) (eqb_tells j k)

pub hit_same : (k : ℕ) → hit k k ≡ 1
hit_same k = ⊎_elim (λ h. h.1) (λ h. absurd (h.0 refl)) (hit_cases k k)

pub hit_other : (j k : ℕ) → j ≢ k → hit j k ≡ 0
hit_other j k o = ⊎_elim (λ h. absurd (o h.0)) (λ h. h.1) (hit_cases j k)

pub hit_small : (j k : ℕ) → hit j k ≤ 1
hit_small j k = ⊎_elim (λ h. let e = h.1 in omega arith) (λ h. let e = h.1 in omega arith) (hit_cases j k)

pub also_hit_small : (o : Option ℕ) (k : ℕ) → also_hit o k ≤ 1
also_hit_small None k = zero-le
also_hit_small (Some q) k = hit_small q k

-- sums
pub sum_below-le : (f : ℕ → ℕ) (i j : ℕ) → i ≤ j → sum_below f i ≤ sum_below f j
sum_below-le f i zero l = let e : i ≡ 0 = omega arith in rw e (omega arith)
sum_below-le f i (suc j) l =
    ⊎_elim (λ (e : i ≡ suc j). rw e (omega arith)) (λ (o : i ≢ suc j). let rest = sum_below-le f i j (omega arith) in omega arith) (cases_eq i (suc j))

pub sum_below-same : (f g : ℕ → ℕ) (n : ℕ) → ((k : ℕ) → k < n → f k ≡ g k) → sum_below f n ≡ sum_below g n
sum_below-same f g zero h = refl
sum_below-same f g (suc n) h =
    let rest = sum_below-same f g n (λ k l. h k (omega arith)) in let last = h n (omega arith) in omega arith

sum_below-none : (n : ℕ) → sum_below (λ _. 0) n ≡ 0
sum_below-none zero = refl
sum_below-none (suc n) = let rest = sum_below-none n in omega arith

sum_below-three : (f g h : ℕ → ℕ) (n : ℕ) → sum_below (λ k. f k + g k + h k) n ≡ sum_below f n + sum_below g n + sum_below h n
sum_below-three f g h zero = refl
sum_below-three f g h (suc n) = let rest = sum_below-three f g h n in omega arith

sum_below-hit_past : (j n : ℕ) → n ≤ j → sum_below (hit j) n ≡ 0
sum_below-hit_past j zero l = refl
sum_below-hit_past j (suc n) l =
    let rest = sum_below-hit_past j n (omega arith) in let here : hit j n ≡ 0 = hit_other j n (λ e. omega arith) in omega arith

sum_below-hit : (j n : ℕ) → j < n → sum_below (hit j) n ≡ 1
sum_below-hit j zero l = absurd (omega arith)
sum_below-hit j (suc n) l =
    ⊎_elim (λ (e : j ≡ n). let rest = sum_below-hit_past j n (omega arith) in let here : hit j n ≡ 1 = subst (λ (i : ℕ). hit j i ≡ 1) e (hit_same j) in omega arith) (λ (o : j ≢ n). let rest = sum_below-hit j n (omega arith) in let here = hit_other j n o in omega arith) (cases_eq j n)

sum_below-also_hit : (o : Option ℕ) (n : ℕ) → ((q : ℕ) → o ≡ Some q → q < n) → 1 + sum_below (also_hit o) n ≡ facts_read o
sum_below-also_hit None n h = let none = sum_below-none n in omega arith
sum_below-also_hit (Some q) n h = let one = sum_below-hit q n (h q refl) in omega arith

module _ {Fact : Type 0} (p : Problem Fact) where
  pub reads_of-le : (n m k : ℕ) → n ≤ m → reads_of p n k ≤ reads_of p m k
  reads_of-le n zero k l = let e : n ≡ 0 = omega arith in rw e (omega arith)
  reads_of-le n (suc m) k l =
      ⊎_elim (λ (e : n ≡ suc m). rw e (omega arith)) (λ (o : n ≢ suc m). let rest = reads_of-le n m k (omega arith) in omega arith) (cases_eq n (suc m))

  pub reads_of_small : (n k : ℕ) → reads_of p n k ≤ 2 * n
  reads_of_small zero k = zero-le
  reads_of_small (suc n) k =
      let rest = reads_of_small n k in let one = hit_small (p.source n) k in let two = also_hit_small (p.also n) k in omega arith

  pub reads_small : (n : ℕ) → reads p n ≤ 2 * n
  reads_small zero = zero-le
  reads_small (suc n) = let rest = reads_small n in let few = facts_few (p.also n) in omega arith
    where
      facts_few : (o : Option ℕ) → facts_read o ≤ 2
      facts_few None = omega arith
      facts_few (Some q) = omega arith

  -- each read is one of some point's fact
  pub sum_below-reads_of : (n m : ℕ) → ((e : ℕ) → e < n → p.source e < m) → ((e q : ℕ) → e < n → p.also e ≡ Some q → q < m) → sum_below (reads_of p n) m ≡ reads p n
  sum_below-reads_of zero m s a = sum_below-none m
  sum_below-reads_of (suc n) m s a =
      let rest = sum_below-reads_of n m (λ e l. s e (omega arith)) (λ e q l h. a e q (omega arith) h) in
      let parts = sum_below-three (reads_of p n) (hit (p.source n)) (also_hit (p.also n)) m in
      let one = sum_below-hit (p.source n) m (s n (omega arith)) in
      let two = sum_below-also_hit (p.also n) m (λ q h. a n q (omega arith) h) in
      omega arith

-- one more at j
pub get_or-bump : (xs : List ℕ) (j k v : ℕ) → j < length xs → v ≡ get_or xs j 0 + 1 → get_or (set xs j v) k 0 ≡ get_or xs k 0 + hit j k
get_or-bump xs j k v l e =
    ⊎_elim (λ h. subst (λ (i : ℕ). get_or (set xs j v) i 0 ≡ get_or xs i 0 + hit j i) h.0 (let one = hit_same j in let at = get_or-set_same xs j v 0 l in omega arith)) (λ h. let none = h.1 in let at = get_or-set_other xs j k v 0 (λ s. h.0 (sym s)) in omega arith) (hit_cases j k)

module _ {Fact : Type 0} (p : Problem Fact) (n : ℕ) (counts : List ℕ) (was : AreCounts p n counts) (s v : ℕ) (at_s : s ≡ p.source n) (in_s : s < length counts) (v_is : v ≡ get_or counts s 0 + 1) where
  pub AreCounts-one : p.also n ≡ None → AreCounts p (n + 1) (set counts s v)
  AreCounts-one alone =
      record {
        count = length-set counts s v ∙ was.count;
        at = λ k l. rw add-one (let before = was.at k l in let here = get_or-bump counts s k v in_s v_is in let same : hit s k ≡ hit (p.source n) k = ap (λ (i : ℕ). hit i k) at_s in let none : also_hit (p.also n) k ≡ 0 = ap (λ (o : Option ℕ). also_hit o k) alone in omega arith);
      }

  pub AreCounts-two : (q w : ℕ) → p.also n ≡ Some q → q < length counts → w ≡ get_or (set counts s v) q 0 + 1 → AreCounts p (n + 1) (set (set counts s v) q w)
  AreCounts-two q w both in_q w_is =
      record {
        count = length-set (set counts s v) q w ∙ (length-set counts s v ∙ was.count);
        at = λ k l. rw add-one (let before = was.at k l in let here = get_or-bump counts s k v in_s v_is in let more = get_or-bump (set counts s v) q k w (omega (arith, length-set counts s v)) w_is in let same : hit s k ≡ hit (p.source n) k = ap (λ (i : ℕ). hit i k) at_s in let two : also_hit (p.also n) k ≡ hit q k = ap (λ (o : Option ℕ). also_hit o k) both in omega arith);
      }
