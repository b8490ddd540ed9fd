-- What a sum of the rows of places is, and the cap that it makes.
use Rattle.std.specs.Prelude.{◌≡◌, ℕ, zero, suc, ◌+◌, ◌*◌, ◌/◌, ◌%◌, ◌==◌, ◌<◌, ◌≤◌, Bool, true, false, List, [], ◌∷◌, ◌++◌, length, Result, Ok, Err, OnOk, slice_index_or}
use Rattle.std.specs.Result.{is_ok}
use Rattle.std.specs.List.Sorted.{IsStrictlyIncreasing}
use Rattle.std.proofs.Common.{arith, refl, sym, ap, ◌∙◌, subst, inl, inr}
use Rattle.q128.specs.Fraction.{Fraction}
use Rattle.lin_rows.specs.Linear.{Linear}
use Rattle.lin_rows.specs.Combining.{Combination, zeros, rows_added}
use Rattle.lin_rows.specs.Rows.{longest_of}
use Rattle.small_sums.specs.Sums.{IsFactor, IsSmallSum, numbers_of}
use Rattle.small_sums.specs.Terms.{factor_of}
use Rattle.small_cert.specs.declared.multiple.Multiple.{Multiple}
use Rattle.small_cert.specs.Multiples.{times_of}
use Rattle.small_caps.specs.Caps.{IsCapOf, IsCapBy}
use Rattle.small_caps.specs.declared.pick.Front.{Front}
use Rattle.small_caps.specs.declared.pick.Front.TheVariants.{Zero, One, Two}
use Rattle.small_caps.specs.inside.Numbers.{IsWholeSum}
use Rattle.small_caps.specs.inside.Picks.{places_in, multipliers_at, multipliers_in, IsFront, IsBehind}
use Rattle.small_cert.specs.Order.{key_of}
use Rattle.small_caps.proofs.Candidates.{is_multiple, one_key, one_constant}
use Rattle.small_caps.proofs.Totals.{whole_sum}

is_factor : (twice : Bool) → IsFactor (factor_of twice)
is_factor true = inr refl
is_factor false = inl refl

factors_at : (ps : List ℕ) (k : ℕ) (d : ℕ × Fraction) → k < length (multipliers_at ps) → IsFactor (slice_index_or (multipliers_at ps) k d).1
factors_at [] k d lt = absurd (omega (arith, lt))
factors_at (p ∷ ps) zero d lt = is_factor (p % 2 == 1)
factors_at (p ∷ ps) (suc k) d lt = factors_at ps k d (omega (arith, lt))

abbrev IsWithin : ℕ → ℕ × Fraction → Type 0
IsWithin count p = (0 < p.0) × (p.0 ≤ count)

numbers_at : (count : ℕ) (ps : List ℕ) → ((k : ℕ) (d : ℕ) → k < length ps → slice_index_or ps k d < 2 * count) → (k : ℕ) (d : ℕ × Fraction) → k < length (multipliers_at ps) → IsWithin count (slice_index_or (multipliers_at ps) k d)
numbers_at count [] h k d lt = absurd (omega (arith, lt))
numbers_at count (p ∷ ps) h zero d lt = let below : p < 2 * count = h 0 0 (omega arith) in (omega arith, omega (arith, below))
numbers_at count (p ∷ ps) h (suc k) d lt = numbers_at count ps (λ k e less. h (suc k) e (omega (arith, less))) k d (omega (arith, lt))

front_within : (count : ℕ) (front : Front) (last : ℕ) → IsFront (2 * count) front → last < 2 * count → (k : ℕ) (d : ℕ) → k < length (places_in front ++ last ∷ []) → slice_index_or (places_in front ++ last ∷ []) k d < 2 * count
front_within count Zero last f l zero d lt = l
front_within count Zero last f l (suc k) d lt = absurd (omega (arith, lt))
front_within count (One a) last f l zero d lt = f
front_within count (One a) last f l (suc zero) d lt = l
front_within count (One a) last f l (suc (suc k)) d lt = absurd (omega (arith, lt))
front_within count (Two a b) last f l zero d lt = f.0
front_within count (Two a b) last f l (suc zero) d lt = f.1
front_within count (Two a b) last f l (suc (suc zero)) d lt = l
front_within count (Two a b) last f l (suc (suc (suc k))) d lt = absurd (omega (arith, lt))

front_few : (front : Front) (last : ℕ) → length (multipliers_in front last) ≤ 3
front_few Zero last = omega arith
front_few (One a) last = omega arith
front_few (Two a b) last = omega arith

one_more : (a b : ℕ) → a < b → a + 1 < b + 1
one_more a b h = omega (arith, h)

front_rising : (count : ℕ) (front : Front) (last : ℕ) → IsFront (2 * count) front → IsBehind front last → IsStrictlyIncreasing (numbers_of (multipliers_in front last))
front_rising count Zero last f h k lt = absurd (omega (arith, lt))
front_rising count (One a) last f h zero lt = one_more (a / 2) (last / 2) h
front_rising count (One a) last f h (suc k) lt = absurd (omega (arith, lt))
front_rising count (Two a b) last f h zero lt = one_more (a / 2) (b / 2) f.2
front_rising count (Two a b) last f h (suc zero) lt = one_more (b / 2) (last / 2) h
front_rising count (Two a b) last f h (suc (suc k)) lt = absurd (omega (arith, lt))

pub tried : (rows : List Linear) (front : Front) (last : ℕ) (before s : Combination) → IsFront (2 * length rows) front → last < 2 * length rows → IsBehind front last → before ≡ zeros (longest_of rows)
    → rows_added rows before (multipliers_in front last) ≡ Ok s → IsSmallSum rows 3 (multipliers_in front last) s × IsWholeSum s
tried rows front last before s f l h fresh e =
    let counts : rows_added rows (zeros (longest_of rows)) (multipliers_in front last) ≡ Ok s = ap (λ (b : Combination). rows_added rows b (multipliers_in front last)) (sym fresh) ∙ e in (
      record {
        few = front_few front last;
        rising = front_rising (length rows) front last f h;
        numbers = record { each = numbers_at (length rows) (places_in front ++ last ∷ []) (front_within (length rows) front last f l) };
        factors = factors_at (places_in front ++ last ∷ []);
        counts = counts;
      },
      whole_sum rows (places_in front ++ last ∷ []) s counts,
    )

-- ---- the cap of these rows
same_sum : (rows : List Linear) (m : List (ℕ × Fraction)) (s t : Combination) → IsSmallSum rows 3 m s → IsSmallSum rows 3 m t → s ≡ t
same_sum rows m s t h j = let a = h.counts in let b = j.counts in cc

module _ (rows : List Linear) (l : Linear) (entry : List ℕ) (multiple : Multiple) (front : Front) (last : ℕ) where
  pub none_summed : ((s : Combination) → IsSmallSum rows 3 (multipliers_in front last) s → ⊥) → (w : Linear) → IsCapBy rows l entry w (multipliers_in front last) (times_of multiple) → ⊥
  none_summed none w h = none h.sum h.small

  moved : (s : Combination) (w : Linear) → IsSmallSum rows 3 (multipliers_in front last) s → (h : IsCapBy rows l entry w (multipliers_in front last) (times_of multiple)) → IsCapOf s l entry w (times_of multiple)
  moved s w small h = subst (λ (t : Combination). IsCapOf t l entry w (times_of multiple)) (same_sum rows (multipliers_in front last) h.sum s h.small small) h.cap

  pub none_made : (s : Combination) → IsSmallSum rows 3 (multipliers_in front last) s → ((u : Linear) → IsCapOf s l entry u (times_of multiple) → ⊥) → (w : Linear) → IsCapBy rows l entry w (multipliers_in front last) (times_of multiple) → ⊥
  none_made s small none w h = none w (moved s w small h)

  pub cap_found : (s : Combination) (u : Linear) → IsSmallSum rows 3 (multipliers_in front last) s → IsCapOf s l entry u (times_of multiple) → IsCapBy rows l entry u (multipliers_in front last) (times_of multiple)
  cap_found s u small cap = record { multiple = is_multiple multiple; sum = s; small = small; cap = cap }

  pub cap_alone : (s : Combination) (u : Linear) → IsSmallSum rows 3 (multipliers_in front last) s → IsWholeSum s → IsCapOf s l entry u (times_of multiple) → (w : Linear) → IsCapBy rows l entry w (multipliers_in front last) (times_of multiple)
      → (key_of w ≡ key_of u) × (w.constant ≡ u.constant)
  cap_alone s u small are cap w h =
      (one_key s l entry (times_of multiple) u w (is_multiple multiple) cap (moved s w small h), one_constant s l entry (times_of multiple) u w (is_multiple multiple) are cap (moved s w small h))

-- the same with what the code makes
pub tried_ok : {E : Type 0} (rows : List Linear) (n : ℕ) (front : Front) (last : ℕ) (before s : Combination) (r : Result Unit E) (b : Bool) → n ≡ length rows → IsFront (2 * n) front → last < 2 * n → IsBehind front last → before ≡ zeros (longest_of rows)
    → b ≡ is_ok r → OnOk r (rows_added rows before (multipliers_in front last) ≡ Ok s) → b ≡ true → IsSmallSum rows 3 (multipliers_in front last) s × IsWholeSum s
tried_ok rows n front last before s (Err e) b count f l h fresh read made is = let no : false ≡ true = sym read ∙ is in absurd cc
tried_ok rows n front last before s (Ok u) b count f l h fresh read made is =
    tried rows front last before s (subst (λ (m : ℕ). IsFront (2 * m) front) count f) (subst (λ (m : ℕ). last < 2 * m) count l) h fresh made
