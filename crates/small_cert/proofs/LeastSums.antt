-- The least constant: the lesser of that of the least sum for the coefficients and of half of that for twice them.
use Rattle.std.specs.Prelude.{◌≡◌, ℤ, pos, ◌*ℤ◌, ◌≤ℤ◌, List, Option, Some, None, MatchOption}
use Rattle.std.proofs.Common.{arith, refl, sym, subst, inl, inr}
use Rattle.std.proofs.lemmas.Int.{ints}
use Rattle.q128.specs.Fraction.{Fraction, whole, den_of, IsSame, IsAtMost, plus, times}
use Rattle.q128.proofs.Ring.{*ℤ_assoc}
use Rattle.q128.proofs.Ordered.{at_most_trans, are_ordered_field}
use Rattle.lin_rows.specs.Linear.{Linear}
use Rattle.lin_rows.specs.Proving.{Multipliers}
use Rattle.lin_rows.specs.Combining.{Combination}
use Rattle.small_sums.specs.declared.term.Sum.{Sum}
use Rattle.small_sums.specs.Terms.{multipliers_of}
use Rattle.small_cert.specs.declared.multiple.Multiple.TheVariants.{Once, Twice}
use Rattle.small_cert.specs.declared.least.Least.{Least}
use Rattle.small_cert.specs.Small.{IsMultiple, IsReachedBy, IsReached}
use Rattle.small_cert.specs.Least.{halves, expression_of, IsLeastSum, HasNoLeast}
use Rattle.small_cert.specs.inside.Levels.{IsMatchBy, IsLeastMatchBy, HasNoneBy}
use Rattle.small_cert.specs.inside.Lesser.{taken_as, IsLesser}

-- what is found for a multiple
abbrev pub Found : List Linear → List ℤ → ℤ → Option Sum → Type 0
Found rows cs k o = MatchOption o (HasNoneBy rows cs k) (λ f. (s : Combination) × IsLeastMatchBy rows cs k (multipliers_of f.terms) s × (whole f.constant ≡ s.constant))

once_same : (f : ℤ) → IsSame (whole f) (times (whole (pos 1)) (plus (whole (pos 0)) (halves (pos 2 *ℤ f))))
once_same f = omega (arith, ints)

twice_same : (f : ℤ) → IsSame (whole f) (times (whole (pos 2)) (plus (whole (pos 0)) (halves f)))
twice_same f = omega (arith, ints)

-- a sum reaches its constant
match_reached : (rows : List Linear) (cs : List ℤ) (k f z : ℤ) (m : Multipliers) (s : Combination) → IsMultiple k → IsMatchBy rows cs k m s → whole f ≡ s.constant
    → IsSame (whole f) (times (whole k) (plus (whole (pos 0)) (halves z))) → IsReachedBy rows (expression_of cs) (halves z) m k
match_reached rows cs k f z m s multiple h is same = record {
  multiple = multiple;
  fits = h.fits;
  sum = s;
  small = h.small;
  same = record { each = h.same.each };
  constant = subst (λ (x : Fraction). IsSame x (times (whole k) (plus (whole (pos 0)) (halves z)))) is same;
}

-- and what is reached is made by a sum
reached_match : (rows : List Linear) (cs : List ℤ) (y : Fraction) (m : Multipliers) (k : ℤ) → (h : IsReachedBy rows (expression_of cs) y m k) → IsMatchBy rows cs k m h.sum
reached_match rows cs y m k h = record { fits = h.fits; small = h.small; same = record { each = h.same.each } }

raised : (f d n : ℤ) → (f *ℤ d) ≤ℤ n → ((pos 2 *ℤ f) *ℤ d) ≤ℤ (n *ℤ pos 2)
raised f d n h = subst (λ (z : ℤ). z ≤ℤ (n *ℤ pos 2)) (sym (*ℤ_assoc (pos 2) f d)) (doubled (f *ℤ d) n h)
  where
    doubled : (a n : ℤ) → a ≤ℤ n → (pos 2 *ℤ a) ≤ℤ (n *ℤ pos 2)
    doubled a n h = omega (arith, ints, h)

once_most : (f : ℤ) (y : Fraction) → IsAtMost (whole f) (times (whole (pos 1)) (plus (whole (pos 0)) y)) → IsAtMost (halves (pos 2 *ℤ f)) y
once_most f y h = raised f (den_of y) y.num (omega (arith, ints, h))

twice_most : (f : ℤ) (y : Fraction) → IsAtMost (whole f) (times (whole (pos 2)) (plus (whole (pos 0)) y)) → IsAtMost (halves f) y
twice_most f y h = omega (arith, ints, h)

-- each constant that is reached by a sum for the multiple is at least that of the least sum
reached_most : (rows : List Linear) (cs : List ℤ) (k f : ℤ) (y : Fraction) (m n : Multipliers) (s : Combination) → IsLeastMatchBy rows cs k m s → whole f ≡ s.constant → IsReachedBy rows (expression_of cs) y n k
    → IsAtMost (whole f) (times (whole k) (plus (whole (pos 0)) y))
reached_most rows cs k f y m n s least is h =
    at_most_trans (whole f) h.sum.constant (times (whole k) (plus (whole (pos 0)) y))
    (subst (λ (x : Fraction). IsAtMost x h.sum.constant) (sym is) (least.least n h.sum (reached_match rows cs y n k h)))
    (are_ordered_field.order.reflexive h.sum.constant (times (whole k) (plus (whole (pos 0)) y)) h.constant)

less_half : (a b : ℤ) → ((pos 2 *ℤ a) ≤ℤ b) → IsAtMost (halves (pos 2 *ℤ a)) (halves b)
less_half a b h = omega (arith, ints, h)

half_less : (a b : ℤ) → (b ≤ℤ (pos 2 *ℤ a)) → IsAtMost (halves b) (halves (pos 2 *ℤ a))
half_less a b h = omega (arith, ints, h)

-- what is reached, once or twice
by_multiple : (rows : List Linear) (cs : List ℤ) (x : Fraction) → ((y : Fraction) (m : Multipliers) → IsReachedBy rows (expression_of cs) y m (pos 1) → IsAtMost x y) → ((y : Fraction) (m : Multipliers) → IsReachedBy rows (expression_of cs) y m (pos 2) → IsAtMost x y)
    → (y : Fraction) → IsReached rows (expression_of cs) y → IsAtMost x y
by_multiple rows cs x once twice y h = by h.2.multiple
  where
    by : IsMultiple h.1 → IsAtMost x y
    by (inl e) = once y h.0 (subst (λ (k : ℤ). IsReachedBy rows (expression_of cs) y h.0 k) e h.2)
    by (inr e) = twice y h.0 (subst (λ (k : ℤ). IsReachedBy rows (expression_of cs) y h.0 k) e h.2)

none_by : (rows : List Linear) (cs : List ℤ) (k : ℤ) (y : Fraction) (m : Multipliers) → HasNoneBy rows cs k → IsReachedBy rows (expression_of cs) y m k → ⊥
none_by rows cs k y m none h = none m h.sum (reached_match rows cs y m k h)

module _ (rows : List Linear) (cs : List ℤ) where
  once_reached : (a : Sum) → (f : Found rows cs (pos 1) (Some a)) → IsReachedBy rows (expression_of cs) (halves (pos 2 *ℤ a.constant)) (multipliers_of a.terms) (pos 1)
  once_reached a f = match_reached rows cs (pos 1) a.constant (pos 2 *ℤ a.constant) (multipliers_of a.terms) f.0 (inl refl) f.1.matching f.2 (once_same a.constant)

  twice_reached : (b : Sum) → (f : Found rows cs (pos 2) (Some b)) → IsReachedBy rows (expression_of cs) (halves b.constant) (multipliers_of b.terms) (pos 2)
  twice_reached b f = match_reached rows cs (pos 2) b.constant b.constant (multipliers_of b.terms) f.0 (inr refl) f.1.matching f.2 (twice_same b.constant)

  once_least : (a : Sum) → (f : Found rows cs (pos 1) (Some a)) → (y : Fraction) (m : Multipliers) → IsReachedBy rows (expression_of cs) y m (pos 1) → IsAtMost (halves (pos 2 *ℤ a.constant)) y
  once_least a f y m h = once_most a.constant y (reached_most rows cs (pos 1) a.constant y (multipliers_of a.terms) m f.0 f.1 f.2 h)

  twice_least : (b : Sum) → (f : Found rows cs (pos 2) (Some b)) → (y : Fraction) (m : Multipliers) → IsReachedBy rows (expression_of cs) y m (pos 2) → IsAtMost (halves b.constant) y
  twice_least b f y m h = twice_most b.constant y (reached_most rows cs (pos 2) b.constant y (multipliers_of b.terms) m f.0 f.1 f.2 h)

  once_sum : (a : Sum) → Found rows cs (pos 1) (Some a) → ((y : Fraction) (m : Multipliers) → IsReachedBy rows (expression_of cs) y m (pos 2) → IsAtMost (halves (pos 2 *ℤ a.constant)) y) → IsLeastSum rows cs (taken_as Once a)
  once_sum a f twice = record { reached = once_reached a f; least = by_multiple rows cs (halves (pos 2 *ℤ a.constant)) (once_least a f) twice }

  twice_sum : (b : Sum) → Found rows cs (pos 2) (Some b) → ((y : Fraction) (m : Multipliers) → IsReachedBy rows (expression_of cs) y m (pos 1) → IsAtMost (halves b.constant) y) → IsLeastSum rows cs (taken_as Twice b)
  twice_sum b f once = record { reached = twice_reached b f; least = by_multiple rows cs (halves b.constant) once (twice_least b f) }

  abbrev Answer : Option Least → Type 0
  Answer r = MatchOption r (HasNoLeast rows cs) (IsLeastSum rows cs)

  pub lesser_is_least : (once twice : Option Sum) (r : Option Least) → IsLesser once twice r → Found rows cs (pos 1) once → Found rows cs (pos 2) twice → MatchOption r (HasNoLeast rows cs) (IsLeastSum rows cs)
  lesser_is_least None None r e f g = subst Answer (sym e) (λ x h. neither x h)
    where
      neither : (x : Fraction) → IsReached rows (expression_of cs) x → ⊥
      neither x h = by h.2.multiple
        where
          by : IsMultiple h.1 → ⊥
          by (inl e) = none_by rows cs (pos 1) x h.0 f (subst (λ (k : ℤ). IsReachedBy rows (expression_of cs) x h.0 k) e h.2)
          by (inr e) = none_by rows cs (pos 2) x h.0 g (subst (λ (k : ℤ). IsReachedBy rows (expression_of cs) x h.0 k) e h.2)
  lesser_is_least (Some a) None r e f g = subst Answer (sym e) (once_sum a f (λ y m h. absurd (none_by rows cs (pos 2) y m g h)))
  lesser_is_least None (Some b) r e f g = subst Answer (sym e) (twice_sum b g (λ y m h. absurd (none_by rows cs (pos 1) y m f h)))
  lesser_is_least (Some a) (Some b) r (inl e) f g =
      subst Answer (sym e.1) (once_sum a f (λ y m h. at_most_trans (halves (pos 2 *ℤ a.constant)) (halves b.constant) y (less_half a.constant b.constant e.0) (twice_least b g y m h)))
  lesser_is_least (Some a) (Some b) r (inr e) f g =
      subst Answer (sym e.1) (twice_sum b g (λ y m h. at_most_trans (halves b.constant) (halves (pos 2 *ℤ a.constant)) y (half_less a.constant b.constant e.0) (once_least a f y m h)))
