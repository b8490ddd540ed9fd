-- When a goal is small.
use Rattle.std.specs.Prelude.{◌≡◌, ℤ, pos, ◌*ℤ◌, ◌≤ℤ◌, List, Option, Some, None, Result, Ok, Err, IfOk, MatchOption, FitsSigned}
use Rattle.std.specs.Int.{w128}
use Rattle.std.specs.declared.alloc.AllocError.{AllocError}
use Rattle.std.proofs.Common.{arith, refl, sym, ap, ◌∙◌, subst, inl, inr}
use Rattle.std.proofs.lemmas.Int.{ints}
use Rattle.q128.specs.Fraction.{Fraction, whole, IsAtMost}
use Rattle.q128.specs.Laws.{IsNarrow}
use Rattle.q128.proofs.Ordered.{at_most_trans}
use Rattle.lin_rows.specs.Linear.{Linear}
use Rattle.lin_rows.specs.Proving.{Multipliers}
use Rattle.lin_rows.specs.Combining.{Combination}
use Rattle.small_cert.specs.declared.multiple.Multiple.{Multiple}
use Rattle.small_cert.specs.declared.multiple.Multiple.TheVariants.{Once, Twice}
use Rattle.small_cert.specs.Multiples.{times_of}
use Rattle.small_cert.specs.Small.{IsMultiple, IsSmall, IsSmallBy, AreShared}
use Rattle.small_sums.specs.declared.term.Sum.{Sum}
use Rattle.small_sums.specs.Terms.{multipliers_of}
use Rattle.small_cert.proofs.Scaling.{fits_narrow}
use Rattle.small_cert.specs.inside.Levels.{IsMatchBy, IsLeastMatchBy, HasNoneBy}

is_multiple : (multiple : Multiple) → IsMultiple (times_of multiple)
is_multiple Once = inl refl
is_multiple Twice = inr refl

-- the sum proves the goal
pub small_made : (rows : List Linear) (goal : Linear) (multiple : Multiple) (m : Multipliers) (s : Combination) (f : ℤ) → IsLeastMatchBy rows goal.coefficients (times_of multiple) m s → whole f ≡ s.constant
    → IsNarrow (times_of multiple *ℤ goal.constant) → f ≤ℤ (times_of multiple *ℤ goal.constant) → IsSmallBy rows goal m (times_of multiple)
small_made rows goal multiple m s f least is narrow le = record {
  multiple = is_multiple multiple;
  fits = record { coefficients = least.matching.fits; constant = narrow };
  sum = s;
  small = least.matching.small;
  under = record {
    coefficients = record { each = least.matching.same.each };
    constant = subst (λ (x : Fraction). IsAtMost x (whole (times_of multiple *ℤ goal.constant))) is (at_most_whole f (times_of multiple *ℤ goal.constant) le);
  };
}
  where
    at_most_whole : (a b : ℤ) → a ≤ℤ b → IsAtMost (whole a) (whole b)
    at_most_whole a b h = omega (arith, ints, h)

small_match : (rows : List Linear) (goal : Linear) (m : Multipliers) (k : ℤ) → (h : IsSmallBy rows goal m k) → IsMatchBy rows goal.coefficients k m h.sum
small_match rows goal m k h = record { fits = h.fits.coefficients; small = h.small; same = record { each = h.under.coefficients.each } }

-- the least sum doesn't
pub not_small : (rows : List Linear) (goal : Linear) (k : ℤ) (m : Multipliers) (s : Combination) (f : ℤ) → IsLeastMatchBy rows goal.coefficients k m s → whole f ≡ s.constant
    → (f ≤ℤ (k *ℤ goal.constant) → ⊥) → (n : Multipliers) → IsSmallBy rows goal n k → ⊥
not_small rows goal k m s f least is greater n h =
    let first : IsAtMost (whole f) h.sum.constant = subst (λ (x : Fraction). IsAtMost x h.sum.constant) (sym is) (least.least n h.sum (small_match rows goal n k h)) in
    let all : IsAtMost (whole f) (whole (k *ℤ goal.constant)) = at_most_trans (whole f) h.sum.constant (whole (k *ℤ goal.constant)) first h.under.constant in
    greater (whole_at_most f (k *ℤ goal.constant) all)
  where
    whole_at_most : (a b : ℤ) → IsAtMost (whole a) (whole b) → a ≤ℤ b
    whole_at_most a b h = omega (arith, ints, h)

-- there is no sum
pub none_small : (rows : List Linear) (goal : Linear) (k : ℤ) → HasNoneBy rows goal.coefficients k → (n : Multipliers) → IsSmallBy rows goal n k → ⊥
none_small rows goal k none n h = none n h.sum (small_match rows goal n k h)

-- the goal's multiple doesn't fit
pub unfit_small : (rows : List Linear) (goal : Linear) (k : ℤ) → (IsNarrow (k *ℤ goal.constant) → ⊥) → (n : Multipliers) → IsSmallBy rows goal n k → ⊥
unfit_small rows goal k unfit n h = unfit h.fits.constant

-- neither once nor twice
pub neither_small : (rows : List Linear) (goal : Linear) → ((m : Multipliers) → IsSmallBy rows goal m (pos 1) → ⊥) → ((m : Multipliers) → IsSmallBy rows goal m (pos 2) → ⊥) → IsSmall rows goal → ⊥
neither_small rows goal once twice h = by h.2.multiple
  where
    by : IsMultiple h.1 → ⊥
    by (inl e) = once h.0 (subst (λ (k : ℤ). IsSmallBy rows goal h.0 k) e h.2)
    by (inr e) = twice h.0 (subst (λ (k : ℤ). IsSmallBy rows goal h.0 k) e h.2)

-- ---- the same with what the code makes
pub entail_yes : (rows : List Linear) (goal : Linear) (multiple : Multiple) (cs : List ℤ) (o : Option Sum) (sum : Sum) (times l constant : ℤ) → cs ≡ goal.coefficients → o ≡ Some sum
    → MatchOption o (HasNoneBy rows cs (times_of multiple)) (λ f. (s : Combination) × IsLeastMatchBy rows cs (times_of multiple) (multipliers_of f.terms) s × (whole f.constant ≡ s.constant))
    → times ≡ times_of multiple → l ≡ goal.constant → FitsSigned w128 (times *ℤ l) → constant ≡ times *ℤ l → sum.constant ≤ℤ constant → IsSmallBy rows goal (multipliers_of sum.terms) (times_of multiple)
entail_yes rows goal multiple cs o sum times l constant read some found is_times is_l fits made le =
    let P : List ℤ → Option Sum → Type 0 = λ cs o. MatchOption o (HasNoneBy rows cs (times_of multiple)) (λ f. (s : Combination) × IsLeastMatchBy rows cs (times_of multiple) (multipliers_of f.terms) s × (whole f.constant ≡ s.constant)) in
    let f : P goal.coefficients (Some sum) = subst (λ (o : Option Sum). P goal.coefficients o) some (subst (λ (xs : List ℤ). P xs o) read found) in
    let product : times *ℤ l ≡ times_of multiple *ℤ goal.constant = ap (λ x. x *ℤ l) is_times ∙ ap (λ x. times_of multiple *ℤ x) is_l in
    small_made rows goal multiple (multipliers_of sum.terms) f.0 sum.constant f.1 f.2 (subst IsNarrow product (fits_narrow (times *ℤ l) fits)) (subst (λ (x : ℤ). sum.constant ≤ℤ x) (made ∙ product) le)

pub entail_no : (rows : List Linear) (goal : Linear) (multiple : Multiple) (cs : List ℤ) (o : Option Sum) (sum : Sum) (times l constant : ℤ) → cs ≡ goal.coefficients → o ≡ Some sum
    → MatchOption o (HasNoneBy rows cs (times_of multiple)) (λ f. (s : Combination) × IsLeastMatchBy rows cs (times_of multiple) (multipliers_of f.terms) s × (whole f.constant ≡ s.constant))
    → times ≡ times_of multiple → l ≡ goal.constant → constant ≡ times *ℤ l → (sum.constant ≤ℤ constant → ⊥) → (n : Multipliers) → IsSmallBy rows goal n (times_of multiple) → ⊥
entail_no rows goal multiple cs o sum times l constant read some found is_times is_l made greater =
    let P : List ℤ → Option Sum → Type 0 = λ cs o. MatchOption o (HasNoneBy rows cs (times_of multiple)) (λ f. (s : Combination) × IsLeastMatchBy rows cs (times_of multiple) (multipliers_of f.terms) s × (whole f.constant ≡ s.constant)) in
    let f : P goal.coefficients (Some sum) = subst (λ (o : Option Sum). P goal.coefficients o) some (subst (λ (xs : List ℤ). P xs o) read found) in
    let product : times *ℤ l ≡ times_of multiple *ℤ goal.constant = ap (λ x. x *ℤ l) is_times ∙ ap (λ x. times_of multiple *ℤ x) is_l in
    not_small rows goal (times_of multiple) (multipliers_of sum.terms) f.0 sum.constant f.1 f.2 (λ le. greater (subst (λ (x : ℤ). sum.constant ≤ℤ x) (sym (made ∙ product)) le))

pub entail_none : (rows : List Linear) (goal : Linear) (multiple : Multiple) (cs : List ℤ) (o : Option Sum) → cs ≡ goal.coefficients → o ≡ None
    → MatchOption o (HasNoneBy rows cs (times_of multiple)) (λ f. (s : Combination) × IsLeastMatchBy rows cs (times_of multiple) (multipliers_of f.terms) s × (whole f.constant ≡ s.constant))
    → (n : Multipliers) → IsSmallBy rows goal n (times_of multiple) → ⊥
entail_none rows goal multiple cs o read none found =
    let P : List ℤ → Option Sum → Type 0 = λ cs o. MatchOption o (HasNoneBy rows cs (times_of multiple)) (λ f. (s : Combination) × IsLeastMatchBy rows cs (times_of multiple) (multipliers_of f.terms) s × (whole f.constant ≡ s.constant)) in
    none_small rows goal (times_of multiple) (subst (λ (o : Option Sum). P goal.coefficients o) none (subst (λ (xs : List ℤ). P xs o) read found))

-- once, and else twice
abbrev Answers : List Linear → Linear → ℤ → Option Multipliers → Type 0
Answers rows goal k answer = MatchOption answer ((m : Multipliers) → IsSmallBy rows goal m k → ⊥) (λ n. (m : Multipliers) × IsSmallBy rows goal m k × AreShared n m k)

pub second_answer : (rows : List Linear) (goal : Linear) (res : Result (Option Multipliers) AllocError) → ((m : Multipliers) → IsSmallBy rows goal m (pos 1) → ⊥) → IfOk res (Answers rows goal (pos 2))
    → IfOk res (λ answer. MatchOption answer (IsSmall rows goal → ⊥) (λ n. (m : Multipliers) × (k : ℤ) × IsSmallBy rows goal m k × AreShared n m k))
second_answer rows goal (Err e) once h = h
second_answer rows goal (Ok None) once h = neither_small rows goal once h
second_answer rows goal (Ok (Some n)) once h = (h.0, pos 2, h.1, h.2)
