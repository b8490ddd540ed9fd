-- What templates are worth: they hold at the entry, and where a step leads to.
use Rattle.std.specs.Prelude.{◌≡◌, ℕ, suc, ◌-◌, nat_eq, Bool, true, false, ℤ, pos, neg_ℤ, negsuc, ◌+ℤ◌, ◌≤ℤ◌, List, [], ◌∷◌, ◌++◌, length, map, Contains, if◌then◌else◌}
use Rattle.std.specs.List.{flat_map, range_with_len, items_where_true}
use Rattle.std.proofs.Common.{arith, sym, ap, ◌∙◌, subst, inl, inr}
use Rattle.std.proofs.lemmas.Int.{ints}
use Rattle.std.proofs.lemmas.List.{length-map}
use Rattle.std.proofs.lemmas.List.FromFn.{length-range_with_len}
use Rattle.std.proofs.lemmas.List.Elements.{Contains-append_cases}
use Rattle.common_laws.proofs.Members.{contains_cases, contains_none, contains_head, contains_tail, from_flat}
use Rattle.lin_rows.specs.Linear.{Linear}
use Rattle.lin_rows.specs.Points.{whole_value, HoldsAtWhole}
use Rattle.lin_rows.specs.Transitions.{next_wholes}
use Rattle.lin_rows.proofs.StepValues.{step_on_wholes}
use Rattle.rankings.specs.Templates.{at_most_entry, at_least_entry, both_ways, single, pair, pair_templates, templates_of, shifted, first_variables, stepped}
use Rattle.rankings.proofs.Places.{sum_at, sum_joined, sum_front, sum_negative, first_values, shifted_values, next_joined}

-- ---- members
-- a template is a comparison of n coefficients
pub data IsComparison (n : ℕ) (g : Linear) : Type 0 where
  below : (c : List ℤ) → length c ≡ n → g ≡ at_most_entry c → IsComparison n g
  above : (c : List ℤ) → length c ≡ n → g ≡ at_least_entry c → IsComparison n g

of_both : (n : ℕ) (c : List ℤ) (g : Linear) → length c ≡ n → Contains (both_ways c) g → IsComparison n g
of_both n c g len m = elim (contains_cases (at_most_entry c) (at_least_entry c ∷ []) g m) [
  | inl e ↦ below c len (sym e)
  | inr t ↦ elim (contains_cases (at_least_entry c) [] g t) [ inl e ↦ above c len (sym e) | inr none ↦ absurd (contains_none g none) ]
]

listed : (n : ℕ) (f : ℕ → ℤ) → length (map f (range_with_len 0 n)) ≡ n
listed n f = length-map (range_with_len 0 n) f ∙ length-range_with_len 0 n

of_pair : (n i j : ℕ) (g : Linear) → Contains (pair_templates n i j) g → IsComparison n g
of_pair n i j g m = elim (Contains-append_cases (both_ways (pair n (pos 1) i j)) (both_ways (pair n (negsuc 0) i j)) g m) [
  | inl s ↦ of_both n (pair n (pos 1) i j) g (listed n (λ v. if nat_eq v i then pos 1 else if nat_eq v j then pos 1 else pos 0)) s
  | inr d ↦ of_both n (pair n (negsuc 0) i j) g (listed n (λ v. if nat_eq v i then pos 1 else if nat_eq v j then negsuc 0 else pos 0)) d
]

pub comparison : (n : ℕ) (g : Linear) → Contains (templates_of n) g → IsComparison n g
comparison n g m =
    let ones : List Linear = flat_map (λ i. both_ways (single n i)) (range_with_len 0 n) in
    let pairs : List Linear = flat_map (λ i. flat_map (λ j. pair_templates n i j) (range_with_len (suc i) (n - suc i))) (range_with_len 0 n) in
    elim (Contains-append_cases ones pairs g m) [
      | inl s ↦ let r = from_flat (λ i. both_ways (single n i)) (range_with_len 0 n) g s in of_both n (single n r.0) g (listed n (λ v. if nat_eq v r.0 then pos 1 else pos 0)) r.2
      | inr p ↦
          let r = from_flat (λ i. flat_map (λ j. pair_templates n i j) (range_with_len (suc i) (n - suc i))) (range_with_len 0 n) g p in
          let q = from_flat (λ j. pair_templates n r.0 j) (range_with_len (suc r.0) (n - suc r.0)) g r.2 in
          of_pair n r.0 q.0 g q.2
    ]

pub marked : {X : Type 0} (marks : List Bool) (xs : List X) (x : X) → Contains (items_where_true marks xs) x → Contains xs x
marked [] xs x m = absurd (contains_none x m)
marked (b ∷ marks) [] x m = absurd (contains_none x m)
marked (true ∷ marks) (y ∷ xs) x m = elim (contains_cases y (items_where_true marks xs) x m) [
  | inl e ↦ subst (λ z. Contains (y ∷ xs) z) e (contains_head y xs)
  | inr t ↦ contains_tail y xs x (marked marks xs x t)
]
marked (false ∷ marks) (y ∷ xs) x m = contains_tail y xs x (marked marks xs x m)

-- ---- values
negated_length : (c : List ℤ) (n : ℕ) → length c ≡ n → length (map neg_ℤ c) ≡ n
negated_length c n len = length-map c neg_ℤ ∙ len

below_value : (c e x : List ℤ) (n : ℕ) → length c ≡ n → length e ≡ n → whole_value (at_most_entry c) (e ++ x) ≡ (sum_at c e +ℤ neg_ℤ (sum_at c x)) +ℤ pos 0
below_value c e x n len same = ap (λ s. s +ℤ pos 0) (sum_joined c (map neg_ℤ c) e x (len ∙ sym same) ∙ ap (λ s. sum_at c e +ℤ s) (sum_negative c x))

above_value : (c e x : List ℤ) (n : ℕ) → length c ≡ n → length e ≡ n → whole_value (at_least_entry c) (e ++ x) ≡ (neg_ℤ (sum_at c e) +ℤ sum_at c x) +ℤ pos 0
above_value c e x n len same = ap (λ s. s +ℤ pos 0) (sum_joined (map neg_ℤ c) c e x (negated_length c n len ∙ sym same) ∙ ap (λ s. s +ℤ sum_at c x) (sum_negative c e))

-- at the entry both sides are the same
pub holds_at_entry : (n : ℕ) (g : Linear) (e : List ℤ) → length e ≡ n → IsComparison n g → HoldsAtWhole g (e ++ e)
holds_at_entry n g e same (below c len is) = record { not_negative = subst (λ (h : Linear). pos 0 ≤ℤ whole_value h (e ++ e)) (sym is) (low (sum_at c e) _ (below_value c e e n len same)) }
  where
    low : (s v : ℤ) → v ≡ (s +ℤ neg_ℤ s) +ℤ pos 0 → pos 0 ≤ℤ v
    low s v value = omega (arith, ints, value)
holds_at_entry n g e same (above c len is) = record { not_negative = subst (λ (h : Linear). pos 0 ≤ℤ whole_value h (e ++ e)) (sym is) (low (sum_at c e) _ (above_value c e e n len same)) }
  where
    low : (s v : ℤ) → v ≡ (neg_ℤ s +ℤ s) +ℤ pos 0 → pos 0 ≤ℤ v
    low s v value = omega (arith, ints, value)

-- what stands behind the sizes of a visit has no part
pub value_at_visit : (n : ℕ) (g : Linear) (e x zs : List ℤ) → length e ≡ n → length x ≡ n → IsComparison n g → whole_value g (e ++ (x ++ zs)) ≡ whole_value g (e ++ x)
value_at_visit n g e x zs same size (below c len is) =
    subst (λ (h : Linear). whole_value h (e ++ (x ++ zs)) ≡ whole_value h (e ++ x)) (sym is)
    (below_value c e (x ++ zs) n len same ∙ ap (λ s. (sum_at c e +ℤ neg_ℤ s) +ℤ pos 0) (sum_front c x zs (len ∙ sym size)) ∙ sym (below_value c e x n len same))
value_at_visit n g e x zs same size (above c len is) =
    subst (λ (h : Linear). whole_value h (e ++ (x ++ zs)) ≡ whole_value h (e ++ x)) (sym is)
    (above_value c e (x ++ zs) n len same ∙ ap (λ s. (neg_ℤ (sum_at c e) +ℤ s) +ℤ pos 0) (sum_front c x zs (len ∙ sym size)) ∙ sym (above_value c e x n len same))

-- after a step an expression is worth what it is at the entry and the next sizes
pub stepped_value : (n : ℕ) (next : List Linear) (g : Linear) (e y : List ℤ) → length e ≡ n → whole_value (stepped n next g) (e ++ y) ≡ whole_value g (e ++ next_wholes next y)
stepped_value n next g e y len =
    let all = first_variables n ++ map (shifted n) next in
    (step_on_wholes g all (pos 0) (e ++ y)).moved
    ∙ ap (λ (zs : List ℤ). whole_value g zs) (next_joined (first_variables n) (map (shifted n) next) (e ++ y) ∙ ap (λ (zs : List ℤ). zs ++ next_wholes (map (shifted n) next) (e ++ y)) (first_values n e y len) ∙ ap (λ (zs : List ℤ). e ++ zs) (shifted_values n next e y len))
