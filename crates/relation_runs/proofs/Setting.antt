-- On a way in scope, setting each variable as it is made comes to one valuation for the whole way.
use Rattle.std.proofs.Common.{◌≡◌, ◌≢◌, ◌⊎◌, inl, inr, ℕ, zero, suc, ◌+◌, ◌<◌, nat_lt, nat_eq, Bool, true, false, not, ◌&&◌, ◌||◌, ℤ, pos, List, [], ◌∷◌, ◌++◌, length, drop, get_or, IsTrue, refl, sym, ap, ◌∙◌, subst, arith}
use Rattle.std.specs.List.{list_any, list_all}
use Rattle.std.specs.Ordering.{int_eq}
use Rattle.std.proofs.lemmas.Bool.{ltb-true, lt-ltb, eqb-true}
use Rattle.std.proofs.lemmas.Bool.Decides.{Decides-int_eq}
use Rattle.lin_rows.specs.Linear.{Linear, coefficient_of}
use Rattle.lin_rows.specs.Transitions.{next_wholes}
use Rattle.rule_terms.specs.declared.item.Item.{Item}
use Rattle.rule_terms.specs.declared.item.Item.TheVariants.{Assume, Spend, Fresh, Call}
use Rattle.relations.specs.Scope.{is_bound, coefficients_bound, lin_bound, IsScoped}
use Rattle.relation_runs.specs.Passing.{Amounts, ItemsPass, ItemsSpend}
use Rattle.relation_runs.specs.Leading.{variable}
use Rattle.relation_runs.specs.Trees.{variable_set, WayPasses, WaySpends}
use Rattle.relation_runs.proofs.Values.{AgreesOn, AgreesOnAll, holds_same, values_same, variable_left, variable_joined}
use Rattle.relation_runs.proofs.Replaced.{pass_same, spend_same, agrees_everywhere}

-- ---- a variable that is set
pub set_here : (zs : List ℤ) (v : ℕ) (z : ℤ) → variable (variable_set zs v z) v ≡ z
set_here [] zero z = refl
set_here [] (suc v) z = set_here [] v z
set_here (x ∷ xs) zero z = refl
set_here (x ∷ xs) (suc v) z = set_here xs v z

pub set_other : (zs : List ℤ) (v : ℕ) (z : ℤ) (i : ℕ) → i ≢ v → variable (variable_set zs v z) i ≡ variable zs i
set_other [] zero z zero h = absurd (h refl)
set_other [] zero z (suc i) h = refl
set_other [] (suc v) z zero h = refl
set_other [] (suc v) z (suc i) h = set_other [] v z i (λ e. h (ap suc e))
set_other (x ∷ xs) zero z zero h = absurd (h refl)
set_other (x ∷ xs) zero z (suc i) h = refl
set_other (x ∷ xs) (suc v) z zero h = refl
set_other (x ∷ xs) (suc v) z (suc i) h = set_other xs v z i (λ e. h (ap suc e))

-- where variables are numbered in order a valuation grows at its end
pub set_grows : (zs : List ℤ) (z : ℤ) → variable_set zs (length zs) z ≡ zs ++ z ∷ []
set_grows [] z = refl
set_grows (x ∷ xs) z = ap (λ ys. x ∷ ys) (set_grows xs z)

-- ---- tests
pub not_true : (b : Bool) → not b ≡ true → b ≡ false
not_true true e = absurd (let f : ⊥ = cc in f)
not_true false e = refl

pub both_left : (a b : Bool) → (a && b) ≡ true → a ≡ true
both_left true b e = refl
both_left false b e = absurd (let f : ⊥ = cc in f)

pub both_right : (a b : Bool) → (a && b) ≡ true → b ≡ true
both_right true b e = e
both_right false b e = absurd (let f : ⊥ = cc in f)

or_between : (a b c : Bool) → (a || b) ≡ true → (a || (c || b)) ≡ true
or_between true b c e = refl
or_between false b true e = refl
or_between false b false e = e

or_cases : (a b c : Bool) → (a || (c || b)) ≡ true → (c ≡ true) ⊎ ((a || b) ≡ true)
or_cases true b c e = inr refl
or_cases false b true e = inl refl
or_cases false b false e = inr e

or_last : (a b : Bool) → a ≡ false → (a || b) ≡ true → b ≡ true
or_last true b e f = absurd (let g : ⊥ = cc in g)
or_last false b e f = f

or_false : (a : Bool) → (a || false) ≡ true → a ≡ true
or_false true e = refl
or_false false e = e

or_first : (a b : Bool) → a ≡ true → (a || b) ≡ true
or_first true b e = refl
or_first false b e = absurd (let f : ⊥ = cc in f)

not_test : (b : Bool) {P : Type 0} → (b ≡ true → P) → ¬ P → b ≡ false
not_test true d n = absurd (n (d refl))
not_test false d n = refl

zero_equal : (c : ℤ) → c ≢ pos 0 → int_eq c (pos 0) ≡ false
zero_equal c n = not_test (int_eq c (pos 0)) (λ e. (Decides-int_eq c (pos 0)).0 e) n

-- ---- what is bound
pub bound_more : (sizes : ℕ) (made : List ℕ) (v i : ℕ) → is_bound sizes made i ≡ true → is_bound sizes (v ∷ made) i ≡ true
bound_more sizes made v i e = or_between (nat_lt i sizes) (list_any (nat_eq i) made) (nat_eq i v) e

pub bound_cases : (sizes : ℕ) (made : List ℕ) (v i : ℕ) → is_bound sizes (v ∷ made) i ≡ true → (i ≡ v) ⊎ (is_bound sizes made i ≡ true)
bound_cases sizes made v i e = elim (or_cases (nat_lt i sizes) (list_any (nat_eq i) made) (nat_eq i v) e) [ inl t ↦ inl (eqb-true i v t) | inr b ↦ inr b ]

pub bound_apart : (sizes : ℕ) (made : List ℕ) (v i : ℕ) → is_bound sizes made v ≡ false → is_bound sizes made i ≡ true → i ≢ v
bound_apart sizes made v i free bound e = let f : true ≡ false = sym bound ∙ ap (is_bound sizes made) e ∙ free in let g : ⊥ = cc in g

pub coefficient_bound : (sizes : ℕ) (made : List ℕ) (i : ℕ) (cs : List ℤ) (k : ℕ) → coefficients_bound sizes made i cs ≡ true → get_or cs k (pos 0) ≢ pos 0 → is_bound sizes made (i + k) ≡ true
coefficient_bound sizes made i [] k e n = absurd (n refl)
coefficient_bound sizes made i (c ∷ cs) zero e n =
    subst (λ j. is_bound sizes made j ≡ true) (let z : i ≡ i + 0 = omega arith in z)
    (or_last (int_eq c (pos 0)) (is_bound sizes made i) (zero_equal c n) (both_left (int_eq c (pos 0) || is_bound sizes made i) (coefficients_bound sizes made (suc i) cs) e))
coefficient_bound sizes made i (c ∷ cs) (suc k) e n =
    subst (λ j. is_bound sizes made j ≡ true) (let z : suc i + k ≡ i + suc k = omega arith in z)
    (coefficient_bound sizes made (suc i) cs k (both_right (int_eq c (pos 0) || is_bound sizes made i) (coefficients_bound sizes made (suc i) cs) e) n)

module _ (nodes : List ℕ) (sizes : ℕ) where
  -- the bound variables have the same values
  abbrev pub AgreesBound : List ℕ → List ℤ → List ℤ → Type 0
  AgreesBound made xs ys = (i : ℕ) → is_bound sizes made i ≡ true → variable xs i ≡ variable ys i

  lin_agrees : (made : List ℕ) (l : Linear) (xs ys : List ℤ) → lin_bound sizes made l ≡ true → AgreesBound made xs ys → AgreesOn l xs ys
  lin_agrees made l xs ys e same i n = same i (subst (λ j. is_bound sizes made j ≡ true) (let z : 0 + i ≡ i = omega arith in z) (coefficient_bound sizes made 0 l.coefficients i e n))

  args_agree : (made : List ℕ) (args : List Linear) (xs ys : List ℤ) → list_all (λ (l : Linear). lin_bound sizes made l) args ≡ true → AgreesBound made xs ys → AgreesOnAll args xs ys
  args_agree made [] xs ys e same = tt
  args_agree made (a ∷ args) xs ys e same = (
    lin_agrees made a xs ys (both_left (lin_bound sizes made a) (list_all (λ (k : Linear). lin_bound sizes made k) args) e) same,
    args_agree made args xs ys (both_right (lin_bound sizes made a) (list_all (λ (k : Linear). lin_bound sizes made k) args) e) same,
  )

  swapped : (made : List ℕ) (xs ys : List ℤ) → AgreesBound made xs ys → AgreesBound made ys xs
  swapped made xs ys same i b = sym (same i b)

  -- before a variable is set
  before_set : (made : List ℕ) (v : ℕ) (z : ℤ) (xs rho : List ℤ) → is_bound sizes made v ≡ false → AgreesBound (v ∷ made) xs (variable_set rho v z) → AgreesBound made xs rho
  before_set made v z xs rho free same i b = same i (bound_more sizes made v i b) ∙ set_other rho v z i (bound_apart sizes made v i free b)

  -- and behind it
  behind_set : (made : List ℕ) (v : ℕ) (xs rho : List ℤ) → is_bound sizes made v ≡ false → AgreesBound made xs rho → AgreesBound (v ∷ made) xs (variable_set rho v (variable xs v))
  behind_set made v xs rho free same i b = elim (bound_cases sizes made v i b) [
    | inl e ↦ ap (variable xs) e ∙ sym (set_here rho v (variable xs v)) ∙ ap (variable (variable_set rho v (variable xs v))) (sym e)
    | inr old ↦ same i old ∙ sym (set_other rho v (variable xs v) i (bound_apart sizes made v i free old))
  ]

  is_new : (made : List ℕ) (v : ℕ) → IsTrue (not (is_bound sizes made v)) → is_bound sizes made v ≡ false
  is_new made v e = not_true (is_bound sizes made v) e

  range_of : (node : ℕ) (made : List ℕ) (args : List Linear) → IsTrue (nat_lt node (length nodes) && list_all (λ (l : Linear). lin_bound sizes made l) args) → list_all (λ (l : Linear). lin_bound sizes made l) args ≡ true
  range_of node made args e = both_right (nat_lt node (length nodes)) (list_all (λ (l : Linear). lin_bound sizes made l) args) e

  -- one valuation for the whole way
  pub record Flat (made : List ℕ) (rho : List ℤ) (Goal : List ℤ → Type 0) : Type 0 where
    pub zs : List ℤ
    pub same : AgreesBound made zs rho
    pub is : Goal zs

  pub flat_pass : (P : Amounts) (made : List ℕ) (rho : List ℤ) (way : List Item) (c : ℕ) → IsScoped nodes sizes made way → WayPasses P rho way c → Flat made rho (λ zs. ItemsPass P zs way c)
  flat_pass P made rho [] c s p = record { zs = rho; same = λ i b. refl; is = p }
  flat_pass P made rho (Assume row ∷ rest) c s p =
      let r = flat_pass P made rho rest c s.2 p.1 in
      record { zs = r.zs; same = r.same; is = (holds_same row.lin rho r.zs (lin_agrees made row.lin rho r.zs s.0 (swapped made r.zs rho r.same)) p.0, r.is) }
  flat_pass P made rho (Spend n ∷ rest) c s p =
      let r = flat_pass P made rho rest p.0 s.2 p.2 in record { zs = r.zs; same = r.same; is = (p.0, p.1, r.is) }
  flat_pass P made rho (Fresh v ∷ rest) c s p =
      let r = flat_pass P (v ∷ made) (variable_set rho v p.0) rest c s.2 p.1 in
      record { zs = r.zs; same = before_set made v p.0 r.zs rho (is_new made v s.0) r.same; is = r.is }
  flat_pass P made rho (Call node args ∷ rest) c s p =
      let r = flat_pass P made rho rest p.1 s.2 p.4 in
      let values = values_same args rho r.zs (args_agree made args rho r.zs (range_of node made args s.0) (swapped made r.zs rho r.same)) in
      record { zs = r.zs; same = r.same; is = (p.0, p.1, p.2, subst (λ v. P node v p.0) values p.3, r.is) }

  pub set_pass : (P : Amounts) (made : List ℕ) (zs rho : List ℤ) (way : List Item) (c : ℕ) → IsScoped nodes sizes made way → AgreesBound made zs rho → ItemsPass P zs way c → WayPasses P rho way c
  set_pass P made zs rho [] c s same p = p
  set_pass P made zs rho (Assume row ∷ rest) c s same p = (holds_same row.lin zs rho (lin_agrees made row.lin zs rho s.0 same) p.0, set_pass P made zs rho rest c s.2 same p.1)
  set_pass P made zs rho (Spend n ∷ rest) c s same p = (p.0, p.1, set_pass P made zs rho rest p.0 s.2 same p.2)
  set_pass P made zs rho (Fresh v ∷ rest) c s same p =
      (variable zs v, set_pass P (v ∷ made) zs (variable_set rho v (variable zs v)) rest c s.2 (behind_set made v zs rho (is_new made v s.0) same) p)
  set_pass P made zs rho (Call node args ∷ rest) c s same p =
      (p.0, p.1, p.2, subst (λ v. P node v p.0) (values_same args zs rho (args_agree made args zs rho (range_of node made args s.0) same)) p.3, set_pass P made zs rho rest p.1 s.2 same p.4)

  pub flat_spend : (P S : Amounts) (made : List ℕ) (rho : List ℤ) (way : List Item) (c : ℕ) → IsScoped nodes sizes made way → WaySpends P S rho way c → Flat made rho (λ zs. ItemsSpend P S zs way c)
  flat_spend P S made rho [] c s p = record { zs = rho; same = λ i b. refl; is = p }
  flat_spend P S made rho (Assume row ∷ rest) c s (inl e) = record { zs = rho; same = λ i b. refl; is = inl e }
  flat_spend P S made rho (Assume row ∷ rest) c s (inr p) =
      let r = flat_spend P S made rho rest c s.2 p.1 in
      record { zs = r.zs; same = r.same; is = inr (holds_same row.lin rho r.zs (lin_agrees made row.lin rho r.zs s.0 (swapped made r.zs rho r.same)) p.0, r.is) }
  flat_spend P S made rho (Spend n ∷ rest) c s (inl e) = record { zs = rho; same = λ i b. refl; is = inl e }
  flat_spend P S made rho (Spend n ∷ rest) c s (inr p) =
      let r = flat_spend P S made rho rest p.0 s.2 p.2 in record { zs = r.zs; same = r.same; is = inr (p.0, p.1, r.is) }
  flat_spend P S made rho (Fresh v ∷ rest) c s p =
      let r = flat_spend P S (v ∷ made) (variable_set rho v p.0) rest c s.2 p.1 in
      record { zs = r.zs; same = before_set made v p.0 r.zs rho (is_new made v s.0) r.same; is = r.is }
  flat_spend P S made rho (Call node args ∷ rest) c s (inl e) = record { zs = rho; same = λ i b. refl; is = inl e }
  flat_spend P S made rho (Call node args ∷ rest) c s (inr (inl q)) = record { zs = rho; same = λ i b. refl; is = inr (inl q) }
  flat_spend P S made rho (Call node args ∷ rest) c s (inr (inr p)) =
      let r = flat_spend P S made rho rest p.1 s.2 p.4 in
      let values = values_same args rho r.zs (args_agree made args rho r.zs (range_of node made args s.0) (swapped made r.zs rho r.same)) in
      record { zs = r.zs; same = r.same; is = inr (inr (p.0, p.1, p.2, subst (λ v. P node v p.0) values p.3, r.is)) }

  pub set_spend : (P S : Amounts) (made : List ℕ) (zs rho : List ℤ) (way : List Item) (c : ℕ) → IsScoped nodes sizes made way → AgreesBound made zs rho → ItemsSpend P S zs way c → WaySpends P S rho way c
  set_spend P S made zs rho [] c s same p = p
  set_spend P S made zs rho (Assume row ∷ rest) c s same (inl e) = inl e
  set_spend P S made zs rho (Assume row ∷ rest) c s same (inr p) = inr (holds_same row.lin zs rho (lin_agrees made row.lin zs rho s.0 same) p.0, set_spend P S made zs rho rest c s.2 same p.1)
  set_spend P S made zs rho (Spend n ∷ rest) c s same (inl e) = inl e
  set_spend P S made zs rho (Spend n ∷ rest) c s same (inr p) = inr (p.0, p.1, set_spend P S made zs rho rest p.0 s.2 same p.2)
  set_spend P S made zs rho (Fresh v ∷ rest) c s same p =
      (variable zs v, set_spend P S (v ∷ made) zs (variable_set rho v (variable zs v)) rest c s.2 (behind_set made v zs rho (is_new made v s.0) same) p)
  set_spend P S made zs rho (Call node args ∷ rest) c s same (inl e) = inl e
  set_spend P S made zs rho (Call node args ∷ rest) c s same (inr (inl q)) =
      inr (inl (subst (λ v. S node v c) (values_same args zs rho (args_agree made args zs rho (range_of node made args s.0) same)) q))
  set_spend P S made zs rho (Call node args ∷ rest) c s same (inr (inr p)) =
      inr (inr (
        p.0,
        p.1,
        p.2,
        subst (λ v. P node v p.0) (values_same args zs rho (args_agree made args zs rho (range_of node made args s.0) same)) p.3,
        set_spend P S made zs rho rest p.1 s.2 same p.4,
      ))

-- ---- at the sizes of a node
pub bound_size : (sizes i : ℕ) → is_bound sizes [] i ≡ true → i < sizes
bound_size sizes i e = ltb-true i sizes (or_false (nat_lt i sizes) e)

pub size_bound : (sizes i : ℕ) → i < sizes → is_bound sizes [] i ≡ true
size_bound sizes i low = or_first (nat_lt i sizes) false (lt-ltb i sizes low)

pub way_flat : (P : Amounts) (nodes : List ℕ) (v : List ℤ) (way : List Item) (c : ℕ) → IsScoped nodes (length v) [] way → WayPasses P v way c → (zs : List ℤ) × ItemsPass P (v ++ zs) way c
way_flat P nodes v way c s p =
    let r = flat_pass nodes (length v) P [] v way c s p in
    let joined = variable_joined v r.zs (λ i low. r.same i (size_bound (length v) i low)) in
    (drop (length v) r.zs, pass_same P r.zs (v ++ drop (length v) r.zs) way c (agrees_everywhere r.zs (v ++ drop (length v) r.zs) (λ i. sym (joined i)) way) r.is)

pub flat_way : (P : Amounts) (nodes : List ℕ) (v zs : List ℤ) (way : List Item) (c : ℕ) → IsScoped nodes (length v) [] way → ItemsPass P (v ++ zs) way c → WayPasses P v way c
flat_way P nodes v zs way c s p = set_pass nodes (length v) P [] (v ++ zs) v way c s (λ i b. variable_left v zs i (bound_size (length v) i b)) p

pub spent_flat : (P S : Amounts) (nodes : List ℕ) (v : List ℤ) (way : List Item) (c : ℕ) → IsScoped nodes (length v) [] way → WaySpends P S v way c → (zs : List ℤ) × ItemsSpend P S (v ++ zs) way c
spent_flat P S nodes v way c s p =
    let r = flat_spend nodes (length v) P S [] v way c s p in
    let joined = variable_joined v r.zs (λ i low. r.same i (size_bound (length v) i low)) in
    (drop (length v) r.zs, spend_same P S r.zs (v ++ drop (length v) r.zs) way c (agrees_everywhere r.zs (v ++ drop (length v) r.zs) (λ i. sym (joined i)) way) r.is)

pub flat_spent : (P S : Amounts) (nodes : List ℕ) (v zs : List ℤ) (way : List Item) (c : ℕ) → IsScoped nodes (length v) [] way → ItemsSpend P S (v ++ zs) way c → WaySpends P S v way c
flat_spent P S nodes v zs way c s p = set_spend nodes (length v) P S [] (v ++ zs) v way c s (λ i b. variable_left v zs i (bound_size (length v) i b)) p
