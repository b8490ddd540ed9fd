-- What joined items pass and spend, and what is spent, by a prefix.
use Rattle.std.proofs.Common.{◌≡◌, ◌⊎◌, ◌↔◌, inl, inr, ℕ, ◌+◌, ℤ, List, [], ◌∷◌, ◌++◌, refl, sym, ap, ◌∙◌, subst, arith}
use Rattle.lin_rows.specs.Linear.{Linear}
use Rattle.lin_rows.specs.Transitions.{next_wholes}
use Rattle.rule_terms.specs.declared.item.Item.{Item}
use Rattle.rule_terms.specs.declared.item.Item.TheVariants.{Assume, Spend, Fresh, Call}
use Rattle.relation_runs.specs.Passing.{Amounts, Ways, ItemsPass, ItemsSpend, PassesBelow, SpendsBelow}
use Rattle.relation_runs.specs.Laws.{IsPrefixCost}
use Rattle.relation_runs.proofs.Items.{pass_cut, pass_joined, pass_spends, spend_front, spend_joined, spend_cut}

pub pass_joins : (P : Amounts) (zs : List ℤ) (front back : List Item) (c : ℕ) → ItemsPass P zs (front ++ back) c ↔ ((a : ℕ) × (b : ℕ) × (c ≡ a + b) × ItemsPass P zs front a × ItemsPass P zs back b)
pass_joins P zs front back c = (
  λ p. let r = pass_cut P zs front back c p in (r.front, r.back, r.sum, r.fronts, r.backs),
  λ p. subst (ItemsPass P zs (front ++ back)) (sym p.2) (pass_joined P zs front back p.0 p.1 p.3 p.4),
)

pub spend_joins : (P S : Amounts) (zs : List ℤ) (front back : List Item) (c : ℕ) → ItemsSpend P S zs (front ++ back) c ↔ (ItemsSpend P S zs front c ⊎ ((a : ℕ) × (b : ℕ) × (c ≡ a + b) × ItemsPass P zs front a × ItemsSpend P S zs back b))
spend_joins P S zs front back c = (
  λ p. elim (spend_cut P S zs front back c p) [ inl s ↦ inl s | inr r ↦ inr (r.front, r.back, r.sum, r.fronts, r.backs) ],
  λ p. elim p [
    | inl s ↦ spend_front P S zs front back c s
    | inr q ↦ subst (ItemsSpend P S zs (front ++ back)) (sym q.2) (spend_joined P S zs front back q.0 q.1 q.3 q.4)
  ],
)

-- ---- by a prefix
grouped : (n k a b : ℕ) → k ≡ a + b → n + k ≡ n + a + b
grouped n k a b e = omega arith

-- an item that costs n before the prefix
longer : (ways : Ways) (h : ℕ) (zs : List ℤ) (item : Item) (items : List Item) (n k : ℕ) → ((front : List Item) (a : ℕ) → ItemsPass (PassesBelow ways h) zs front a → ItemsPass (PassesBelow ways h) zs (item ∷ front) (n + a)) → IsPrefixCost ways h zs items k → IsPrefixCost ways h zs (item ∷ items) (n + k)
longer ways h zs item items n k on p = elim p.3 [
  | inl q ↦ (item ∷ p.0, p.1, ap (λ xs. item ∷ xs) p.2, inl (on p.0 k q))
  | inr q ↦ (item ∷ p.0, p.1, ap (λ xs. item ∷ xs) p.2, inr (q.0, q.1, q.2, n + q.3, q.4, q.5, grouped n k q.3 q.4 q.6, on p.0 q.3 q.7, q.8))
]

-- nothing is spent by the empty prefix
none_spent : (ways : Ways) (h : ℕ) (zs : List ℤ) (items : List Item) (c : ℕ) → c ≡ 0 → IsPrefixCost ways h zs items c
none_spent ways h zs items c e = ([], items, refl, inl e)

pub spent_prefix : (ways : Ways) (h : ℕ) (zs : List ℤ) (items : List Item) (c : ℕ) → ItemsSpend (PassesBelow ways h) (SpendsBelow ways h) zs items c → IsPrefixCost ways h zs items c
spent_prefix ways h zs [] c p = none_spent ways h zs [] c p
spent_prefix ways h zs (Assume row ∷ rest) c (inl e) = none_spent ways h zs (Assume row ∷ rest) c e
spent_prefix ways h zs (Assume row ∷ rest) c (inr p) =
    subst (IsPrefixCost ways h zs (Assume row ∷ rest)) (let z : 0 + c ≡ c = omega arith in z)
    (longer ways h zs (Assume row) rest 0 c (λ front a q. (p.0, subst (ItemsPass (PassesBelow ways h) zs front) (let z : a ≡ 0 + a = omega arith in z) q)) (spent_prefix ways h zs rest c p.1))
spent_prefix ways h zs (Spend n ∷ rest) c (inl e) = none_spent ways h zs (Spend n ∷ rest) c e
spent_prefix ways h zs (Spend n ∷ rest) c (inr p) =
    subst (IsPrefixCost ways h zs (Spend n ∷ rest)) (sym p.1) (longer ways h zs (Spend n) rest n p.0 (λ front a q. (a, refl, q)) (spent_prefix ways h zs rest p.0 p.2))
spent_prefix ways h zs (Fresh v ∷ rest) c p =
    subst (IsPrefixCost ways h zs (Fresh v ∷ rest)) (let z : 0 + c ≡ c = omega arith in z)
    (longer ways h zs (Fresh v) rest 0 c (λ front a q. subst (ItemsPass (PassesBelow ways h) zs front) (let z : a ≡ 0 + a = omega arith in z) q) (spent_prefix ways h zs rest c p))
spent_prefix ways h zs (Call node args ∷ rest) c (inl e) = none_spent ways h zs (Call node args ∷ rest) c e
spent_prefix ways h zs (Call node args ∷ rest) c (inr (inl s)) =
    ([], Call node args ∷ rest, refl, inr (node, args, rest, 0, c, refl, (let z : c ≡ 0 + c = omega arith in z), refl, s))
spent_prefix ways h zs (Call node args ∷ rest) c (inr (inr p)) =
    subst (IsPrefixCost ways h zs (Call node args ∷ rest)) (sym p.2)
    (longer ways h zs (Call node args) rest p.0 p.1 (λ front a q. (p.0, a, refl, p.3, q)) (spent_prefix ways h zs rest p.1 p.4))

pub prefix_spent : (ways : Ways) (h : ℕ) (zs : List ℤ) (items : List Item) (c : ℕ) → IsPrefixCost ways h zs items c → ItemsSpend (PassesBelow ways h) (SpendsBelow ways h) zs items c
prefix_spent ways h zs items c p =
    let P = PassesBelow ways h in
    let S = SpendsBelow ways h in
    subst (λ xs. ItemsSpend P S zs xs c) (sym p.2) (elim p.3 [
      | inl q ↦ spend_front P S zs p.0 p.1 c (pass_spends P S zs p.0 c q)
      | inr q ↦ subst (λ back. ItemsSpend P S zs (p.0 ++ back) c) (sym q.5)
          (subst (ItemsSpend P S zs (p.0 ++ Call q.0 q.1 ∷ q.2)) (sym q.6) (spend_joined P S zs p.0 (Call q.0 q.1 ∷ q.2) q.3 q.4 q.7 (inr (inl q.8))))
    ])
