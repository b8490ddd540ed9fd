-- Lists of items that pass and spend, whatever passes and spends in the called nodes.
use Rattle.std.proofs.Common.{◌≡◌, ℕ, ◌+◌, ℤ, List, [], ◌∷◌, ◌++◌, ◌⊎◌, inl, inr, refl, subst, sym, arith}
use Rattle.lin_rows.specs.Transitions.{next_wholes}
use Rattle.rule_terms.specs.declared.item.Item.{Item}
use Rattle.rule_terms.specs.declared.item.Item.TheVariants.{Assume, Spend, Fresh, Call}
use Rattle.relation_runs.specs.Passing.{Amounts, ItemsPass, ItemsSpend}

-- ---- more is passed and spent where more is in the called nodes
abbrev pub Within : Amounts → Amounts → Type 0
Within P Q = (n : ℕ) (v : List ℤ) (c : ℕ) → P n v c → Q n v c

pub pass_more : (P Q : Amounts) → Within P Q → (zs : List ℤ) (items : List Item) (c : ℕ) → ItemsPass P zs items c → ItemsPass Q zs items c
pass_more P Q w zs [] c p = p
pass_more P Q w zs (Assume row ∷ rest) c p = (p.0, pass_more P Q w zs rest c p.1)
pass_more P Q w zs (Spend n ∷ rest) c p = (p.0, p.1, pass_more P Q w zs rest p.0 p.2)
pass_more P Q w zs (Fresh v ∷ rest) c p = pass_more P Q w zs rest c p
pass_more P Q w zs (Call n args ∷ rest) c p = (p.0, p.1, p.2, w n (next_wholes args zs) p.0 p.3, pass_more P Q w zs rest p.1 p.4)

pub spend_more : (P Q S T : Amounts) → Within P Q → Within S T → (zs : List ℤ) (items : List Item) (c : ℕ) → ItemsSpend P S zs items c → ItemsSpend Q T zs items c
spend_more P Q S T w u zs [] c p = p
spend_more P Q S T w u zs (Assume row ∷ rest) c (inl e) = inl e
spend_more P Q S T w u zs (Assume row ∷ rest) c (inr p) = inr (p.0, spend_more P Q S T w u zs rest c p.1)
spend_more P Q S T w u zs (Spend n ∷ rest) c (inl e) = inl e
spend_more P Q S T w u zs (Spend n ∷ rest) c (inr p) = inr (p.0, p.1, spend_more P Q S T w u zs rest p.0 p.2)
spend_more P Q S T w u zs (Fresh v ∷ rest) c p = spend_more P Q S T w u zs rest c p
spend_more P Q S T w u zs (Call n args ∷ rest) c (inl e) = inl e
spend_more P Q S T w u zs (Call n args ∷ rest) c (inr (inl s)) = inr (inl (u n (next_wholes args zs) c s))
spend_more P Q S T w u zs (Call n args ∷ rest) c (inr (inr p)) = inr (inr (p.0, p.1, p.2, w n (next_wholes args zs) p.0 p.3, spend_more P Q S T w u zs rest p.1 p.4))

-- ---- prefixes
pub spend_nothing : (P S : Amounts) (zs : List ℤ) (items : List Item) → ItemsSpend P S zs items 0
spend_nothing P S zs [] = refl
spend_nothing P S zs (Assume row ∷ rest) = inl refl
spend_nothing P S zs (Spend n ∷ rest) = inl refl
spend_nothing P S zs (Fresh v ∷ rest) = spend_nothing P S zs rest
spend_nothing P S zs (Call n args ∷ rest) = inl refl

-- what passes is spent
pub pass_spends : (P S : Amounts) (zs : List ℤ) (items : List Item) (c : ℕ) → ItemsPass P zs items c → ItemsSpend P S zs items c
pass_spends P S zs [] c p = p
pass_spends P S zs (Assume row ∷ rest) c p = inr (p.0, pass_spends P S zs rest c p.1)
pass_spends P S zs (Spend n ∷ rest) c p = inr (p.0, p.1, pass_spends P S zs rest p.0 p.2)
pass_spends P S zs (Fresh v ∷ rest) c p = pass_spends P S zs rest c p
pass_spends P S zs (Call n args ∷ rest) c p = inr (inr (p.0, p.1, p.2, p.3, pass_spends P S zs rest p.1 p.4))

-- ---- cut and joined
summed : (n k c a b : ℕ) → c ≡ n + k → k ≡ a + b → c ≡ n + a + b
summed n k c a b e f = omega arith

added : (n k a b : ℕ) → a ≡ n + k → a + b ≡ n + (k + b)
added n k a b e = omega arith

-- an amount of the front and one of the back
pub record Cuts (F B : ℕ → Type 0) (c : ℕ) : Type 0 where
  pub front : ℕ
  pub back : ℕ
  pub sum : c ≡ front + back
  pub fronts : F front
  pub backs : B back

pub pass_cut : (P : Amounts) (zs : List ℤ) (front back : List Item) (c : ℕ) → ItemsPass P zs (front ++ back) c → Cuts (ItemsPass P zs front) (ItemsPass P zs back) c
pass_cut P zs [] back c p = record { front = 0; back = c; sum = omega arith; fronts = refl; backs = p }
pass_cut P zs (Assume row ∷ rest) back c p =
    let r = pass_cut P zs rest back c p.1 in
    record { front = r.front; back = r.back; sum = r.sum; fronts = (p.0, r.fronts); backs = r.backs }
pass_cut P zs (Spend n ∷ rest) back c p =
    let r = pass_cut P zs rest back p.0 p.2 in
    record { front = n + r.front; back = r.back; sum = summed n p.0 c r.front r.back p.1 r.sum; fronts = (r.front, refl, r.fronts); backs = r.backs }
pass_cut P zs (Fresh v ∷ rest) back c p = pass_cut P zs rest back c p
pass_cut P zs (Call node args ∷ rest) back c p =
    let r = pass_cut P zs rest back p.1 p.4 in
    record { front = p.0 + r.front; back = r.back; sum = summed p.0 p.1 c r.front r.back p.2 r.sum; fronts = (p.0, r.front, refl, p.3, r.fronts); backs = r.backs }

pub pass_joined : (P : Amounts) (zs : List ℤ) (front back : List Item) (a b : ℕ) → ItemsPass P zs front a → ItemsPass P zs back b → ItemsPass P zs (front ++ back) (a + b)
pass_joined P zs [] back a b p q = subst (ItemsPass P zs back) (let e : b ≡ a + b = omega arith in e) q
pass_joined P zs (Assume row ∷ rest) back a b p q = (p.0, pass_joined P zs rest back a b p.1 q)
pass_joined P zs (Spend n ∷ rest) back a b p q = (p.0 + b, added n p.0 a b p.1, pass_joined P zs rest back p.0 b p.2 q)
pass_joined P zs (Fresh v ∷ rest) back a b p q = pass_joined P zs rest back a b p q
pass_joined P zs (Call node args ∷ rest) back a b p q = (p.0, p.1 + b, added p.0 p.1 a b p.2, p.3, pass_joined P zs rest back p.1 b p.4 q)

-- what a front spends, the whole spends
pub spend_front : (P S : Amounts) (zs : List ℤ) (front back : List Item) (c : ℕ) → ItemsSpend P S zs front c → ItemsSpend P S zs (front ++ back) c
spend_front P S zs [] back c p = subst (ItemsSpend P S zs back) (sym p) (spend_nothing P S zs back)
spend_front P S zs (Assume row ∷ rest) back c (inl e) = inl e
spend_front P S zs (Assume row ∷ rest) back c (inr p) = inr (p.0, spend_front P S zs rest back c p.1)
spend_front P S zs (Spend n ∷ rest) back c (inl e) = inl e
spend_front P S zs (Spend n ∷ rest) back c (inr p) = inr (p.0, p.1, spend_front P S zs rest back p.0 p.2)
spend_front P S zs (Fresh v ∷ rest) back c p = spend_front P S zs rest back c p
spend_front P S zs (Call node args ∷ rest) back c (inl e) = inl e
spend_front P S zs (Call node args ∷ rest) back c (inr (inl s)) = inr (inl s)
spend_front P S zs (Call node args ∷ rest) back c (inr (inr p)) = inr (inr (p.0, p.1, p.2, p.3, spend_front P S zs rest back p.1 p.4))

-- a front that passes, and what the back spends
pub spend_joined : (P S : Amounts) (zs : List ℤ) (front back : List Item) (a b : ℕ) → ItemsPass P zs front a → ItemsSpend P S zs back b → ItemsSpend P S zs (front ++ back) (a + b)
spend_joined P S zs [] back a b p q = subst (ItemsSpend P S zs back) (let e : b ≡ a + b = omega arith in e) q
spend_joined P S zs (Assume row ∷ rest) back a b p q = inr (p.0, spend_joined P S zs rest back a b p.1 q)
spend_joined P S zs (Spend n ∷ rest) back a b p q = inr (p.0 + b, added n p.0 a b p.1, spend_joined P S zs rest back p.0 b p.2 q)
spend_joined P S zs (Fresh v ∷ rest) back a b p q = spend_joined P S zs rest back a b p q
spend_joined P S zs (Call node args ∷ rest) back a b p q = inr (inr (p.0, p.1 + b, added p.0 p.1 a b p.2, p.3, spend_joined P S zs rest back p.1 b p.4 q))

-- what the whole spends, its front spends, or its front passes and the back spends the rest
pub spend_cut : (P S : Amounts) (zs : List ℤ) (front back : List Item) (c : ℕ) → ItemsSpend P S zs (front ++ back) c → ItemsSpend P S zs front c ⊎ Cuts (ItemsPass P zs front) (ItemsSpend P S zs back) c
spend_cut P S zs [] back c p = inr (record { front = 0; back = c; sum = omega arith; fronts = refl; backs = p })
spend_cut P S zs (Assume row ∷ rest) back c (inl e) = inl (inl e)
spend_cut P S zs (Assume row ∷ rest) back c (inr p) = elim (spend_cut P S zs rest back c p.1) [
  | inl s ↦ inl (inr (p.0, s))
  | inr r ↦ inr (record { front = r.front; back = r.back; sum = r.sum; fronts = (p.0, r.fronts); backs = r.backs })
]
spend_cut P S zs (Spend n ∷ rest) back c (inl e) = inl (inl e)
spend_cut P S zs (Spend n ∷ rest) back c (inr p) = elim (spend_cut P S zs rest back p.0 p.2) [
  | inl s ↦ inl (inr (p.0, p.1, s))
  | inr r ↦ inr (record { front = n + r.front; back = r.back; sum = summed n p.0 c r.front r.back p.1 r.sum; fronts = (r.front, refl, r.fronts); backs = r.backs })
]
spend_cut P S zs (Fresh v ∷ rest) back c p = spend_cut P S zs rest back c p
spend_cut P S zs (Call node args ∷ rest) back c (inl e) = inl (inl e)
spend_cut P S zs (Call node args ∷ rest) back c (inr (inl s)) = inl (inr (inl s))
spend_cut P S zs (Call node args ∷ rest) back c (inr (inr p)) = elim (spend_cut P S zs rest back p.1 p.4) [
  | inl s ↦ inl (inr (inr (p.0, p.1, p.2, p.3, s)))
  | inr r ↦ inr (record { front = p.0 + r.front; back = r.back; sum = summed p.0 p.1 c r.front r.back p.2 r.sum; fronts = (p.0, r.front, refl, p.3, r.fronts); backs = r.backs })
]
