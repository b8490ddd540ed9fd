-- Items whose variables are replaced: what passes and is spent is that at the values of what they are replaced by. So is a
-- valuation with the same values.
use Rattle.std.proofs.Common.{◌≡◌, ◌≢◌, ℕ, ◌+◌, ℤ, pos, ◌≤ℤ◌, List, [], ◌∷◌, ◌++◌, ◌⊎◌, map, inl, inr, refl, sym, ap, ◌∙◌, subst}
use Rattle.lin_rows.specs.Linear.{Linear, coefficient_of}
use Rattle.lin_rows.specs.Points.{whole_value, HoldsAtWhole}
use Rattle.lin_rows.specs.Transitions.{after, next_wholes}
use Rattle.lin_rows.proofs.StepValues.{step_on_wholes}
use Rattle.rule_terms.specs.declared.item.Item.{Item}
use Rattle.rule_terms.specs.declared.item.Item.TheVariants.{Assume, Spend, Fresh, Call}
use Rattle.relation_runs.specs.Passing.{Amounts, ItemsPass, ItemsSpend}
use Rattle.relation_runs.specs.Leading.{variable}
use Rattle.relation_runs.specs.Changed.{item_after, items_after}
use Rattle.relation_runs.proofs.Values.{AgreesOn, AgreesOnAll, holds_same, values_same}

-- ---- expressions
pub value_after : (l : Linear) (next : List Linear) (zs : List ℤ) → whole_value (after l next) zs ≡ whole_value l (next_wholes next zs)
value_after l next zs = (step_on_wholes l next (pos 0) zs).moved

pub values_after : (ls next : List Linear) (zs : List ℤ) → next_wholes (map (λ (l : Linear). after l next) ls) zs ≡ next_wholes ls (next_wholes next zs)
values_after [] next zs = refl
values_after (l ∷ ls) next zs =
    ap (λ z. z ∷ next_wholes (map (λ (k : Linear). after k next) ls) zs) (value_after l next zs) ∙ ap (λ ys. whole_value l (next_wholes next zs) ∷ ys) (values_after ls next zs)

holds_after : (l : Linear) (next : List Linear) (zs : List ℤ) → HoldsAtWhole (after l next) zs → HoldsAtWhole l (next_wholes next zs)
holds_after l next zs h = record { not_negative = subst (λ z. pos 0 ≤ℤ z) (value_after l next zs) h.not_negative }

holds_before : (l : Linear) (next : List Linear) (zs : List ℤ) → HoldsAtWhole l (next_wholes next zs) → HoldsAtWhole (after l next) zs
holds_before l next zs h = record { not_negative = subst (λ z. pos 0 ≤ℤ z) (sym (value_after l next zs)) h.not_negative }

-- ---- items
module _ (next : List Linear) (f : ℕ → ℕ) (zs : List ℤ) where
  pub pass_after : (P : Amounts) (items : List Item) (c : ℕ) → ItemsPass P zs (items_after next f items) c → ItemsPass P (next_wholes next zs) items c
  pass_after P [] c p = p
  pass_after P (Assume row ∷ rest) c p = (holds_after row.lin next zs p.0, pass_after P rest c p.1)
  pass_after P (Spend n ∷ rest) c p = (p.0, p.1, pass_after P rest p.0 p.2)
  pass_after P (Fresh v ∷ rest) c p = pass_after P rest c p
  pass_after P (Call node args ∷ rest) c p = (p.0, p.1, p.2, subst (λ v. P node v p.0) (values_after args next zs) p.3, pass_after P rest p.1 p.4)

  pub pass_before : (P : Amounts) (items : List Item) (c : ℕ) → ItemsPass P (next_wholes next zs) items c → ItemsPass P zs (items_after next f items) c
  pass_before P [] c p = p
  pass_before P (Assume row ∷ rest) c p = (holds_before row.lin next zs p.0, pass_before P rest c p.1)
  pass_before P (Spend n ∷ rest) c p = (p.0, p.1, pass_before P rest p.0 p.2)
  pass_before P (Fresh v ∷ rest) c p = pass_before P rest c p
  pass_before P (Call node args ∷ rest) c p = (p.0, p.1, p.2, subst (λ v. P node v p.0) (sym (values_after args next zs)) p.3, pass_before P rest p.1 p.4)

  pub spend_after : (P S : Amounts) (items : List Item) (c : ℕ) → ItemsSpend P S zs (items_after next f items) c → ItemsSpend P S (next_wholes next zs) items c
  spend_after P S [] c p = p
  spend_after P S (Assume row ∷ rest) c (inl e) = inl e
  spend_after P S (Assume row ∷ rest) c (inr p) = inr (holds_after row.lin next zs p.0, spend_after P S rest c p.1)
  spend_after P S (Spend n ∷ rest) c (inl e) = inl e
  spend_after P S (Spend n ∷ rest) c (inr p) = inr (p.0, p.1, spend_after P S rest p.0 p.2)
  spend_after P S (Fresh v ∷ rest) c p = spend_after P S rest c p
  spend_after P S (Call node args ∷ rest) c (inl e) = inl e
  spend_after P S (Call node args ∷ rest) c (inr (inl s)) = inr (inl (subst (λ v. S node v c) (values_after args next zs) s))
  spend_after P S (Call node args ∷ rest) c (inr (inr p)) =
      inr (inr (p.0, p.1, p.2, subst (λ v. P node v p.0) (values_after args next zs) p.3, spend_after P S rest p.1 p.4))

  pub spend_before : (P S : Amounts) (items : List Item) (c : ℕ) → ItemsSpend P S (next_wholes next zs) items c → ItemsSpend P S zs (items_after next f items) c
  spend_before P S [] c p = p
  spend_before P S (Assume row ∷ rest) c (inl e) = inl e
  spend_before P S (Assume row ∷ rest) c (inr p) = inr (holds_before row.lin next zs p.0, spend_before P S rest c p.1)
  spend_before P S (Spend n ∷ rest) c (inl e) = inl e
  spend_before P S (Spend n ∷ rest) c (inr p) = inr (p.0, p.1, spend_before P S rest p.0 p.2)
  spend_before P S (Fresh v ∷ rest) c p = spend_before P S rest c p
  spend_before P S (Call node args ∷ rest) c (inl e) = inl e
  spend_before P S (Call node args ∷ rest) c (inr (inl s)) = inr (inl (subst (λ v. S node v c) (sym (values_after args next zs)) s))
  spend_before P S (Call node args ∷ rest) c (inr (inr p)) =
      inr (inr (p.0, p.1, p.2, subst (λ v. P node v p.0) (sym (values_after args next zs)) p.3, spend_before P S rest p.1 p.4))

-- ---- valuations that have the same values of what is named
abbrev pub AgreesAt : Item → List ℤ → List ℤ → Type 0
AgreesAt (Assume row) xs ys = AgreesOn row.lin xs ys
AgreesAt (Spend n) xs ys = Unit {0}
AgreesAt (Fresh v) xs ys = Unit {0}
AgreesAt (Call node args) xs ys = AgreesOnAll args xs ys

abbrev pub AgreesAlong : List Item → List ℤ → List ℤ → Type 0
AgreesAlong [] xs ys = Unit {0}
AgreesAlong (item ∷ rest) xs ys = AgreesAt item xs ys × AgreesAlong rest xs ys

pub pass_same : (P : Amounts) (xs ys : List ℤ) (items : List Item) (c : ℕ) → AgreesAlong items xs ys → ItemsPass P xs items c → ItemsPass P ys items c
pass_same P xs ys [] c a p = p
pass_same P xs ys (Assume row ∷ rest) c a p = (holds_same row.lin xs ys a.0 p.0, pass_same P xs ys rest c a.1 p.1)
pass_same P xs ys (Spend n ∷ rest) c a p = (p.0, p.1, pass_same P xs ys rest p.0 a.1 p.2)
pass_same P xs ys (Fresh v ∷ rest) c a p = pass_same P xs ys rest c a.1 p
pass_same P xs ys (Call node args ∷ rest) c a p = (p.0, p.1, p.2, subst (λ v. P node v p.0) (values_same args xs ys a.0) p.3, pass_same P xs ys rest p.1 a.1 p.4)

pub spend_same : (P S : Amounts) (xs ys : List ℤ) (items : List Item) (c : ℕ) → AgreesAlong items xs ys → ItemsSpend P S xs items c → ItemsSpend P S ys items c
spend_same P S xs ys [] c a p = p
spend_same P S xs ys (Assume row ∷ rest) c a (inl e) = inl e
spend_same P S xs ys (Assume row ∷ rest) c a (inr p) = inr (holds_same row.lin xs ys a.0 p.0, spend_same P S xs ys rest c a.1 p.1)
spend_same P S xs ys (Spend n ∷ rest) c a (inl e) = inl e
spend_same P S xs ys (Spend n ∷ rest) c a (inr p) = inr (p.0, p.1, spend_same P S xs ys rest p.0 a.1 p.2)
spend_same P S xs ys (Fresh v ∷ rest) c a p = spend_same P S xs ys rest c a.1 p
spend_same P S xs ys (Call node args ∷ rest) c a (inl e) = inl e
spend_same P S xs ys (Call node args ∷ rest) c a (inr (inl s)) = inr (inl (subst (λ v. S node v c) (values_same args xs ys a.0) s))
spend_same P S xs ys (Call node args ∷ rest) c a (inr (inr p)) =
    inr (inr (p.0, p.1, p.2, subst (λ v. P node v p.0) (values_same args xs ys a.0) p.3, spend_same P S xs ys rest p.1 a.1 p.4))

all_agree : (ls : List Linear) (xs ys : List ℤ) → ((i : ℕ) → variable xs i ≡ variable ys i) → AgreesOnAll ls xs ys
all_agree [] xs ys same = tt
all_agree (l ∷ ls) xs ys same = (λ i n. same i, all_agree ls xs ys same)

-- valuations with the same values agree on all items
pub agrees_everywhere : (xs ys : List ℤ) → ((i : ℕ) → variable xs i ≡ variable ys i) → (items : List Item) → AgreesAlong items xs ys
agrees_everywhere xs ys same [] = tt
agrees_everywhere xs ys same (Assume row ∷ rest) = (λ i n. same i, agrees_everywhere xs ys same rest)
agrees_everywhere xs ys same (Spend n ∷ rest) = (tt, agrees_everywhere xs ys same rest)
agrees_everywhere xs ys same (Fresh v ∷ rest) = (tt, agrees_everywhere xs ys same rest)
agrees_everywhere xs ys same (Call node args ∷ rest) = (all_agree args xs ys same, agrees_everywhere xs ys same rest)
