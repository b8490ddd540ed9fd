-- What a node of a cost relation passes and spends (Albert, Arenas, Genaim, Puebla and Zanardini: the cost of a
-- derivation), by the ways through its rules. A valuation gives each variable its value, the sizes first; a variable past
-- its end is 0.
use Rattle.std.specs.Prelude.{◌≡◌, ◌⊎◌, ℕ, zero, suc, ◌+◌, ℤ, List, [], ◌∷◌, ◌++◌, Contains}
use Rattle.lin_rows.specs.Points.{HoldsAtWhole}
use Rattle.lin_rows.specs.Transitions.{next_wholes}
use Rattle.rule_terms.specs.declared.item.Item.{Item}
use Rattle.rule_terms.specs.declared.item.Item.TheVariants.{Assume, Spend, Fresh, Call}

-- what is passed, or spent, in a node at sizes
abbrev pub Amounts : Type 1
Amounts = ℕ → List ℤ → ℕ → Type 0

-- the ways through each node's rules
abbrev pub Ways : Type 0
Ways = ℕ → List (List Item)

-- At the values zs each row holds, each call passes its node at the values of its arguments, and c is the sum of the spends
-- and of the amounts of the calls.
abbrev pub ItemsPass : Amounts → List ℤ → List Item → ℕ → Type 0
ItemsPass P zs [] c = c ≡ 0
ItemsPass P zs (Assume row ∷ rest) c = HoldsAtWhole row.lin zs × ItemsPass P zs rest c
ItemsPass P zs (Spend n ∷ rest) c = (k : ℕ) × (c ≡ n + k) × ItemsPass P zs rest k
ItemsPass P zs (Fresh v ∷ rest) c = ItemsPass P zs rest c
ItemsPass P zs (Call node args ∷ rest) c = (a : ℕ) × (k : ℕ) × (c ≡ a + k) × P node (next_wholes args zs) a × ItemsPass P zs rest k

-- The same of some prefix of the items, whose last item, if it is a call, may be spent in place of passed.
abbrev pub ItemsSpend : Amounts → Amounts → List ℤ → List Item → ℕ → Type 0
ItemsSpend P S zs [] c = c ≡ 0
ItemsSpend P S zs (Assume row ∷ rest) c = (c ≡ 0) ⊎ (HoldsAtWhole row.lin zs × ItemsSpend P S zs rest c)
ItemsSpend P S zs (Spend n ∷ rest) c = (c ≡ 0) ⊎ ((k : ℕ) × (c ≡ n + k) × ItemsSpend P S zs rest k)
ItemsSpend P S zs (Fresh v ∷ rest) c = ItemsSpend P S zs rest c
ItemsSpend P S zs (Call node args ∷ rest) c =
    (c ≡ 0) ⊎ (S node (next_wholes args zs) c ⊎ ((a : ℕ) × (k : ℕ) × (c ≡ a + k) × P node (next_wholes args zs) a × ItemsSpend P S zs rest k))

-- A node passes an amount at a depth below h: some way through its rules and some whole numbers for the variables behind the
-- sizes exist at which its items pass, with calls at depths below that.
abbrev pub PassesBelow : Ways → ℕ → Amounts
PassesBelow ways zero n v c = ⊥
PassesBelow ways (suc h) n v c = (way : List Item) × (zs : List ℤ) × Contains (ways n) way × ItemsPass (PassesBelow ways h) (v ++ zs) way c

-- It spends an amount at a depth below h.
abbrev pub SpendsBelow : Ways → ℕ → Amounts
SpendsBelow ways zero n v c = ⊥
SpendsBelow ways (suc h) n v c =
    (way : List Item) × (zs : List ℤ) × Contains (ways n) way × ItemsSpend (PassesBelow ways h) (SpendsBelow ways h) (v ++ zs) way c

-- at some depth
abbrev pub Passes : Ways → Amounts
Passes ways n v c = (h : ℕ) × PassesBelow ways h n v c

abbrev pub Spends : Ways → Amounts
Spends ways n v c = (h : ℕ) × SpendsBelow ways h n v c
