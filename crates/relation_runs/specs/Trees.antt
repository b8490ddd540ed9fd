-- The same of terms: each variable that is made on the way takes its own place in the valuation.
use Rattle.std.specs.Prelude.{◌≡◌, ◌⊎◌, ℕ, zero, suc, ◌+◌, ℤ, pos, List, [], ◌∷◌}
use Rattle.lin_rows.specs.Points.{HoldsAtWhole}
use Rattle.lin_rows.specs.Transitions.{next_wholes}
use Rattle.rule_terms.specs.declared.item.Item.{Item}
use Rattle.rule_terms.specs.declared.item.Item.TheVariants.{Assume, Spend, Fresh, Call}
use Rattle.rule_terms.specs.Terms.{Term, Ends, Assumes, Spends, Makes, Calls, Either}
use Rattle.relation_runs.specs.Passing.{Amounts}

-- the valuation with a variable set; places in between are 0
abbrev pub variable_set : List ℤ → ℕ → ℤ → List ℤ
variable_set [] zero z = z ∷ []
variable_set [] (suc v) z = pos 0 ∷ variable_set [] v z
variable_set (x ∷ xs) zero z = z ∷ xs
variable_set (x ∷ xs) (suc v) z = x ∷ variable_set xs v z

-- from the values so far on, the term passes at this amount
abbrev pub TermPasses : Amounts → List ℤ → Term → ℕ → Type 0
TermPasses P zs Ends c = c ≡ 0
TermPasses P zs (Assumes row rest) c = HoldsAtWhole row.lin zs × TermPasses P zs rest c
TermPasses P zs (Spends n rest) c = (k : ℕ) × (c ≡ n + k) × TermPasses P zs rest k
TermPasses P zs (Makes v rest) c = (z : ℤ) × TermPasses P (variable_set zs v z) rest c
TermPasses P zs (Calls node args rest) c = (a : ℕ) × (k : ℕ) × (c ≡ a + k) × P node (next_wholes args zs) a × TermPasses P zs rest k
TermPasses P zs (Either first second) c = TermPasses P zs first c ⊎ TermPasses P zs second c

-- and a front of it, at whose end a call may be spent, spends this amount
abbrev pub TermSpends : Amounts → Amounts → List ℤ → Term → ℕ → Type 0
TermSpends P S zs Ends c = c ≡ 0
TermSpends P S zs (Assumes row rest) c = (c ≡ 0) ⊎ (HoldsAtWhole row.lin zs × TermSpends P S zs rest c)
TermSpends P S zs (Spends n rest) c = (c ≡ 0) ⊎ ((k : ℕ) × (c ≡ n + k) × TermSpends P S zs rest k)
TermSpends P S zs (Makes v rest) c = (z : ℤ) × TermSpends P S (variable_set zs v z) rest c
TermSpends P S zs (Calls node args rest) c =
    (c ≡ 0) ⊎ (S node (next_wholes args zs) c ⊎ ((a : ℕ) × (k : ℕ) × (c ≡ a + k) × P node (next_wholes args zs) a × TermSpends P S zs rest k))
TermSpends P S zs (Either first second) c = TermSpends P S zs first c ⊎ TermSpends P S zs second c

-- the same of one way
abbrev pub WayPasses : Amounts → List ℤ → List Item → ℕ → Type 0
WayPasses P zs [] c = c ≡ 0
WayPasses P zs (Assume row ∷ rest) c = HoldsAtWhole row.lin zs × WayPasses P zs rest c
WayPasses P zs (Spend n ∷ rest) c = (k : ℕ) × (c ≡ n + k) × WayPasses P zs rest k
WayPasses P zs (Fresh v ∷ rest) c = (z : ℤ) × WayPasses P (variable_set zs v z) rest c
WayPasses P zs (Call node args ∷ rest) c = (a : ℕ) × (k : ℕ) × (c ≡ a + k) × P node (next_wholes args zs) a × WayPasses P zs rest k

abbrev pub WaySpends : Amounts → Amounts → List ℤ → List Item → ℕ → Type 0
WaySpends P S zs [] c = c ≡ 0
WaySpends P S zs (Assume row ∷ rest) c = (c ≡ 0) ⊎ (HoldsAtWhole row.lin zs × WaySpends P S zs rest c)
WaySpends P S zs (Spend n ∷ rest) c = (c ≡ 0) ⊎ ((k : ℕ) × (c ≡ n + k) × WaySpends P S zs rest k)
WaySpends P S zs (Fresh v ∷ rest) c = (z : ℤ) × WaySpends P S (variable_set zs v z) rest c
WaySpends P S zs (Call node args ∷ rest) c =
    (c ≡ 0) ⊎ (S node (next_wholes args zs) c ⊎ ((a : ℕ) × (k : ℕ) × (c ≡ a + k) × P node (next_wholes args zs) a × WaySpends P S zs rest k))
