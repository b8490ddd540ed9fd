-- What steps pass and spend, and what a list of items does, in one: by what may be spent in a call, and whether the run may
-- stop before its end.
use Rattle.std.specs.Prelude.{◌≡◌, ◌⊎◌, ℕ, suc, ◌+◌, ℤ, List, [], ◌∷◌}
use Rattle.lin_rows.specs.Points.{HoldsAtWhole}
use Rattle.lin_rows.specs.Transitions.{next_wholes}
use Rattle.rule_terms.specs.declared.item.Item.{Item}
use Rattle.rule_terms.specs.declared.item.Item.TheVariants.{Assume, Spend, Fresh, Call}
use Rattle.relation_runs.specs.Passing.{Amounts}
use Rattle.relation_runs.specs.Leading.{variable}
use Rattle.relation_runs.specs.Trees.{variable_set}
use Rattle.base_relations.specs.Steps.{Step, Does, Enters, Leaves}

pub record Mode : Type 1 where
  pub pass : Amounts
  -- what may be spent in a call in place of passed
  pub spend : Amounts
  -- what may be left where the run stops
  pub stop : ℕ → Type 0

abbrev pub passing : Amounts → Mode
passing P = record { pass = P; spend = λ n v c. ⊥; stop = λ c. ⊥ }

abbrev pub spending : Amounts → Amounts → Mode
spending P S = record { pass = P; spend = S; stop = λ c. c ≡ 0 }

-- ---- one item at a valuation, and what comes behind it; a variable that is made is set to what is made
abbrev pub Goes : Mode → (ℤ → Type 0) → List ℤ → Item → (List ℤ → ℕ → Type 0) → ℕ → Type 0
Goes m Made rho (Assume row) K c = m.stop c ⊎ (HoldsAtWhole row.lin rho × K rho c)
Goes m Made rho (Spend n) K c = m.stop c ⊎ ((k : ℕ) × (c ≡ n + k) × K rho k)
Goes m Made rho (Fresh v) K c = (z : ℤ) × Made z × K (variable_set rho v z) c
Goes m Made rho (Call node args) K c =
    m.stop c ⊎ (m.spend node (next_wholes args rho) c ⊎ ((a : ℕ) × (k : ℕ) × (c ≡ a + k) × m.pass node (next_wholes args rho) a × K rho k))

abbrev pub Any : ℤ → Type 0
Any z = Unit {0}

-- a way of a rule, whose variables are set as they are made
abbrev pub WayRun : Mode → List ℤ → List Item → ℕ → Type 0
WayRun m rho [] c = c ≡ 0
WayRun m rho (item ∷ rest) c = Goes m Any rho item (λ r k. WayRun m r rest k) c

-- steps, by the valuation of the rule that they are of, and of those around it
abbrev pub StepsRun : Mode → List ℤ → List (List ℤ) → List Step → ℕ → Type 0
StepsRun m rho outer [] c = c ≡ 0
StepsRun m rho outer (Does item ∷ rest) c = Goes m Any rho item (λ r k. StepsRun m r outer rest k) c
StepsRun m rho outer (Enters args ∷ rest) c = StepsRun m (next_wholes args rho) (rho ∷ outer) rest c
StepsRun m rho [] (Leaves ∷ rest) c = StepsRun m rho [] rest c
StepsRun m rho (around ∷ outer) (Leaves ∷ rest) c = StepsRun m around outer rest c

-- ---- with the values of variables given in the order in which they are made, from place n on
abbrev pub next_place : Item → ℕ → ℕ
next_place (Assume row) n = n
next_place (Spend k) n = n
next_place (Fresh v) n = suc n
next_place (Call node args) n = n

abbrev pub ChosenRun : Mode → List ℤ → ℕ → List ℤ → List (List ℤ) → List Step → ℕ → Type 0
ChosenRun m zs n rho outer [] c = c ≡ 0
ChosenRun m zs n rho outer (Does item ∷ rest) c = Goes m (λ z. z ≡ variable zs n) rho item (λ r k. ChosenRun m zs (next_place item n) r outer rest k) c
ChosenRun m zs n rho outer (Enters args ∷ rest) c = ChosenRun m zs n (next_wholes args rho) (rho ∷ outer) rest c
ChosenRun m zs n rho [] (Leaves ∷ rest) c = ChosenRun m zs n rho [] rest c
ChosenRun m zs n rho (around ∷ outer) (Leaves ∷ rest) c = ChosenRun m zs n around outer rest c

-- ---- items at one valuation
abbrev pub FlatGoes : Mode → List ℤ → Item → (ℕ → Type 0) → ℕ → Type 0
FlatGoes m zs (Assume row) K c = m.stop c ⊎ (HoldsAtWhole row.lin zs × K c)
FlatGoes m zs (Spend n) K c = m.stop c ⊎ ((k : ℕ) × (c ≡ n + k) × K k)
FlatGoes m zs (Fresh v) K c = K c
FlatGoes m zs (Call node args) K c =
    m.stop c ⊎ (m.spend node (next_wholes args zs) c ⊎ ((a : ℕ) × (k : ℕ) × (c ≡ a + k) × m.pass node (next_wholes args zs) a × K k))

abbrev pub ItemsRun : Mode → List ℤ → List Item → ℕ → Type 0
ItemsRun m zs [] c = c ≡ 0
ItemsRun m zs (item ∷ rest) c = FlatGoes m zs item (λ k. ItemsRun m zs rest k) c
