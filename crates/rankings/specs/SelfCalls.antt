-- The calls of rules, and the steps that calls of a node by itself make (Albert, Arenas, Genaim, Puebla and Zanardini: the
-- recursive calls of a cost relation).
use Rattle.std.specs.Prelude.{ℕ, suc, nat_eq, List, [], ◌∷◌, ◌++◌, map, filter}
use Rattle.lin_rows.specs.Linear.{Linear}
use Rattle.lin_rows.specs.declared.row.Row.{Row}
use Rattle.lin_rows.specs.declared.row.Transition.{Transition}
use Rattle.rule_terms.specs.declared.item.Item.{Item}
use Rattle.rule_terms.specs.declared.item.Item.TheVariants.{Assume, Spend, Fresh, Call}

-- the rows that items ask for, in order
abbrev pub rows_of : List Item → List Row
rows_of [] = []
rows_of (Assume row ∷ rest) = row ∷ rows_of rest
rows_of (Spend n ∷ rest) = rows_of rest
rows_of (Fresh v ∷ rest) = rows_of rest
rows_of (Call node args ∷ rest) = rows_of rest

-- A call: the number of its rule and its own among all calls of the rule, both from 1; the items before it, and what is
-- called.
pub record Site : Type 0 where
  pub rule : ℕ
  pub call : ℕ
  pub before : List Item
  pub node : ℕ
  pub args : List Linear

-- the calls of a rule of which some items are gone by already; the next call has the number j
abbrev pub sites_from : ℕ → ℕ → List Item → List Item → List Site
sites_from i j before [] = []
sites_from i j before (Assume row ∷ rest) = sites_from i j (before ++ Assume row ∷ []) rest
sites_from i j before (Spend n ∷ rest) = sites_from i j (before ++ Spend n ∷ []) rest
sites_from i j before (Fresh v ∷ rest) = sites_from i j (before ++ Fresh v ∷ []) rest
sites_from i j before (Call node args ∷ rest) =
    record { rule = i; call = j; before = before; node = node; args = args } ∷ sites_from i (suc j) (before ++ Call node args ∷ []) rest

-- the calls of rules, of which the first has the number i
abbrev pub rules_sites : ℕ → List (List Item) → List Site
rules_sites i [] = []
rules_sites i (rule ∷ rules) = sites_from i 1 [] rule ++ rules_sites (suc i) rules

abbrev pub sites_of : List (List Item) → List Site
sites_of rules = rules_sites 1 rules

-- those of the node itself, in the order of rules and calls
abbrev pub self_sites : ℕ → List (List Item) → List Site
self_sites self rules = filter (λ (s : Site). nat_eq s.node self) (sites_of rules)

-- the step that a call makes: its rows are those before the call, and the next sizes are its arguments
abbrev pub step_of : Site → Transition
step_of s = record { rows = rows_of s.before; next = s.args }

abbrev pub self_steps : ℕ → List (List Item) → List Transition
self_steps self rules = map step_of (self_sites self rules)
