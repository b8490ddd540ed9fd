-- What the form of a node is good for.
use Rattle.std.specs.Prelude.{◌≡◌, ◌≢◌, ℕ, ◌≤◌, ℤ, List, length, Contains}
use Rattle.lin_rows.specs.Linear.{Linear}
use Rattle.rule_terms.specs.declared.item.Item.TheVariants.{Call}
use Rattle.relation_runs.specs.Passing.{Ways, Spends}
use Rattle.bound_terms.specs.Terms.{Term}
use Rattle.bound_terms.specs.Values.{value_of}
use Rattle.node_forms.specs.Parts.{Ruled, items_in}
use Rattle.node_forms.specs.Costs.{costs_of}
use Rattle.node_forms.specs.Forms.{Ranking, height_of, form_of}
use Rattle.node_forms.specs.Bounding.{Setting, NodeHolds}

-- some rule calls the node
abbrev pub Calls : List Ruled → ℕ → Type 0
Calls rules node = (rule : Ruled) × (args : List Linear) × Contains rules rule × Contains rule.items (Call node args)

-- whatever the node spends at so many sizes is at most the value of the term there
abbrev pub Bounds : Ways → (ℕ → ℕ) → ℕ → Term → Type 0
Bounds ways sizes node t = (v : List ℤ) (c : ℕ) → length v ≡ sizes node → Spends ways node v c → c ≤ value_of v t

-- the form bounds the node where the forms of the other nodes that it calls bound these
abbrev pub NodesAreBounded : Type 0
NodesAreBounded =
    (ways : Ways) (s : Setting) (r : Ranking) (rules : List Ruled)
    → ways s.self ≡ items_in rules → NodeHolds s r rules
    → ((node : ℕ) → node ≢ s.self → Calls rules node → Bounds ways s.sizes node (s.forms node))
    → Bounds ways s.sizes s.self (form_of (costs_of s.self s.forms rules) (height_of r))
