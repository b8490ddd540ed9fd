-- What items and rules of a node cost at most, where its self calls cost nothing.
use Rattle.std.specs.Prelude.{ℕ, nat_eq, max, Bool, false, List, [], ◌∷◌, ◌++◌, map, take, if◌then◌else◌}
use Rattle.std.specs.List.{flat_map, list_any}
use Rattle.rule_terms.specs.declared.item.Item.{Item}
use Rattle.rule_terms.specs.declared.item.Item.TheVariants.{Assume, Spend, Fresh, Call}
use Rattle.bound_terms.specs.Terms.{Term, Number, Total, terms}
use Rattle.node_forms.specs.Parts.{Part, Dead, Leaf, Gate, Cap, Ruled, next_caps, later_caps, self_calls, items_eq}
use Rattle.node_forms.specs.Floors.{capped}

-- the closed form of each node that is called
abbrev pub NodeForms : Type 0
NodeForms = ℕ → Term

-- each spend, and for each call of another node its form with caps
abbrev pub item_costs : ℕ → NodeForms → List (List Cap) → List Item → List Term
item_costs self forms caps [] = []
item_costs self forms caps (Assume row ∷ rest) = item_costs self forms caps rest
item_costs self forms caps (Spend n ∷ rest) = Number n ∷ item_costs self forms caps rest
item_costs self forms caps (Fresh v ∷ rest) = item_costs self forms caps rest
item_costs self forms caps (Call node args ∷ rest) =
    if nat_eq node self then item_costs self forms (later_caps caps) rest
    else capped (next_caps caps) (forms node) ∷ item_costs self forms (later_caps caps) rest

abbrev pub cost_of : ℕ → NodeForms → List (List Cap) → List Item → Term
cost_of self forms caps items = Total (terms (item_costs self forms caps items))

-- the rule, and its first so many items
abbrev pub rule_cost : ℕ → NodeForms → Ruled → Term
rule_cost self forms r = cost_of self forms r.caps r.items

abbrev pub front_cost : ℕ → NodeForms → Ruled → ℕ → Term
front_cost self forms r p = cost_of self forms r.caps (take p r.items)

-- ---- dead rules past a gate: those that begin with the same items up to the gate of a recursive rule
abbrev pub opens : Part → List Item → List Item → Bool
opens (Dead p) items other = false
opens Leaf items other = false
opens (Gate p) items other = items_eq (take p items) (take p other)

abbrev pub is_past_gate : List Ruled → List Item → Bool
is_past_gate rules items = list_any (λ (r : Ruled). opens r.part r.items items) rules

-- ---- what each rule costs, by its part
abbrev pub recursive_cost : ℕ → NodeForms → Ruled → Part → List Term
recursive_cost self forms r (Dead p) = []
recursive_cost self forms r Leaf = []
recursive_cost self forms r (Gate p) = rule_cost self forms r ∷ []

abbrev pub gate_cost : ℕ → NodeForms → Ruled → Part → List Term
gate_cost self forms r (Dead p) = []
gate_cost self forms r Leaf = []
gate_cost self forms r (Gate p) = front_cost self forms r p ∷ []

abbrev pub leaf_cost : ℕ → NodeForms → Ruled → Part → List Term
leaf_cost self forms r (Dead p) = []
leaf_cost self forms r Leaf = rule_cost self forms r ∷ []
leaf_cost self forms r (Gate p) = []

abbrev pub dead_cost : ℕ → NodeForms → Ruled → Part → List Term
dead_cost self forms r (Dead p) = front_cost self forms r p ∷ []
dead_cost self forms r Leaf = []
dead_cost self forms r (Gate p) = []

abbrev pub past_cost : ℕ → NodeForms → List Ruled → Ruled → List Term
past_cost self forms rules r = if is_past_gate rules r.items then dead_cost self forms r r.part else []

abbrev pub other_dead_cost : ℕ → NodeForms → List Ruled → Ruled → List Term
other_dead_cost self forms rules r = if is_past_gate rules r.items then [] else dead_cost self forms r r.part

abbrev pub branching : ℕ → Ruled → Part → ℕ
branching self r (Dead p) = 0
branching self r Leaf = 0
branching self r (Gate p) = self_calls self r.items

-- the greatest of numbers
abbrev pub most : List ℕ → ℕ
most [] = 0
most (n ∷ ns) = max n (most ns)

-- ---- the node
-- the costs of one visit and of the last one, of which the greatest counts, and how many self calls a recursive rule has at
-- most: 0 where there is none
pub record Costs : Type 0 where
  pub visit : List Term
  pub last : List Term
  pub calls : ℕ

abbrev pub visit_costs : ℕ → NodeForms → List Ruled → List Term
visit_costs self forms rules =
    flat_map (λ (r : Ruled). recursive_cost self forms r r.part) rules ++ flat_map (past_cost self forms rules) rules

abbrev pub last_costs : ℕ → NodeForms → List Ruled → List Term
last_costs self forms rules =
    flat_map (λ (r : Ruled). gate_cost self forms r r.part) rules
    ++ (flat_map (λ (r : Ruled). leaf_cost self forms r r.part) rules ++ flat_map (other_dead_cost self forms rules) rules)

abbrev pub costs_of : ℕ → NodeForms → List Ruled → Costs
costs_of self forms rules = record {
  visit = visit_costs self forms rules;
  last = last_costs self forms rules;
  calls = most (map (λ (r : Ruled). branching self r r.part) rules);
}
