-- What makes the form of a node a bound: contradictions, gates, drops and caps that hold, however they are found.
use Rattle.std.specs.Prelude.{◌≡◌, ℕ, ◌<◌, ◌≤◌, nat_eq, pos, Bool, true, false, List, [], ◌∷◌, ◌++◌, length, take, Contains, Some}
use Rattle.std.specs.List.{flat_map}
use Rattle.lin_rows.specs.declared.row.Transition.{Transition}
use Rattle.lin_rows.specs.Linear.{Linear}
use Rattle.lin_rows.specs.Rows.{lins}
use Rattle.lin_rows.specs.Transitions.{after, drop_of}
use Rattle.rule_terms.specs.declared.item.Item.{Item}
use Rattle.rule_terms.specs.declared.item.Item.TheVariants.{Assume, Spend, Fresh, Call}
use Rattle.bound_terms.specs.Terms.{Floored}
use Rattle.rankings.specs.SelfCalls.{rows_of, self_steps}
use Rattle.rankings.specs.Entailment.{Entails, AreContradictory}
use Rattle.rankings.specs.Rankings.{IsOverSizes, raised}
use Rattle.rankings.specs.Templates.{IsInductive}
use Rattle.rankings.specs.Caps.{IsCapThere}
use Rattle.rankings.specs.Visits.{HaveSizes}
use Rattle.node_forms.specs.Parts.{Part, Dead, Leaf, Gate, Cap, Ruled, cap_of, next_caps, later_caps, self_calls, calls_itself}
use Rattle.node_forms.specs.Floors.{floors_of, IsProper}
use Rattle.node_forms.specs.Costs.{NodeForms}
use Rattle.node_forms.specs.Forms.{Ranking}

-- ---- steps
-- the self calls of recursive rules
abbrev pub part_steps : ℕ → List Item → Part → List Transition
part_steps self items (Dead p) = []
part_steps self items Leaf = []
part_steps self items (Gate p) = self_steps self (items ∷ [])

abbrev pub gated_steps : ℕ → List Ruled → List Transition
gated_steps self rules = flat_map (λ (r : Ruled). part_steps self r.items r.part) rules

-- f falls by d at least with the step, whatever rows hold
abbrev pub FallsWith : Ranking → Transition → Type 0
FallsWith r step = Entails (lins step.rows) (drop_of r.f step.next (pos r.d))

-- ---- parts
abbrev pub PartHolds : ℕ → Ranking → List Item → Part → Type 0
PartHolds self r items (Dead p) = (self_calls self (take p items) ≡ 0) × AreContradictory (lins (rows_of (take p items)))
PartHolds self r items Leaf = self_calls self items ≡ 0
PartHolds self r items (Gate p) =
    (0 < self_calls self items) × (self_calls self (take p items) ≡ 0) × Entails (lins (rows_of (take p items))) (raised r.f r.c)

-- the items that cost
abbrev pub counted : List Item → Part → List Item
counted items (Dead p) = take p items
counted items Leaf = items
counted items (Gate p) = items

-- ---- caps
-- how many sizes each node has, and what is known at each visit of the node
pub record Setting : Type 0 where
  pub self : ℕ
  pub sizes : ℕ → ℕ
  pub forms : NodeForms
  pub recursive : Bool
  pub kept : List Linear

-- the expression has a cap among these where the rows hold
abbrev pub HasCap : Setting → List Linear → List Cap → Linear → Linear → Type 0
HasCap s rows caps l at_call = (c : Cap) × (cap_of caps l ≡ Some c) × IsCapThere s.recursive (s.sizes s.self) rows s.kept at_call c.cap c.divisor

-- A call of another node gives it as many arguments as it has sizes, and each expression of the node's form has a cap at these
-- arguments.
pub record IsCapped (s : Setting) (rows : List Linear) (caps : List Cap) (node : ℕ) (args : List Linear) : Type 0 where
  pub arity : length args ≡ s.sizes node
  pub proper : IsProper (s.forms node)
  pub each : (n : Floored) → Contains (floors_of (s.forms node)) n → HasCap s rows caps n.expression (after n.expression args)

abbrev pub IsCappedUnless : Bool → Setting → List Linear → List Cap → ℕ → List Linear → Type 0
IsCappedUnless true s rows caps node args = Unit {0}
IsCappedUnless false s rows caps node args = IsCapped s rows caps node args

-- each call of another node among the items, behind some others
abbrev pub AreCapped : Setting → List Item → List (List Cap) → List Item → Type 0
AreCapped s front caps [] = Unit {0}
AreCapped s front caps (Assume row ∷ rest) = AreCapped s (front ++ Assume row ∷ []) caps rest
AreCapped s front caps (Spend n ∷ rest) = AreCapped s (front ++ Spend n ∷ []) caps rest
AreCapped s front caps (Fresh v ∷ rest) = AreCapped s (front ++ Fresh v ∷ []) caps rest
AreCapped s front caps (Call node args ∷ rest) =
    IsCappedUnless (nat_eq node s.self) s (lins (rows_of front)) (next_caps caps) node args
    × AreCapped s (front ++ Call node args ∷ []) (later_caps caps) rest

-- ---- the node
pub record RuleHolds (s : Setting) (r : Ranking) (rule : Ruled) : Type 0 where
  pub part : PartHolds s.self r rule.items rule.part
  pub capped : AreCapped s [] rule.caps (counted rule.items rule.part)

pub record NodeHolds (s : Setting) (r : Ranking) (rules : List Ruled) : Type 0 where
  pub drop : 1 ≤ r.d
  pub over : IsOverSizes (s.sizes s.self) r.f
  pub calls : s.recursive ≡ calls_itself s.self rules
  pub each : (rule : Ruled) → Contains rules rule → RuleHolds s r rule
  pub sizes_are : HaveSizes (s.sizes s.self) (gated_steps s.self rules)
  pub falls : (step : Transition) → Contains (gated_steps s.self rules) step → FallsWith r step
  pub inductive : IsInductive (s.sizes s.self) (gated_steps s.self rules) s.kept
