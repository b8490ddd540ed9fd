-- The closed forms of nodes one after another, callees first.
use Rattle.std.specs.Prelude.{◌≡◌, ◌≢◌, ℕ, ◌≤◌, ℤ, Bool, List, [], ◌∷◌, Contains}
use Rattle.lin_rows.specs.Linear.{Linear}
use Rattle.relation_runs.specs.Passing.{Ways}
use Rattle.bound_terms.specs.Terms.{Term}
use Rattle.bound_terms.specs.Values.{value_of}
use Rattle.node_forms.specs.Parts.{Ruled, items_in}
use Rattle.node_forms.specs.Costs.{NodeForms, costs_of}
use Rattle.node_forms.specs.Forms.{Ranking, height_of, form_of}
use Rattle.node_forms.specs.Bounding.{Setting, NodeHolds}
use Rattle.node_forms.specs.Laws.{Calls, Bounds}

-- a node with what is said of it
pub record Closed : Type 0 where
  pub self : ℕ
  pub recursive : Bool
  pub kept : List Linear
  pub ranking : Ranking
  pub rules : List Ruled

abbrev pub setting_of : (ℕ → ℕ) → NodeForms → Closed → Setting
setting_of sizes forms n = record { self = n.self; sizes = sizes; forms = forms; recursive = n.recursive; kept = n.kept }

abbrev pub closed_form : NodeForms → Closed → Term
closed_form forms n = form_of (costs_of n.self forms n.rules) (height_of n.ranking)

-- What is said of the node holds, the term that is kept for it is worth its closed form at least, and each other node that it
-- calls is done.
pub record IsClosed (ways : Ways) (sizes : ℕ → ℕ) (forms : NodeForms) (done : List ℕ) (n : Closed) : Type 0 where
  pub rules_are : ways n.self ≡ items_in n.rules
  pub holds : NodeHolds (setting_of sizes forms n) n.ranking n.rules
  pub worth : (v : List ℤ) → value_of v (closed_form forms n) ≤ value_of v (forms n.self)
  pub callees : (node : ℕ) → node ≢ n.self → Calls n.rules node → Contains done node

-- each node of the order, behind some that are done
abbrev pub AreClosed : Ways → (ℕ → ℕ) → NodeForms → List ℕ → List Closed → Type 0
AreClosed ways sizes forms done [] = Unit {0}
AreClosed ways sizes forms done (n ∷ rest) = IsClosed ways sizes forms done n × AreClosed ways sizes forms (n.self ∷ done) rest

-- each node of the order is bounded
abbrev pub OrdersAreBounded : Type 0
OrdersAreBounded =
    (ways : Ways) (sizes : ℕ → ℕ) (forms : NodeForms) (nodes : List Closed) (n : Closed)
    → AreClosed ways sizes forms [] nodes → Contains nodes n → Bounds ways sizes n.self (forms n.self)
