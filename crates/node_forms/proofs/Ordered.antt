-- Nodes in an order with callees first are bounded one after another.
use Rattle.std.proofs.Common.{ℕ, List, [], ◌∷◌, Contains, subst, arith, inl, inr}
use Rattle.common_laws.proofs.Members.{contains_cases, contains_none}
use Rattle.relation_runs.specs.Passing.{Ways}
use Rattle.node_forms.specs.Costs.{NodeForms}
use Rattle.node_forms.specs.Laws.{Bounds}
use Rattle.node_forms.specs.Orders.{Closed, setting_of, IsClosed, AreClosed, OrdersAreBounded}
use Rattle.node_forms.proofs.Nodes.{nodes_are_bounded}

module _ (ways : Ways) (sizes : ℕ → ℕ) (forms : NodeForms) where
  one_bounded : (done : List ℕ) (n : Closed) → ((node : ℕ) → Contains done node → Bounds ways sizes node (forms node)) → IsClosed ways sizes forms done n → Bounds ways sizes n.self (forms n.self)
  one_bounded done n before is v c len p =
      let low = nodes_are_bounded ways (setting_of sizes forms n) n.ranking n.rules is.rules_are is.holds (λ node apart calls. before node (is.callees node apart calls)) v c len p in
      let worth = is.worth v in
      omega (arith, low, worth)

  pub all_bounded : (done : List ℕ) (nodes : List Closed) → ((node : ℕ) → Contains done node → Bounds ways sizes node (forms node)) → AreClosed ways sizes forms done nodes
      → (n : Closed) → Contains nodes n → Bounds ways sizes n.self (forms n.self)
  all_bounded done [] before are n m = absurd (contains_none n m)
  all_bounded done (x ∷ rest) before are n m =
      let own = one_bounded done x before are.0 in
      elim (contains_cases x rest n m) [
        | inl e ↦ subst (λ (y : Closed). Bounds ways sizes y.self (forms y.self)) e own
        | inr t ↦ all_bounded (x.self ∷ done) rest (λ node there. elim (contains_cases x.self done node there) [
          | inl e ↦ subst (λ (k : ℕ). Bounds ways sizes k (forms k)) e own
          | inr d ↦ before node d
        ]) are.1 n t
      ]

pub orders_are_bounded : OrdersAreBounded
orders_are_bounded ways sizes forms nodes n are m = all_bounded ways sizes forms [] nodes (λ node there. absurd (contains_none node there)) are n m
