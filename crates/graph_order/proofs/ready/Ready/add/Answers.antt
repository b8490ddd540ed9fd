use Rattle.std.proofs.Common.{ℕ, ◌↔◌, ◌⊎◌, ◌≡◌, List, Contains, subst, sym}
use Rattle.graph_order.proofs.Keys.{Contains-insert_key}
use Rattle.graph_order.proofs.ready.Ready.add.Goals as goal

pub returns-clause-added : goal.returns-clause-added
returns-clause-added c =
    subst (λ (old : List ℕ). (x : ℕ) → Contains c.insert.new.self.keys x ↔ (Contains old x ⊎ (x ≡ c.args.node))) c.self.view_is (subst (λ (keys : List ℕ). (x : ℕ) → Contains keys x ↔ (Contains c.self.inside.nodes.keys x ⊎ (x ≡ c.args.node))) (sym c.in_ok-insert.ensures.keys) (Contains-insert_key c.args.node c.self.inside.nodes.keys))
