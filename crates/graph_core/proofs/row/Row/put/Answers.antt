use Rattle.std.proofs.Common.{ℕ, ◌≡◌, ◌⊎◌, ◌↔◌, List, Contains, sym, subst}
use Rattle.std.specs.List.{insert}
use Rattle.graph_core.specs.Graphs.{IsRising}
use Rattle.graph_core.proofs.Rows.{IsRising-insert, Contains-insert, insertion_place}
use Rattle.graph_core.proofs.row.Row.put.Goals as goal

pub invariant_of-self-in-Err : goal.invariant_of-self-in-Err
invariant_of-self-in-Err c =
    let place = insertion_place c.self.inside.nodes.items _ c.args.node c.in-Err.place c.deref.ensures.value c.in-Err.ensures.position c.self.invariant in
    subst IsRising (sym c.in_ok-insert-in-Err.ensures.items) (IsRising-insert _ _ _ place.0 c.self.invariant place.1 place.2)

pub returns-in_ok-insert-in-Err-clause-added : goal.returns-in_ok-insert-in-Err-clause-added
returns-in_ok-insert-in-Err-clause-added c =
    let place = insertion_place c.self.inside.nodes.items _ c.args.node c.in-Err.place c.deref.ensures.value c.in-Err.ensures.position c.self.invariant in
    λ x. subst (λ (ys : List ℕ). Contains ys x ↔ (Contains c.args.self.now x ⊎ (x ≡ c.args.node))) (sym c.in_ok-insert-in-Err.ensures.items) (subst (λ (ys : List ℕ). Contains (insert c.self.inside.nodes.items c.in-Err.place c.args.node) x ↔ (Contains ys x ⊎ (x ≡ c.args.node))) c.self.view_is (Contains-insert c.self.inside.nodes.items c.in-Err.place c.args.node place.0 x))
