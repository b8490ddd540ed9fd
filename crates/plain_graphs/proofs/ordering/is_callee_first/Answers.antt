use Rattle.std.proofs.Common.{ℕ, length, sym, subst}
use Rattle.plain_graphs.specs.Plain.{AreLists}
use Rattle.plain_graphs.proofs.ordering.is_callee_first.Goals as goal

pub are_nexts-requires-clause-lists : goal.are_nexts-requires-clause-lists
are_nexts-requires-clause-lists c =
    subst (AreLists (length c.args.g.now)) (sym c.deref.ensures.value) (subst (λ (n : ℕ). AreLists n c.in_ok-lists.lists.items) c.nodes.ensures.value c.in_ok-lists.ensures)

pub has_every-requires-clause-lists : goal.has_every-requires-clause-lists
has_every-requires-clause-lists c =
    subst (AreLists (length c.args.g.now)) (sym c.deref-2.ensures.value) (subst (λ (n : ℕ). AreLists n c.in_ok-lists.lists.items) c.nodes.ensures.value c.in_ok-lists.ensures)
