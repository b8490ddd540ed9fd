use Rattle.std.proofs.Common.{ℕ, refl, length, subst, sym}
use Rattle.plain_graphs.specs.Plain.{AreLists}
use Rattle.plain_graphs.proofs.trunks.make_plain.Goals as goal

pub trunks_of-requires-clause-lists : goal.trunks_of-requires-clause-lists
trunks_of-requires-clause-lists c =
    subst (AreLists (length c.args.graph.now)) (sym c.deref.ensures.value) (subst (λ (n : ℕ). AreLists n c.in_ok-lists.lists.items) c.nodes-nodes.ensures.value c.in_ok-lists.ensures)

pub returns : goal.returns
returns c =
    (refl, refl, record { within = c.requires; lists = subst (λ (n : ℕ). AreLists n c.in_ok-lists.lists.items) c.nodes-nodes.ensures.value c.in_ok-lists.ensures; count = c.in_ok-trunks.ensures.count; trunks = c.in_ok-trunks.ensures.trunks })
