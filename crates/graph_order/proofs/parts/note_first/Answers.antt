use Rattle.graph_order.proofs.Joins.{AreFirstFrom-set}
use Rattle.graph_order.proofs.parts.note_first.Goals as goal

pub returns-then-chosen-v-clause-firsts : goal.returns-then-chosen-v-clause-firsts
returns-then-chosen-v-clause-firsts c =
    AreFirstFrom-set _ _ _ c.requires.v _ c.requires.firsts c.if-chosen-v.true (c.requires.count.below _ c.requires.v)
