use Rattle.std.proofs.Common.{ℕ, List, [], ◌∷◌, ◌++◌, sym, ap, ◌∙◌}
use Rattle.node_certificates.proofs.EntryNumbers.{range_more}
use Rattle.node_certificates.proofs.caps.entry_numbers.Goals as goal

pub loop-v-preserved : goal.loop-v-preserved
loop-v-preserved c = c.in_ok-push.ensures.items ∙ ap (λ (xs : List ℕ). xs ++ c.loop-v.v ∷ []) c.loop-v.invariant ∙ sym (range_more c.loop-v.v)
