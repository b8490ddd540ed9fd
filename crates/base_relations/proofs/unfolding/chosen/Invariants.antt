use Rattle.std.proofs.Common.{◌≡◌, take, map}
use Rattle.std.specs.Prelude.{is_some}
use Rattle.base_relations.proofs.unfolding.chosen.Given as goal

abbrev pub invariant-loop-rules : goal.invariant-loop-rules
invariant-loop-rules l = l.marks.items ≡ map is_some (take l.rules-index l.bases)
