use Rattle.std.proofs.Common.{◌≡◌, length}
use Rattle.cost_words.specs.Target.{name_of}
use Rattle.cost_words.proofs.Names.{with_front}
use Rattle.cost_words.proofs.target.name_of.Given as goal

abbrev pub invariant-loop-rest : goal.invariant-loop-rest
invariant-loop-rest l = with_front l.name.items (name_of l.rest) ≡ name_of l.text

abbrev pub decreases-loop-rest : goal.decreases-loop-rest
decreases-loop-rest l = length l.rest
