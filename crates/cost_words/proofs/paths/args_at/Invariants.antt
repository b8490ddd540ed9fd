use Rattle.std.proofs.Common.{◌≡◌, length}
use Rattle.cost_words.specs.Reading.{words_of}
use Rattle.cost_words.specs.Grammar.{args_at}
use Rattle.cost_words.proofs.Loops.{with_args}
use Rattle.cost_words.proofs.paths.args_at.Given as goal

abbrev pub invariant-loop-word : goal.invariant-loop-word
invariant-loop-word l = with_args l.args (args_at l.left.index (words_of l.left.words.now)) ≡ args_at l.rest.index (words_of l.rest.words.now)

abbrev pub decreases-loop-word : goal.decreases-loop-word
decreases-loop-word l = length l.left.words.now
