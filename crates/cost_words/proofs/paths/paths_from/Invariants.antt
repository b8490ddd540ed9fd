use Rattle.std.proofs.Common.{◌≡◌, length}
use Rattle.cost_words.specs.Reading.{words_of}
use Rattle.cost_words.specs.Grammar.{paths_from}
use Rattle.cost_words.proofs.Loops.{with_paths}
use Rattle.cost_words.proofs.paths.paths_from.Given as goal

abbrev pub invariant-loop-word : goal.invariant-loop-word
invariant-loop-word l = with_paths l.paths (paths_from l.left.index (words_of l.left.words.now)) ≡ paths_from l.rest.index (words_of l.rest.words.now)

abbrev pub decreases-loop-word : goal.decreases-loop-word
decreases-loop-word l = length l.left.words.now
