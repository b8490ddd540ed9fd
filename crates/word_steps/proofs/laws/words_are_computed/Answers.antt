use Rattle.word_steps.proofs.Cases.{words_made, computed_made, division_throws}
use Rattle.word_steps.proofs.laws.words_are_computed.Goals as goal

pub returns-clause-made : goal.returns-clause-made
returns-clause-made c = words_made

pub returns-clause-cases : goal.returns-clause-cases
returns-clause-cases c = computed_made

pub returns-clause-throws : goal.returns-clause-throws
returns-clause-throws c = division_throws
