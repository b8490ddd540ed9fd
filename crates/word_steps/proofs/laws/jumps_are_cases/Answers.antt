use Rattle.word_steps.proofs.Jumping.{jumps_are_cases, cases_are_jumps}
use Rattle.word_steps.proofs.laws.jumps_are_cases.Goals as goal

pub returns-clause-cases : goal.returns-clause-cases
returns-clause-cases c = jumps_are_cases

pub returns-clause-made : goal.returns-clause-made
returns-clause-made c = cases_are_jumps
