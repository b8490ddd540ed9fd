use Rattle.common_laws.proofs.Tests.{find_some, find_none}
use Rattle.common_laws.proofs.searches_find_members.Goals as goal

pub returns-clause-found : goal.returns-clause-found
returns-clause-found g c = λ p xs x h. find_some p xs x h

pub returns-clause-none : goal.returns-clause-none
returns-clause-none g c = λ p xs h. find_none p xs h
