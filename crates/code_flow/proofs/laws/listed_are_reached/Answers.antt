use Rattle.code_flow.proofs.ReachedLaws.{reached_is_listing}
use Rattle.code_flow.proofs.InOrder.{reached_in_order}
use Rattle.code_flow.proofs.laws.listed_are_reached.Goals as goal

pub returns-clause-reached : goal.returns-clause-reached
returns-clause-reached c = reached_is_listing

pub returns-clause-order : goal.returns-clause-order
returns-clause-order c = reached_in_order
