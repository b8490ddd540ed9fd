use Rattle.analyser.specs.Answers.{answered}
use Rattle.analyser.proofs.top.answer_and_put.Goals as goal

pub returns-in-Ok-clause-outcome : goal.returns-in-Ok-clause-outcome
returns-in-Ok-clause-outcome g c = answered c.in-Ok.status c.in-Ok.ensures.answer c.put.ensures
