use Rattle.loop_turns.proofs.Layers.{nest_turns, nest_on_top}
use Rattle.loop_turns.proofs.laws.nests_are_turns.Goals as goal

pub returns-clause-nests : goal.returns-clause-nests
returns-clause-nests c = λ t at first stack cost looped begins nest. nest_turns looped begins nest

pub returns-clause-top : goal.returns-clause-top
returns-clause-top c = λ t at first now rest cost looped begins nest. nest_on_top looped begins nest
