use Rattle.loop_turns.proofs.Layers.{done_turns}
use Rattle.loop_turns.proofs.laws.calls_are_turns.Goals as goal

pub returns : goal.returns
returns c = λ t at first e cost looped begins call. done_turns looped begins call
