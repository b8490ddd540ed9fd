use Rattle.loop_turns.specs.Tested.{machine_of}
use Rattle.loop_turns.proofs.History.{history_kept}
use Rattle.loop_turns.proofs.laws.history_is_kept.Goals as goal

pub returns : goal.returns
returns c = λ t. history_kept (machine_of t)
