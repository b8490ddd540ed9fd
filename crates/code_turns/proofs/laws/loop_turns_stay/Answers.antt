use Rattle.code_turns.proofs.Staying.{turns_stay}
use Rattle.code_turns.proofs.laws.loop_turns_stay.Goals as goal

pub returns : goal.returns
returns c = λ w methods cuts weights unwrapped region a b cut l all is leads. turns_stay w methods cuts weights unwrapped region a b cut l all is leads
