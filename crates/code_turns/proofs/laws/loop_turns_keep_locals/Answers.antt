use Rattle.code_turns.proofs.Staying.{turns_keep_locals}
use Rattle.code_turns.proofs.laws.loop_turns_keep_locals.Goals as goal

pub returns : goal.returns
returns c = λ w methods cuts weights unwrapped region a b cut l n all is leads none.
    turns_keep_locals w methods cuts weights unwrapped region a b cut l n all is leads none
