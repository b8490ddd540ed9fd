use Rattle.code_turns.proofs.Moments.{moments_turn}
use Rattle.code_turns.proofs.laws.moments_are_turns.Goals as goal

pub returns : goal.returns
returns c = λ w methods cuts weights unwrapped m first later well files closed all listed run moment now at counts.
    moments_turn w methods cuts all weights unwrapped well files closed m first later listed run moment now at counts
