use Rattle.common_laws.proofs.Repeats.{no_longer}
use Rattle.common_laws.proofs.lists_without_repeat_are_short.Goals as goal

pub returns : goal.returns
returns g c = λ xs ys once inside. no_longer xs ys once inside
