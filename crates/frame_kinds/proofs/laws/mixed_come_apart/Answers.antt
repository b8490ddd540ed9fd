use Rattle.frame_kinds.proofs.Mixing.{all_apart}
use Rattle.frame_kinds.proofs.laws.mixed_come_apart.Goals as goal

pub returns : goal.returns
returns c = all_apart c.code_is_laid_out.ensures.stands c.code_is_laid_out.ensures.laid_out
