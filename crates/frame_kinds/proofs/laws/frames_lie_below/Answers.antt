use Rattle.frame_kinds.proofs.Arrivals.{all_below}
use Rattle.frame_kinds.proofs.laws.frames_lie_below.Goals as goal

pub returns : goal.returns
returns c = all_below c.code_is_laid_out.ensures.stands c.code_is_laid_out.ensures.laid_out
