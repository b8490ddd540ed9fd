use Rattle.frame_kinds.proofs.Arrivals.{heights_seen}
use Rattle.frame_kinds.proofs.laws.heights_are_seen.Goals as goal

pub returns : goal.returns
returns c = heights_seen c.code_is_laid_out.ensures.stands c.code_is_laid_out.ensures.laid_out
