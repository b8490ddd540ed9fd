use Rattle.loop_cut.proofs.Reaching.{laid_of, block_reached}
use Rattle.loop_cut.proofs.laws.blocks_are_reached.Goals as goal

pub returns : goal.returns
returns c = λ body g b is_body is_graph known. block_reached body is_body (laid_of c.code_is_laid_out.ensures.laid_out body is_body) g is_graph b known
