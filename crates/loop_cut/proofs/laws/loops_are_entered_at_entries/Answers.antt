use Rattle.loop_cut.proofs.Reaching.{laid_of, source_reached}
use Rattle.loop_cut.proofs.Walking.{enters}
use Rattle.loop_cut.proofs.laws.loops_are_entered_at_entries.Goals as goal

pub returns : goal.returns
returns c = λ body g h x y is_body is_graph one edge out inside.
    enters g 0 one h x y (source_reached body is_body (laid_of c.code_is_laid_out.ensures.laid_out body is_body) g is_graph x y edge) edge out inside
