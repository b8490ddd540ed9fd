use Rattle.loop_cut.proofs.Reaching.{laid_of, walks_repeat}
use Rattle.loop_cut.proofs.laws.walks_repeat_nothing.Goals as goal

pub returns : goal.returns
returns c = λ body g region p rest is_body is_graph one point w.
    walks_repeat body is_body (laid_of c.code_is_laid_out.ensures.laid_out body is_body) g is_graph one region p rest point w
