use Rattle.lin_rows.specs.Rows.{lins}
use Rattle.small_caps.proofs.Answered.{best_answer}
use Rattle.small_caps.proofs.cap.best_of.Goals as goal

pub returns : goal.returns
returns c = best_answer c.args.rows.now (lins c.args.index.now) c.args.l.now c.args.entry.now c.in_ok-best.best c.first-2.result c.in_ok-best.ensures.1 c.first-2.ensures
