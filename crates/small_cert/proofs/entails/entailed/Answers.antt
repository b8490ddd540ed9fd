use Rattle.lin_rows.specs.Rows.{lins}
use Rattle.small_cert.proofs.Entailing.{second_answer}
use Rattle.small_cert.proofs.entails.entailed.Goals as goal

pub returns-in-None : goal.returns-in-None
returns-in-None c = second_answer (lins c.args.index.now) c.args.goal.now c.entailed_by-in-None.result (rw c.in-None.is at c.in_ok-mults.ensures) c.entailed_by-in-None.ensures
