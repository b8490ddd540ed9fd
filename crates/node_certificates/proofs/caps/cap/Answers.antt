use Rattle.lin_rows.specs.Rows.{lins}
use Rattle.node_certificates.proofs.Capped.{answer_capped}
use Rattle.node_certificates.proofs.caps.cap.Goals as goal

pub returns-clause-cap : goal.returns-clause-cap
returns-clause-cap c = answer_capped (lins c.args.rows.now) c.args.entry.now c.args.l.now c.small_cap.result c.small_cap.ensures
