use Rattle.lp_lines.proofs.Pivoted.{kept_on, wide_on}
use Rattle.lp_lines.proofs.table.Table.pivot.Goals as goal

pub returns-clause-kept : goal.returns-clause-kept
returns-clause-kept c = λ rows is. kept_on rows c.args.line c.args.column c.args.self.now c.pivot_at.new.self c.pivot_at.result is c.requires c.pivot_at.ensures.ok

pub returns-clause-wide : goal.returns-clause-wide
returns-clause-wide c = λ rows is. wide_on rows c.args.line c.args.column c.args.self.now c.pivot_at.result is c.requires c.pivot_at.ensures.err
