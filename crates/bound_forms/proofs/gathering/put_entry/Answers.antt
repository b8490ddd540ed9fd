use Rattle.std.proofs.lemmas.Result.{err_from_is_err_and}
use Rattle.bound_forms.proofs.Tables.{puts, full, past, stay_keyed}
use Rattle.bound_forms.proofs.gathering.put_entry.Goals as goal

pub returns-in_err-room_at-clause-value : goal.returns-in_err-room_at-clause-value
returns-in_err-room_at-clause-value c =
    let p = err_from_is_err_and c.from_residual.result c.from_residual.ensures.1 in
    rw (p.1, p.2) (full c.in_err-room_at.field-0.0 c.args.entry c.args.table.now.entries c.requires.entry_keyed c.requires.keyed c.room_at.ensures.ordered c.in_err-room_at.ensures.room)

pub returns-in_err-sum-clause-value : goal.returns-in_err-sum-clause-value
returns-in_err-sum-clause-value c =
    let p = err_from_is_err_and c.from_residual-in_err-sum.result c.from_residual-in_err-sum.ensures.1 in
    rw (p.1, p.2) (past c.in_err-sum.field-0.0 c.args.entry c.args.table.now.entries c.requires.entry_keyed c.requires.keyed c.room_at.ensures.ordered c.in_err-sum.ensures)

pub returns-clause-keyed : goal.returns-clause-keyed
returns-clause-keyed c = stay_keyed c.args.entry c.in_ok-sum.sum _ c.args.table.now.entries c.insert.new.self.entries c.requires.entry_keyed c.requires.keyed c.in_ok-sum.ensures c.in_ok-insert.ensures.entries

pub returns-clause-value : goal.returns-clause-value
returns-clause-value c = puts c.args.entry c.in_ok-sum.sum c.args.table.now.entries c.insert.new.self.entries c.requires.entry_keyed c.requires.keyed c.room_at.ensures.ordered c.in_ok-sum.ensures.0 c.in_ok-insert.ensures.entries
