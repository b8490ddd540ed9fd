use Rattle.std.proofs.Common.{[], ◌∙◌}
use Rattle.std.proofs.lemmas.Result.{err_from_is_err_and}
use Rattle.class_reader.specs.Met.{times, pushed}
use Rattle.class_reader.specs.ClassReading.{field_at}
use Rattle.class_reader.proofs.Loops.{reads_on, reads_no_more, is_done}
use Rattle.class_reader.proofs.members.read_so_many_fields.Goals as goal

pub returns-in_err-field-clause-tells : goal.returns-in_err-field-clause-tells
returns-in_err-field-clause-tells c =
    let p = err_from_is_err_and c.from_residual.result c.from_residual.ensures.1 in
    let told = rw c.loop.invariant.same at c.in_err-field.ensures.tells in
    rw (p.1, p.2) (λ ne. reads_no_more (field_at c.args.declared.now.pool) c.args.count c.loop.counter c.loop.fields.items (c.loop.declared.members, c.loop.cursor) c.args.kept.now c.loop.kept c.read_field.new.kept (times (pushed (field_at c.args.declared.now.pool)) c.args.count ([], (c.args.declared.now.members, c.args.cursor.now))) c.loop-test.true (told ne).0 (told ne).1 c.loop.invariant.leads)

pub loop-preserved : goal.loop-preserved
loop-preserved c =
    let told = rw c.loop.invariant.same at c.in_ok-field.ensures.tells in
    record {
      same = c.in_ok-field.ensures.same ∙ c.loop.invariant.same;
      leads = rw c.in_ok-push.ensures.items
          (reads_on (field_at c.args.declared.now.pool) c.args.count c.loop.counter c.loop.fields.items (c.loop.declared.members, c.loop.cursor) c.in_ok-field.field (c.read_field.new.declared.members, c.read_field.new.cursor) c.args.kept.now c.loop.kept c.read_field.new.kept (times (pushed (field_at c.args.declared.now.pool)) c.args.count ([], (c.args.declared.now.members, c.args.cursor.now))) c.loop-test.true told.0 told.1 c.loop.invariant.leads);
    }

pub returns-clause-tells : goal.returns-clause-tells
returns-clause-tells c = is_done (pushed (field_at c.args.declared.now.pool)) c.args.count c.loop.counter (c.loop.fields.items, (c.loop.declared.members, c.loop.cursor)) c.args.kept.now c.loop.kept (times (pushed (field_at c.args.declared.now.pool)) c.args.count ([], (c.args.declared.now.members, c.args.cursor.now))) c.loop-test.false c.loop.invariant.leads
