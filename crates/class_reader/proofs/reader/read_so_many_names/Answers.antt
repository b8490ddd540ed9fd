use Rattle.std.proofs.Common.{[]}
use Rattle.std.proofs.lemmas.Result.{err_from_is_err_and}
use Rattle.class_pool.specs.Pool.{class_name_at}
use Rattle.class_reader.specs.Met.{times, pushed}
use Rattle.class_reader.specs.ClassReading.{name_at}
use Rattle.class_reader.proofs.Loops.{reads_on, reads_no_more, is_done}
use Rattle.class_reader.proofs.reader.read_so_many_names.Goals as goal

pub returns-in_err-name : goal.returns-in_err-name
returns-in_err-name c =
    let p = err_from_is_err_and c.from_residual.result c.from_residual.ensures.1 in
    rw (p.1, p.2) (λ ne. reads_no_more (name_at (class_name_at c.args.pool.now)) c.args.count c.loop.counter c.loop.names.items c.loop.cursor c.args.kept.now c.loop.kept c.read_class_name.new.kept (times (pushed (name_at (class_name_at c.args.pool.now))) c.args.count ([], c.args.cursor.now)) c.loop-test.true (c.in_err-name.ensures ne).0 (c.in_err-name.ensures ne).1 c.loop.invariant)

pub loop-preserved : goal.loop-preserved
loop-preserved c =
    rw c.in_ok-push.ensures.items
    (reads_on (name_at (class_name_at c.args.pool.now)) c.args.count c.loop.counter c.loop.names.items c.loop.cursor c.in_ok-name.name c.read_class_name.new.cursor c.args.kept.now c.loop.kept c.read_class_name.new.kept (times (pushed (name_at (class_name_at c.args.pool.now))) c.args.count ([], c.args.cursor.now)) c.loop-test.true c.in_ok-name.ensures.0 c.in_ok-name.ensures.1 c.loop.invariant)

pub returns : goal.returns
returns c = is_done (pushed (name_at (class_name_at c.args.pool.now))) c.args.count c.loop.counter (c.loop.names.items, c.loop.cursor) c.args.kept.now c.loop.kept (times (pushed (name_at (class_name_at c.args.pool.now))) c.args.count ([], c.args.cursor.now)) c.loop-test.false c.loop.invariant
