use Rattle.std.proofs.Common.{[]}
use Rattle.std.proofs.lemmas.Result.{err_from_is_err_and}
use Rattle.class_reader.specs.Met.{times, pushed}
use Rattle.class_reader.specs.ClassReading.{handler_at}
use Rattle.class_reader.proofs.Loops.{reads_on, reads_no_more, is_done}
use Rattle.class_reader.proofs.code.read_so_many.Goals as goal

pub returns-in_err-handler : goal.returns-in_err-handler
returns-in_err-handler c =
    let p = err_from_is_err_and c.from_residual.result c.from_residual.ensures.1 in
    rw (p.1, p.2) (λ ne. reads_no_more (handler_at c.args.pool.now) c.args.count c.loop.counter c.loop.handlers.items c.loop.cursor c.args.kept.now c.loop.kept c.read_handler.new.kept (times (pushed (handler_at c.args.pool.now)) c.args.count ([], c.args.cursor.now)) c.loop-test.true (c.in_err-handler.ensures ne).0 (c.in_err-handler.ensures ne).1 c.loop.invariant)

pub loop-preserved : goal.loop-preserved
loop-preserved c =
    rw c.in_ok-push.ensures.items
    (reads_on (handler_at c.args.pool.now) c.args.count c.loop.counter c.loop.handlers.items c.loop.cursor c.in_ok-handler.handler c.read_handler.new.cursor c.args.kept.now c.loop.kept c.read_handler.new.kept (times (pushed (handler_at c.args.pool.now)) c.args.count ([], c.args.cursor.now)) c.loop-test.true c.in_ok-handler.ensures.0 c.in_ok-handler.ensures.1 c.loop.invariant)

pub returns : goal.returns
returns c = is_done (pushed (handler_at c.args.pool.now)) c.args.count c.loop.counter (c.loop.handlers.items, c.loop.cursor) c.args.kept.now c.loop.kept (times (pushed (handler_at c.args.pool.now)) c.args.count ([], c.args.cursor.now)) c.loop-test.false c.loop.invariant
