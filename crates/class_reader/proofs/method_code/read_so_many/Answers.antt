use Rattle.std.proofs.Common.{None, false}
use Rattle.std.proofs.lemmas.Result.{err_from_is_err_and}
use Rattle.class_reader.specs.Met.{times}
use Rattle.class_reader.specs.ClassReading.{method_attribute_at}
use Rattle.class_reader.proofs.Loops.{goes_on, stops, is_done}
use Rattle.class_reader.proofs.method_code.read_so_many.Goals as goal

pub returns-in_err-read_method_attribute : goal.returns-in_err-read_method_attribute
returns-in_err-read_method_attribute c =
    let p = err_from_is_err_and c.from_residual.result c.from_residual.ensures.1 in
    rw (p.1, p.2) (λ ne. stops (method_attribute_at c.args.allowed c.args.pool.now) c.args.count c.loop.counter (c.loop.found, c.loop.cursor) c.args.kept.now c.loop.kept c.read_method_attribute.new.kept (times (method_attribute_at c.args.allowed c.args.pool.now) c.args.count (record { met = false; code = None }, c.args.cursor.now)) c.loop-test.true (c.in_err-read_method_attribute.ensures ne).0 (c.in_err-read_method_attribute.ensures ne).1 c.loop.invariant)

pub loop-preserved : goal.loop-preserved
loop-preserved c =
    goes_on (method_attribute_at c.args.allowed c.args.pool.now) c.args.count c.loop.counter (c.loop.found, c.loop.cursor) (c.read_method_attribute.new.found, c.read_method_attribute.new.cursor) c.args.kept.now c.loop.kept c.read_method_attribute.new.kept (times (method_attribute_at c.args.allowed c.args.pool.now) c.args.count (record { met = false; code = None }, c.args.cursor.now)) c.loop-test.true c.in_ok-read_method_attribute.ensures.0 c.in_ok-read_method_attribute.ensures.1 c.loop.invariant

pub returns : goal.returns
returns c = is_done (method_attribute_at c.args.allowed c.args.pool.now) c.args.count c.loop.counter (c.loop.found, c.loop.cursor) c.args.kept.now c.loop.kept (times (method_attribute_at c.args.allowed c.args.pool.now) c.args.count (record { met = false; code = None }, c.args.cursor.now)) c.loop-test.false c.loop.invariant
