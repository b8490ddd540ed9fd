use Rattle.std.proofs.lemmas.Result.{err_from_is_err_and}
use Rattle.class_reader.specs.Met.{times}
use Rattle.class_reader.specs.ClassReading.{skipped_at}
use Rattle.class_reader.proofs.Loops.{goes_on, stops, is_done}
use Rattle.class_reader.proofs.attributes.skip_so_many.Goals as goal

pub returns-in_err-skip_attribute : goal.returns-in_err-skip_attribute
returns-in_err-skip_attribute c =
    let p = err_from_is_err_and c.from_residual.result c.from_residual.ensures.1 in
    rw (p.1, p.2) (λ ne. stops (skipped_at c.args.pool.now) c.args.count c.loop.counter c.loop.cursor c.args.kept.now c.loop.kept c.skip_attribute.new.kept (times (skipped_at c.args.pool.now) c.args.count c.args.cursor.now) c.loop-test.true (c.in_err-skip_attribute.ensures ne).0 (c.in_err-skip_attribute.ensures ne).1 c.loop.invariant)

pub loop-preserved : goal.loop-preserved
loop-preserved c =
    goes_on (skipped_at c.args.pool.now) c.args.count c.loop.counter c.loop.cursor c.skip_attribute.new.cursor c.args.kept.now c.loop.kept c.skip_attribute.new.kept (times (skipped_at c.args.pool.now) c.args.count c.args.cursor.now) c.loop-test.true c.in_ok-skip_attribute.ensures.0 c.in_ok-skip_attribute.ensures.1 c.loop.invariant

pub returns : goal.returns
returns c = is_done (skipped_at c.args.pool.now) c.args.count c.loop.counter c.loop.cursor c.args.kept.now c.loop.kept (times (skipped_at c.args.pool.now) c.args.count c.args.cursor.now) c.loop-test.false c.loop.invariant
