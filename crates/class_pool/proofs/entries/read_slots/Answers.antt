use Rattle.std.proofs.Common.{false}
use Rattle.std.proofs.lemmas.Result.{err_from_is_err_and}
use Rattle.class_pool.specs.PoolReading.{slots_at}
use Rattle.class_pool.proofs.Loops.{goes_on, stops, is_done}
use Rattle.class_pool.proofs.entries.read_slots.Goals as goal

pub returns-in_err-slot : goal.returns-in_err-slot
returns-in_err-slot c =
    let p = err_from_is_err_and c.from_residual.result c.from_residual.ensures.1 in
    rw (p.1, p.2) (λ ne. stops c.loop-index.slots.items c.args.count c.loop-index.index c.loop-index.gap c.loop-index.cursor c.in_err-slot.field-0.0 (slots_at c.args.count false c.args.cursor.now) c.loop-index-test.true (c.in_err-slot.ensures ne) c.loop-index.invariant)

pub loop-index-preserved : goal.loop-index-preserved
loop-index-preserved c =
    rw (c.in_ok-push.ensures.items, c.is_wide_slot-gap.ensures)
    (goes_on c.loop-index.slots.items c.args.count c.loop-index.index c.loop-index.gap c.loop-index.cursor c.in_ok-slot.slot c.read_slot.new.cursor (slots_at c.args.count false c.args.cursor.now) c.loop-index-test.true c.in_ok-slot.ensures c.loop-index.invariant)

pub returns : goal.returns
returns c = is_done c.loop-index.slots.items c.args.count c.loop-index.index c.loop-index.gap c.loop-index.cursor (slots_at c.args.count false c.args.cursor.now) c.loop-index-test.false c.loop-index.invariant
