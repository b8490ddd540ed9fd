use Rattle.std.proofs.Common.{length, suc, arith}
use Rattle.std.specs.Prelude.{slice_index}
use Rattle.fix_engine.proofs.Counts.{sum_below-le}
use Rattle.fix_engine.proofs.readers.add_up.Goals as goal

pub overflow_add-sum : goal.overflow_add-sum
overflow_add-sum c =
    let here = c.loop-number.invariant.left c.loop-number.number-index (omega arith) in
    let so_far = c.loop-number.invariant.sum in
    let within = sum_below-le (λ k. slice_index c.args.numbers.now k) (suc c.loop-number.number-index) (length c.args.numbers.now) (omega arith) in
    omega arith
