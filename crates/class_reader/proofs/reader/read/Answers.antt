use Rattle.std.proofs.Common.{arith}
use Rattle.class_pool.specs.Place.{IsBytes}
use Rattle.class_reader.proofs.reader.read.Goals as goal

pub invariant_of-result : goal.invariant_of-result
invariant_of-result c =
    let fits : IsBytes c.args.bytes.now = λ i. omega (arith, c.type_inv.bytes i) in
    let class = c.in_ok-read_record.field-0 in
    c.read_is_class.ensures c.args.bytes.now class ((c.reading_is_exact.ensures.class c.args.bytes.now fits class).0 c.in_ok-read_record.ensures)
