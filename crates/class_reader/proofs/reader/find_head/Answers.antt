use Rattle.std.proofs.Common.{ℕ}
use Rattle.class_reader.specs.ClassReading.{head_at}
use Rattle.class_reader.proofs.Settled.{settles}
use Rattle.class_reader.proofs.reader.find_head.Goals as goal

pub returns : goal.returns
returns c =
    let told = rw c.new-kept.ensures at c.read_head-read.ensures in
    settles (λ (major : ℕ). (major, c.read_head-read.new.cursor)) c.read_head-read.result c.read_head-read.new.kept (head_at c.args.cursor.now) c.args.end c.settle.result told c.settle.ensures
