use Rattle.std.proofs.Common.{Some, rules}
use Rattle.ports.proofs.SinkLemmas.{takes_front}
use Rattle.ports.proofs.memory_sink.MemorySinkSink.put.Goals as goal

pub returns-in_ok-extend_from_slice-in-Some-clause-prefix :
    goal.returns-in_ok-extend_from_slice-in-Some-clause-prefix
returns-in_ok-extend_from_slice-in-Some-clause-prefix c failed =
    takes_front (Some c.args.self.now.bytes) c.self.inside.bytes.items _ c.args.piece.now c.min-taken.result (search rules) c.in_ok-extend_from_slice-in-Some.ensures.items
