use Rattle.std.proofs.Common.{arith}
use Rattle.entries.proofs.Marks.{adds_one}
use Rattle.entries.proofs.survey.note.Goals as goal

pub returns-in_ok-add-in-Ref-clause-noted : goal.returns-in_ok-add-in-Ref-clause-noted
returns-in_ok-add-in-Ref-clause-noted c =
    adds_one c.args.g.now c.add.new.self c.args.a c.in-Ref.b c.args.value c.in-Ref.is (omega (arith, c.if-b-nodes.true, c.nodes.ensures.value)) c.in_ok-add-in-Ref.ensures.added
