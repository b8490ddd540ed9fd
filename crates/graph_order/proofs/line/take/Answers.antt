use Rattle.graph_order.proofs.line.take.Goals as goal

pub returns-in-Some-clause-x : goal.returns-in-Some-clause-x
returns-in-Some-clause-x c =
    (c.in-Some.ensures.line c.args.parts.now.calls c.args.parts.now.firsts.items c.requires.line).0

pub returns-in-Some-clause-line : goal.returns-in-Some-clause-line
returns-in-Some-clause-line c =
    (c.in-Some.ensures.line c.args.parts.now.calls c.args.parts.now.firsts.items c.requires.line).1
