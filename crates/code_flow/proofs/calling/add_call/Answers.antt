use Rattle.code_flow.proofs.Edges.{one_added}
use Rattle.code_flow.proofs.calling.add_call.Goals as goal

pub returns-in-Some-clause-added : goal.returns-in-Some-clause-added
returns-in-Some-clause-added c = one_added c.add.result c.args.found.now c.args.i c.in-Some.place c.args.t c.args.graph.now c.add.new.self c.in-Some.ensures c.add.ensures.nodes c.add.ensures.added
