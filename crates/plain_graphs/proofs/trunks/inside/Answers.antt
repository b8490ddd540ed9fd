use Rattle.std.proofs.Common.{◌≤◌, length, arith}
use Rattle.plain_graphs.proofs.Listings.{marks_all}
use Rattle.plain_graphs.proofs.trunks.inside.Goals as goal

pub returns-clause-marks : goal.returns-clause-marks
returns-clause-marks c =
    let all : length c.args.p.now.graph.now ≤ c.loop-x.x = omega (arith, c.nodes-x-end.ensures.value, c.loop-x-test.false) in
    marks_all _ c.nodes-x-end.ensures.ends _ _ _ _ c.requires.h c.requires.plain.within all c.loop-x.invariant.count c.loop-x.invariant.marks
