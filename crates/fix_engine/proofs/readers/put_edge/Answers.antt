use Rattle.std.proofs.Common.{sym, ◌∙◌}
use Rattle.fix_engine.proofs.Tables.{first_above, first_room, second_above, second_room, ArePlaced-one, ArePlaced-two}
use Rattle.fix_engine.proofs.readers.put_edge.Goals as goal

pub put-requires-clause-above : goal.put-requires-clause-above
put-requires-clause-above g c =
    first_above _ _ (g.met.F.Flow.lawful c.args.flow.now) _ c.requires.edge _ _ c.requires.placed _ c.source.ensures

pub put-requires-clause-room : goal.put-requires-clause-room
put-requires-clause-room g c =
    first_room _ _ (g.met.F.Flow.lawful c.args.flow.now) _ c.requires.edge _ _ c.requires.placed _ c.source.ensures

pub put-requires-in-Some-clause-above : goal.put-requires-in-Some-clause-above
put-requires-in-Some-clause-above g c =
    second_above _ _ (g.met.F.Flow.lawful c.args.flow.now) _ c.requires.edge _ _ c.requires.placed _ c.source.ensures _ (sym c.also.ensures ∙ c.in-Some.is) _ _ c.put.ensures.offsets c.put.ensures.edges

pub put-requires-in-Some-clause-room : goal.put-requires-in-Some-clause-room
put-requires-in-Some-clause-room g c =
    second_room _ _ (g.met.F.Flow.lawful c.args.flow.now) _ c.requires.edge _ _ c.requires.placed _ c.source.ensures _ (sym c.also.ensures ∙ c.in-Some.is) _ _ c.put.ensures.offsets c.put.ensures.edges

pub returns-in_default : goal.returns-in_default
returns-in_default g c =
    rw (c.put.ensures.offsets, c.put.ensures.edges) (ArePlaced-one _ _ (g.met.F.Flow.lawful c.args.flow.now) _ c.requires.edge _ _ c.requires.placed _ c.source.ensures (sym c.also.ensures ∙ c.in_default.is))

pub returns-in-Some : goal.returns-in-Some
returns-in-Some g c =
    rw (c.put-in-Some.ensures.offsets, c.put-in-Some.ensures.edges) (ArePlaced-two _ _ (g.met.F.Flow.lawful c.args.flow.now) _ c.requires.edge _ _ c.requires.placed _ c.source.ensures _ (sym c.also.ensures ∙ c.in-Some.is) _ _ c.put.ensures.offsets c.put.ensures.edges)
