use Rattle.code_flow.proofs.Bodies.{sound_of}
use Rattle.code_flow.proofs.planning.body_of.Goals as goal

pub new-requires-clause-sound : goal.new-requires-clause-sound
new-requires-clause-sound c =
    sound_of c.args.w.now c.args.m c.method_at.result.now c.code_of.result.now c.requires.there c.requires.free c.method_at.ensures c.code_of.ensures.code c.code_of.ensures.short
