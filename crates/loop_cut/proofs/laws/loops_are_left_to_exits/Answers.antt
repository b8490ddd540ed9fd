use Rattle.loop_cut.proofs.laws.loops_are_left_to_exits.Goals as goal

pub returns : goal.returns
returns c = λ body heights g l x y cut inside edge out. (cut.exits y).1 (out, (x, inside, edge))
