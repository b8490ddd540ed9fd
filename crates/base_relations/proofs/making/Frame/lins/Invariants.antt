use Rattle.std.proofs.Common.{◌≡◌, drop, []}
use Rattle.base_relations.specs.Making.{lins_made}
use Rattle.base_relations.proofs.making.Frame.lins.Given as goal

abbrev pub invariant-loop-l : goal.invariant-loop-l
invariant-loop-l l = lins_made l.self l.n l.made (drop l.l-index l.ls) ≡ lins_made l.self l.n [] l.ls
