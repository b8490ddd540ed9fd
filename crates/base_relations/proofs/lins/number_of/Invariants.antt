use Rattle.std.proofs.Common.{◌≡◌, drop}
use Rattle.base_relations.specs.Substitution.{number_of}
use Rattle.base_relations.proofs.lins.number_of.Given as goal

abbrev pub invariant-loop-p : goal.invariant-loop-p
invariant-loop-p l = number_of l.made l.v ≡ number_of (drop l.p-index l.made) l.v
