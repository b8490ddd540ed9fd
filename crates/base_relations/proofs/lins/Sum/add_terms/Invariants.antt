use Rattle.std.proofs.Common.{◌≡◌, drop}
use Rattle.base_relations.specs.Substitution.{terms_added}
use Rattle.base_relations.proofs.lins.Sum.add_terms.Given as goal

abbrev pub invariant-loop-v : goal.invariant-loop-v
invariant-loop-v l = terms_added l.args l.made l.self l.v (drop l.v l.l.coefficients) ≡ terms_added l.args l.made l.fn.self 0 l.l.coefficients
