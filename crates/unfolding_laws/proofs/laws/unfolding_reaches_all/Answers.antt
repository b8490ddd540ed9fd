use Rattle.std.proofs.Common.{sym, arith, length}
use Rattle.std.proofs.lemmas.List.{length-map}
use Rattle.relations.specs.declared.node.Node.{Node}
use Rattle.unfolding_laws.proofs.BaseRules.{has_rules, reached}
use Rattle.unfolding_laws.proofs.laws.unfolding_reaches_all.Goals as goal

pub returns : goal.returns
returns c = λ relation target direct n s low has.
    let same = length-map relation (λ (node : Node). length node.lengths) in
    let b = reached relation target direct s n (omega arith) has in
    (b.0, b.1, sym (has_rules relation target direct s n b.0 b.1).sizes)
