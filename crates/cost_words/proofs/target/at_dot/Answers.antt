use Rattle.std.proofs.Common.{eqb, sym}
use Rattle.std.proofs.lemmas.List.Quantifiers.{position-Some}
use Rattle.cost_words.proofs.Cuts.{at_dot-cut, at_dot-none, fails_everywhere}
use Rattle.cost_words.proofs.target.at_dot.Goals as goal

pub returns-in-None : goal.returns-in-None
returns-in-None c = sym (at_dot-none c.args.word.now (fails_everywhere (λ b. eqb b 46) c.args.word.now c.in-None.ensures.first))

pub returns-in-Some : goal.returns-in-Some
returns-in-Some c =
    let found = position-Some (λ b. eqb b 46) c.args.word.now c.in-Some.place 0 (sym c.in-Some.ensures.first) in
    at_dot-cut c.args.word.now c.in-Some.place found.0 found.1 found.2
