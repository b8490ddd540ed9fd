use Rattle.std.proofs.Common.{arith, sym}
use Rattle.cost_words.proofs.Cuts.{at_colon-cut, at_colon-none}
use Rattle.cost_words.proofs.target.place_of_colon.Goals as goal

pub returns-then-is_colon-clause-first : goal.returns-then-is_colon-clause-first
returns-then-is_colon-clause-first c = at_colon-cut c.args.word.now c.loop-place.place (omega arith) c.if-is_colon.ensures c.loop-place.invariant

pub returns-clause-first : goal.returns-clause-first
returns-clause-first c = sym (at_colon-none c.args.word.now (λ k h. c.loop-place.invariant k (omega arith)))
