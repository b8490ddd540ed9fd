use Rattle.std.specs.Prelude.{FitsSigned}
use Rattle.std.specs.Int.{w128}
use Rattle.std.proofs.Common.{◌≡◌, ◌∙◌, ap, arith, rules, sym, get_or, Some, None}
use Rattle.std.proofs.lemmas.Int.{to_z-of_z}
use Rattle.base_relations.specs.Substitution.{term_added}
use Rattle.base_relations.proofs.Numbering.{terms_some, terms_none, terms_end}
use Rattle.base_relations.proofs.lins.Sum.add_terms.Goals as goal

pub returns-in_err-add_term : goal.returns-in_err-add_term
returns-in_err-add_term c =
    let fit : FitsSigned w128 c.get.result = search rules in
    let none : term_added c.args.args.now c.args.made.now c.loop-v.self c.loop-v.v c.get.result ≡ None = simp to_z-of_z at c.in_err-add_term.ensures in
    rw c.from_residual.ensures (terms_none c.args.args.now c.args.made.now c.loop-v.self c.args.l.now.coefficients c.loop-v.v _ (omega arith) (ap (term_added c.args.args.now c.args.made.now c.loop-v.self c.loop-v.v) (sym c.get.ensures) ∙ none) c.loop-v.invariant)

pub loop-v-preserved : goal.loop-v-preserved
loop-v-preserved c =
    let fit : FitsSigned w128 c.get.result = search rules in
    let some : term_added c.args.args.now c.args.made.now c.loop-v.self c.loop-v.v c.get.result ≡ Some c.add_term.new.self = simp to_z-of_z at c.in_ok-add_term.ensures in
    terms_some c.args.args.now c.args.made.now c.loop-v.self c.add_term.new.self c.args.l.now.coefficients c.loop-v.v _ (omega arith) (ap (term_added c.args.args.now c.args.made.now c.loop-v.self c.loop-v.v) (sym c.get.ensures) ∙ some) c.loop-v.invariant

pub returns : goal.returns
returns c = terms_end c.args.args.now c.args.made.now c.loop-v.self c.args.l.now.coefficients c.loop-v.v _ (omega arith) c.loop-v.invariant
