use Rattle.std.proofs.Common.{◌≡◌, List, ap, arith, sym, subst}
use Rattle.std.proofs.lemmas.Result.{err_from_is_err_and}
use Rattle.rule_terms.specs.declared.item.Item.{Item}
use Rattle.base_relations.specs.Steps.{steps_of}
use Rattle.base_relations.specs.Limits.{rules_made}
use Rattle.base_relations.specs.inside.Trails.{unfolded_of, AreGood}
use Rattle.base_relations.proofs.Ruling.{way_ok, way_err, way_end}
use Rattle.base_relations.proofs.rules.ways_rules.Goals as goal

pub add_way-requires-clause-good : goal.add_way-requires-clause-good
add_way-requires-clause-good c =
    subst (λ (way : List Item). AreGood c.args.plan.now.ways c.args.plan.now.covers.covers (steps_of way)) (sym c.as_slice.ensures) (c.requires.good c.way-item.result (c.loop-way.way-index, omega arith, sym c.way-item.is))

pub returns-in_err-add_way : goal.returns-in_err-add_way
returns-in_err-add_way c =
    let p = err_from_is_err_and c.from_residual.result c.from_residual.ensures.1 in
    rw (p.1, p.2) (λ ne. way_err c.args.sizes (λ way. unfolded_of c.args.plan.now (steps_of way)) c.loop-way.rules c.args.ways.now c.loop-way.way-index c.way-item.result _ _ (omega arith) c.way-item.is (rw c.as_slice.ensures at (c.in_err-add_way.ensures ne)) c.loop-way.invariant)

pub loop-way-preserved : goal.loop-way-preserved
loop-way-preserved c =
    way_ok c.args.sizes (λ way. unfolded_of c.args.plan.now (steps_of way)) c.loop-way.rules c.add_way.new.rules c.args.ways.now c.loop-way.way-index c.way-item.result _ (omega arith) c.way-item.is (rw c.as_slice.ensures at c.in_ok-add_way.ensures) c.loop-way.invariant

pub returns : goal.returns
returns c = way_end c.args.sizes (λ way. unfolded_of c.args.plan.now (steps_of way)) c.loop-way.rules c.args.ways.now c.loop-way.way-index _ (omega arith) c.loop-way.invariant
