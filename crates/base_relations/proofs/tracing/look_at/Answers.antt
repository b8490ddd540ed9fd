use Rattle.std.proofs.Common.{◌≡◌, ◌∙◌, ◌<◌, false, true, length, refl, sym, subst}
use Rattle.std.proofs.lemmas.Result.{err_from_is_err_and}
use Rattle.base_relations.specs.declared.fault.UnfoldFault.TheVariants as faults
use Rattle.base_relations.specs.Steps.{Does}
use Rattle.base_relations.specs.Unfolding.{stays}
use Rattle.base_relations.specs.inside.Trails.{todo_steps, called_ways}
use Rattle.base_relations.proofs.Looking.{is_false, is_true, stay_keeps, stay_goes, stay_long, enter_keeps, enter_goes}
use Rattle.base_relations.proofs.tracing.look_at.Goals as goal

pub returns-then-is_replaced-clause-trail : goal.returns-then-is_replaced-clause-trail
returns-then-is_replaced-clause-trail c =
    let old = c.args.trail.now in
    let kept = c.requires.trail in
    let h : stays c.args.plan.now.covers.covers (Does c.args.item.now) ≡ false = is_false _ (sym c.is_replaced.ensures ∙ c.if-is_replaced.true) in
    let low : 0 < length (called_ways c.args.plan.now c.args.item.now) = kept.todo_good.0 h in
    enter_keeps c.args.plan.now c.requires.plan old.done c.enter.new.trail.done c.args.item 0 (todo_steps old.pending) c.enter.new.trail.pending old.items c.enter.new.trail.items
    h low kept.todo_good.1 kept.count kept.few kept.past_good c.in_ok-enter.ensures.done c.in_ok-enter.ensures.pending c.in_ok-enter.ensures.items

pub returns-then-is_replaced-clause-goes_on : goal.returns-then-is_replaced-clause-goes_on
returns-then-is_replaced-clause-goes_on c =
    let old = c.args.trail.now in
    let h : stays c.args.plan.now.covers.covers (Does c.args.item.now) ≡ false = is_false _ (sym c.is_replaced.ensures ∙ c.if-is_replaced.true) in
    enter_goes c.args.plan.now c.requires.plan old.done c.enter.new.trail.done c.args.item old.pending c.enter.new.trail.pending old.items c.requires.trail h c.in_ok-enter.ensures.done c.in_ok-enter.ensures.pending

pub returns-in_err-keep-clause-long : goal.returns-in_err-keep-clause-long
returns-in_err-keep-clause-long c =
    let old = c.args.trail.now in
    let h : stays c.args.plan.now.covers.covers (Does c.args.item.now) ≡ true = is_true _ (sym c.is_replaced.ensures ∙ c.if-is_replaced.false) in
    let p = err_from_is_err_and c.from_residual-in_err-keep.result c.from_residual-in_err-keep.ensures.1 in
    λ e is ne.
    let same = p.2 in
    let f : e ≡ c.in_err-keep.field-0.0 = cc in
    let long = c.in_err-keep.ensures.long c.in_err-keep.field-0.0 refl (subst (λ x. x ≡ faults.Memory → ⊥) f ne) in
    (f ∙ long.0, stay_long c.args.plan.now c.requires.plan old.done c.args.item old.pending old.items c.requires.trail h long.1)

pub returns-clause-trail : goal.returns-clause-trail
returns-clause-trail c =
    let old = c.args.trail.now in
    stay_keeps c.args.plan.now c.requires.plan old.done c.keep.new.trail.done c.args.item old.pending c.keep.new.trail.pending old.items c.keep.new.trail.items c.requires.trail
    c.in_ok-keep.ensures.done c.in_ok-keep.ensures.pending c.in_ok-keep.ensures.items

pub returns-clause-goes_on : goal.returns-clause-goes_on
returns-clause-goes_on c =
    let old = c.args.trail.now in
    let h : stays c.args.plan.now.covers.covers (Does c.args.item.now) ≡ true = is_true _ (sym c.is_replaced.ensures ∙ c.if-is_replaced.false) in
    stay_goes c.args.plan.now c.requires.plan old.done c.keep.new.trail.done c.args.item old.pending c.keep.new.trail.pending old.items c.requires.trail h c.in_ok-keep.ensures.done c.in_ok-keep.ensures.pending
