use Rattle.std.proofs.Common.{◌∙◌, ap, sym, arith, get_or}
use Rattle.code_blocks.specs.declared.instruction.Placement.{Placement}
use Rattle.kind_cases.proofs.Standing.{at_place, item_placed, one_more, is_none, all_stand}
use Rattle.kind_cases.proofs.soundness.is_sound.Goals as goal

pub of-requires : goal.of-requires
of-requires c = λ k d lt.
    let e = c.as_slice-instructions.ensures ∙ ap (λ (p : Placement). p.instructions) c.in_ok-placement.ensures in
    let stands = c.code_is_laid_out.ensures.stands c.args.code.now (get_or c.as_slice-instructions.result.now k d) (at_place c.args.code.now c.as_slice-instructions.result.now k d e lt) in
    let long = stands.1 in let inside = stands.2 in omega arith

pub is_well_placed-requires-clause-inside : goal.is_well_placed-requires-clause-inside
is_well_placed-requires-clause-inside c =
    let e = c.as_slice-instructions.ensures ∙ ap (λ (p : Placement). p.instructions) c.in_ok-placement.ensures in
    (c.code_is_laid_out.ensures.stands c.args.code.now c.p-item.result (item_placed c.args.code.now c.as_slice-instructions.result.now c.loop-p.p-index c.p-item.result e c.loop-p-test.true c.p-item.is)).2

pub is_well_placed-requires-clause-long : goal.is_well_placed-requires-clause-long
is_well_placed-requires-clause-long c =
    let e = c.as_slice-instructions.ensures ∙ ap (λ (p : Placement). p.instructions) c.in_ok-placement.ensures in
    (c.code_is_laid_out.ensures.stands c.args.code.now c.p-item.result (item_placed c.args.code.now c.as_slice-instructions.result.now c.loop-p.p-index c.p-item.result e c.loop-p-test.true c.p-item.is)).1

pub loop-p-preserved : goal.loop-p-preserved
loop-p-preserved c =
    one_more c.args.code.now c.as_slice-instructions.result.now c.loop-p.p-index c.p-item.result c.loop-p.invariant c.loop-p-test.true c.p-item.is
    (sym c.in_ok-is_well_placed.ensures ∙ c.if-not-branch.false)

pub returns : goal.returns
returns c = λ yes.
    let e = c.as_slice-instructions.ensures ∙ ap (λ (p : Placement). p.instructions) c.in_ok-placement.ensures in
    let none = is_none c.in_ok-placement.placement.broken c.is_some.result c.is_some.ensures c.if-is_some.false in
    all_stand c.args.code.now c.as_slice-instructions.result.now c.loop-p.p-index e (sym (ap (λ (p : Placement). p.broken) c.in_ok-placement.ensures) ∙ none) (omega (arith, c.loop-p-test.false)) c.loop-p.invariant
