use mir.Val.{to_z, of_z}
use Rattle.std.proofs.Common.{◌≡◌, ◌≢◌, ◌-◌, FitsSigned, w32, sym, ◌∙◌, ap, rules}
use Rattle.std.proofs.lemmas.Int.{to_z-of_z}
use Rattle.word_steps.specs.Branches.{case_from}
use Rattle.word_steps.proofs.Jumping.{meets_at, skips_at}
use Rattle.word_steps.proofs.branches.far_by.Goals as goal

pub returns-then-of-value : goal.returns-then-of-value
returns-then-of-value c =
    let value : FitsSigned w32 c.args.value = c.ranges.value in
    let default : FitsSigned w32 c.args.default = c.ranges.default in
    let of : FitsSigned w32 c.case-of.result.0 = search rules in
    let far : FitsSigned w32 c.case-of.result.1 = search rules in
    let before : case_from c.args.code.now c.args.pc c.args.default c.args.value 0 c.args.count
    ≡ case_from c.args.code.now c.args.pc c.args.default c.args.value c.loop-i.i (c.args.count - c.loop-i.i) = simp to_z-of_z at c.loop-i.invariant in
    let same : c.case-of.result.0 ≡ c.args.value = sym (to_z-of_z w32 c.case-of.result.0 of) ∙ ap (to_z w32) c.if-of-value.true ∙ to_z-of_z w32 c.args.value value in
    to_z-of_z w32 c.case-of.result.1 far
    ∙ sym (before ∙ meets_at c.args.code.now c.args.pc c.args.value c.args.default c.args.count c.loop-i.i c.case-of.result c.loop-i-test.true c.case-of.ensures same)

pub loop-i-preserved : goal.loop-i-preserved
loop-i-preserved c =
    let value : FitsSigned w32 c.args.value = c.ranges.value in
    let other : c.case-of.result.0 ≢ to_z w32 (of_z w32 c.args.value) = λ same. c.if-of-value.false (ap (of_z w32) (same ∙ to_z-of_z w32 c.args.value value)) in
    c.loop-i.invariant
    ∙ skips_at c.args.code.now c.args.pc (to_z w32 (of_z w32 c.args.value)) (to_z w32 (of_z w32 c.args.default)) c.args.count c.loop-i.i c.case-of.result
    c.loop-i-test.true c.case-of.ensures other
