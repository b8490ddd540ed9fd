use mir.Val.{to_z, of_z}
use Rattle.std.proofs.Common.{◌≡◌, ◌++◌, ap, ◌∙◌, FitsSigned, w32, rules, ℤ}
use Rattle.std.proofs.lemmas.Int.{to_z-of_z}
use Rattle.op_table.specs.Cases.{case_at}
use Rattle.code_blocks.specs.Successors.{case_distances}
use Rattle.code_blocks.proofs.Followings.{more_cases}
use Rattle.code_blocks.proofs.following.add_cases.Goals as goal

pub loop-i-preserved : goal.loop-i-preserved
loop-i-preserved c =
    let far : FitsSigned w32 c.case-distance.result.1 = search rules in
    let same : to_z w32 (of_z w32 c.case-distance.result.1) ≡ (case_at c.args.code.now c.args.pc c.loop-i.i).1 = to_z-of_z w32 c.case-distance.result.1 far ∙ ap (λ (r : ℤ × ℤ). r.1) c.case-distance.ensures in
    let more =
    more_cases c.args.code.now c.args.pc c.args.count c.loop-i.i (c.args.far.now.items ++ case_distances c.args.code.now c.args.pc 0 c.args.count) c.loop-i.far.items
    (to_z w32 (of_z w32 c.case-distance.result.1)) c.loop-i-test.true same c.loop-i.invariant in
    rw c.in_ok-push.ensures.items more
