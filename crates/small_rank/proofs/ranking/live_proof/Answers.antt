use Rattle.std.specs.Prelude.{ℤ, List}
use Rattle.std.proofs.Common.{subst}
use Rattle.lin_rows.specs.Linear.{Linear}
use Rattle.lin_rows.specs.Rows.{lins}
use Rattle.small_cert.specs.Least.{HasNoLeast}
use Rattle.small_levels.specs.Falls.{IsFallList, HasNoFallList}
use Rattle.small_levels.proofs.LevelSums.{no_gate, no_coefficients, no_fall}
use Rattle.small_rank.specs.inside.Steps.{ProvesLeastOf}
use Rattle.small_rank.proofs.Stepped.{some_of, live_proved}
use Rattle.small_rank.proofs.ranking.live_proof.Goals as goal

pub least_mults-requires-clause-least : goal.least_mults-requires-clause-least
least_mults-requires-clause-least c =
    let t = c.args.step.now in
    λ none. c.requires.levels (no_gate t c.args.f.now c.requires.live (subst (λ (cs : List ℤ). HasNoLeast (lins t.rows) cs) c.coefficients.ensures none))

pub unwrap-coefficients-requires : goal.unwrap-coefficients-requires
unwrap-coefficients-requires c =
    let f = c.args.f.now in
    some_of (HasNoFallList f c.next.result.now) (λ v. IsFallList f c.next.result.now v.items) c.in_ok-fall_coefficients.field-0 c.in_ok-fall_coefficients.ensures
    (λ wide. c.requires.levels (no_coefficients c.args.step.now f c.requires.live (subst (λ (next : List Linear). HasNoFallList f next) c.next.ensures wide)))

pub least_mults-requires-2-clause-least : goal.least_mults-requires-2-clause-least
least_mults-requires-2-clause-least c =
    let t = c.args.step.now in
    let f = c.args.f.now in
    let list : IsFallList f t.next c.unwrap-coefficients.result.items = rw c.next.ensures at (rw c.unwrap-coefficients.ensures at c.in_ok-fall_coefficients.ensures) in
    λ none. c.requires.levels (no_fall t f c.unwrap-coefficients.result.items c.requires.live list (subst (λ (cs : List ℤ). HasNoLeast (lins t.rows) cs) c.deref.ensures.value none))

pub returns : goal.returns
returns c =
    let t = c.args.step.now in
    let f = c.args.f.now in
    let list : IsFallList f t.next c.unwrap-coefficients.result.items = rw c.next.ensures at (rw c.unwrap-coefficients.ensures at c.in_ok-fall_coefficients.ensures) in
    live_proved t f c.unwrap-coefficients.result.items c.in_ok-gate.gate c.in_ok-fall.fall c.requires.live c.requires.constant list
    (subst (λ (cs : List ℤ). ProvesLeastOf t cs c.in_ok-gate.gate) c.coefficients.ensures c.in_ok-gate.ensures)
    (subst (λ (cs : List ℤ). ProvesLeastOf t cs c.in_ok-fall.fall) c.deref.ensures.value c.in_ok-fall.ensures)
