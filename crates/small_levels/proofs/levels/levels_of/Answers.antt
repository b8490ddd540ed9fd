use Rattle.std.specs.Prelude.{ℤ, pos, ◌-ℤ◌, ◌*ℤ◌, List, Option}
use Rattle.std.proofs.Common.{ap, ◌∙◌, subst}
use Rattle.lin_rows.specs.Linear.{Linear}
use Rattle.lin_rows.specs.Rows.{lins}
use Rattle.small_cert.specs.declared.least.Least.{Least}
use Rattle.small_cert.specs.Least.{IsLeastSum}
use Rattle.lin_rows.specs.Transitions.{drop_of}
use Rattle.small_levels.specs.Measured.{halves_in}
use Rattle.small_levels.specs.Falls.{IsFallList}
use Rattle.small_levels.proofs.LevelSums.{no_gate, no_coefficients, no_fall, levels_made, LeastOf}
use Rattle.small_levels.proofs.levels.levels_of.Goals as goal

pub returns-in-None : goal.returns-in-None
returns-in-None c =
    let t = c.args.step.now in
    no_gate t c.args.f.now c.requires.live (subst (λ (o : Option Least). LeastOf t c.args.f.now.coefficients o) c.in-None.is (subst (λ (cs : List ℤ). LeastOf t cs c.in_ok-gate.field-0) c.coefficients.ensures c.in_ok-gate.ensures))

pub returns-in-None-2 : goal.returns-in-None-2
returns-in-None-2 c =
    let t = c.args.step.now in
    no_coefficients t c.args.f.now c.requires.live (rw c.in-None-2.is at (rw c.next.ensures at c.in_ok-coefficients.ensures))

pub returns-in-Some-3 : goal.returns-in-Some-3
returns-in-Some-3 c =
    let t = c.args.step.now in
    let f = c.args.f.now in
    let list : IsFallList f t.next c.in-Some-2.coefficients.items = rw c.in-Some-2.is at (rw c.next.ensures at c.in_ok-coefficients.ensures) in
    let gate : IsLeastSum (lins t.rows) f.coefficients c.in-Some.gate = subst (λ (o : Option Least). LeastOf t f.coefficients o) c.in-Some.is (subst (λ (cs : List ℤ). LeastOf t cs c.in_ok-gate.field-0) c.coefficients.ensures c.in_ok-gate.ensures) in
    let fall : IsLeastSum (lins t.rows) c.in-Some-2.coefficients.items c.in-Some-3.fall = subst (λ (o : Option Least). LeastOf t c.in-Some-2.coefficients.items o) c.in-Some-3.is (subst (λ (cs : List ℤ). LeastOf t cs c.in_ok-fall.field-0) c.deref.ensures.value c.in_ok-fall.ensures) in
    levels_made t f c.in-Some-2.coefficients.items c.in-Some.gate c.in-Some-3.fall _ c.requires.live c.requires.constant list gate fall c.halves_of.ensures
    (c.fall_of.ensures ∙ ap (λ z. (pos 2 *ℤ z) -ℤ halves_in c.in-Some-3.fall) (c.fall_part.ensures.value ∙ ap (λ (next : List Linear). (drop_of f next (pos 0)).constant) c.next-in-Some-3.ensures))

pub returns : goal.returns
returns c =
    let t = c.args.step.now in
    let f = c.args.f.now in
    let list : IsFallList f t.next c.in-Some-2.coefficients.items = rw c.in-Some-2.is at (rw c.next.ensures at c.in_ok-coefficients.ensures) in
    no_fall t f c.in-Some-2.coefficients.items c.requires.live list (subst (λ (o : Option Least). LeastOf t c.in-Some-2.coefficients.items o) c.in-None-3.is (subst (λ (cs : List ℤ). LeastOf t cs c.in_ok-fall.field-0) c.deref.ensures.value c.in_ok-fall.ensures))
