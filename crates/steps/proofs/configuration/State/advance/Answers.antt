use Rattle.std.proofs.Common.{◌≡◌, ◌∙◌}
use Rattle.std.specs.Prelude.{Result, Ok, Err, IfOk}
use Rattle.op_table.specs.Actions.{action_of}
use Rattle.cost_model.specs.Costs.{cost_at}
use Rattle.frames.specs.Standing.{standing_at}
use Rattle.steps.specs.Step.{acts_on, outcome_of, settle, weight_of}
use Rattle.steps.proofs.Settling.{advanced}
use Rattle.steps.proofs.Growing.{held_after, spent_after}
use Rattle.steps.proofs.configuration.State.advance.Goals as goal

where_ok : {E T : Type 0} (r : Result T E) (P Q : T → Type 0) → ((x : T) → P x → Q x) → IfOk r P → IfOk r Q
where_ok (Ok x) P Q f p = f x p
where_ok (Err e) P Q f p = tt

pub returns-in-Some-clause-advanced : goal.returns-in-Some-clause-advanced
returns-in-Some-clause-advanced g c =
    let w = c.args.world.now in
    let before = c.args.self.now in
    let s = c.in-Some.fetched.standing in
    where_ok c.act.result (λ event. settle w c.cost_of-cost.result before (acts_on w s before.here (action_of s.instr)) ≡ (event, c.act.new.self))
    (λ event. settle w (weight_of (λ op. cost_at c.args.model.now op) (standing_at w before.here.frame)) before (outcome_of w before.here) ≡ (event, c.act.new.self))
    (λ event made. advanced w (λ op. cost_at c.args.model.now op) c.cost_of-cost.result before s c.in-Some.ensures.found c.cost_of-cost.ensures.value ∙ made)
    c.act.ensures.acted

pub returns-in-Some-clause-heap : goal.returns-in-Some-clause-heap
returns-in-Some-clause-heap g c =
    let w = c.args.world.now in
    let before = c.args.self.now in
    held_after c.act.result w (weight_of (λ op. cost_at c.args.model.now op) (standing_at w before.here.frame)) before c.act.new.self
    (returns-in-Some-clause-advanced g c) c.act.ensures.err

pub returns-in-Some-clause-spent : goal.returns-in-Some-clause-spent
returns-in-Some-clause-spent g c =
    let before = c.args.self.now in
    let s = c.in-Some.fetched.standing in
    spent_after c.act.result c.args.world.now c.cost_of-cost.result before c.act.new.self (acts_on c.args.world.now s before.here (action_of s.instr))
    c.act.ensures.acted c.act.ensures.err c.cost_of-cost.ensures.bound
