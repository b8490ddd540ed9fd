use Rattle.std.proofs.Common.{◌+◌, ◌<◌, ◌^◌, arith}
use Rattle.std.proofs.lemmas.Result.{err_from_is_err_and}
use Rattle.base_relations.specs.Limits.{total, fresh_at}
use Rattle.base_relations.proofs.Counting.{total_more}
use Rattle.base_relations.proofs.Stepping.{steps_some, steps_none, steps_end, next_is}
use Rattle.base_relations.proofs.making.Making.steps.Goals as goal

pub returns-in_err-step : goal.returns-in_err-step
returns-in_err-step c =
    let p = err_from_is_err_and c.from_residual.result c.from_residual.ensures.1 in
    rw (p.1, p.2) (λ ne. let h = c.in_err-step.ensures ne in (h.0, steps_none c.loop-part.self c.args.parts.now c.loop-part.part-index c.part-item.result _ (omega arith) c.part-item.is h.1 c.loop-part.invariant.left))

pub loop-part-preserved : goal.loop-part-preserved
loop-part-preserved c =
    let more = total_more fresh_at c.args.parts.now c.loop-part.part-index c.part-item.result (omega arith) c.part-item.is in
    let next = next_is c.loop-part.self c.step.new.self _ c.in_ok-step.ensures in
    let room = c.loop-part.invariant.room in
    record {
      left = steps_some c.loop-part.self c.step.new.self c.args.parts.now c.loop-part.part-index c.part-item.result _ (omega arith) c.part-item.is c.in_ok-step.ensures c.loop-part.invariant.left;
      room = omega arith;
    }

pub returns : goal.returns
returns c = steps_end c.loop-part.self c.args.parts.now c.loop-part.part-index _ (omega arith) c.loop-part.invariant.left
