use Rattle.std.proofs.Common.{◌∙◌}
use Rattle.code_flow.specs.Plans.{plans_of}
use Rattle.analyser.proofs.Answering.{first_told, passes_limit}
use Rattle.analyser.proofs.answer.bound_of.Goals as goal

pub returns-in-Ok : goal.returns-in-Ok
returns-in-Ok c =
    c.first_bound.ensures ∙ first_told _ (plans_of c.args.program.now) _ _ c.counting.ensures c.as_slice.ensures c.in-Ok.ensures.costs c.in-Ok.ensures.small

pub returns-in-Err-TooGreat : goal.returns-in-Err-TooGreat
returns-in-Err-TooGreat c = passes_limit _ (plans_of c.args.program.now) c.counting.ensures (c.in-Err-TooGreat.ensures.too_great c.in-Err-TooGreat.field-0-is)
