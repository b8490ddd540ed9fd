use Rattle.std.proofs.Common.{◌∙◌}
use Rattle.loop_cut.proofs.Arriving.{read_at, met_first, met_same, met_other}
use Rattle.loop_cut.proofs.Exits.{not_both}
use Rattle.loop_cut.proofs.heads.meet.Goals as goal

pub returns-in-None : goal.returns-in-None
returns-in-None c =
    λ came size h. met_first came c.args.x c.args.p size c.args.met.now.firsts.items c.args.met.now.joins.items h c.requires.join
    (read_at c.args.met.now.firsts.items c.args.x c.index.result.now c.requires.first c.index.ensures ∙ c.in-None.is)

pub returns-then-is_same_point : goal.returns-then-is_same_point
returns-then-is_same_point c =
    λ came size h. met_same came c.args.x c.args.p size c.args.met.now.firsts.items c.args.met.now.joins.items h c.requires.join c.in-Some.q
    (read_at c.args.met.now.firsts.items c.args.x c.index.result.now c.requires.first c.index.ensures ∙ c.in-Some.is)
    (c.is_same_point.ensures.0 c.if-is_same_point.true)

pub returns-else-is_same_point : goal.returns-else-is_same_point
returns-else-is_same_point c =
    λ came size h. met_other came c.args.x c.args.p size c.args.met.now.firsts.items c.args.met.now.joins.items h c.requires.join c.in-Some.q
    (read_at c.args.met.now.firsts.items c.args.x c.index.result.now c.requires.first c.index.ensures ∙ c.in-Some.is)
    (λ e. not_both _ c.if-is_same_point.false (c.is_same_point.ensures.1 e))
