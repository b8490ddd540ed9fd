use Rattle.std.proofs.Common.{sym, ap, ◌∙◌}
use Rattle.std.specs.Option.{option_copied}
use Rattle.code_flow.proofs.Bodies.{never_none}
use Rattle.code_flow.proofs.Scans.{coded_at}
use Rattle.code_flow.proofs.planning.code_of.Goals as goal

pub unreachable-requires : goal.unreachable-requires
unreachable-requires c =
    never_none c.args.w.now c.args.m c.requires.there c.requires.free (ap (λ o. option_copied o) (sym c.in-None.is) ∙ c.code_at.ensures.code)

pub returns-clause-code : goal.returns-clause-code
returns-clause-code c =
    coded_at c.args.w.now c.args.m _ c.requires.there (sym c.code_at.ensures.code ∙ ap (λ o. option_copied o) c.in-Some.is)
