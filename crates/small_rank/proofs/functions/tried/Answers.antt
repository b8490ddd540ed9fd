use Rattle.std.specs.Prelude.{length, Option, MatchOption}
use Rattle.std.proofs.Common.{subst}
use Rattle.small_levels.specs.declared.levels.Levels.{Levels}
use Rattle.small_levels.specs.Measured.{AreLevels, HasNoLevels}
use Rattle.small_rank.proofs.Ranked.{function_units, unleveled, measured_answer}
use Rattle.small_rank.proofs.functions.tried.Goals as goal

pub levels_over-requires-clause-units : goal.levels_over-requires-clause-units
levels_over-requires-clause-units c = function_units (length c.args.function.coefficients) c.args.function c.requires

pub returns-in-Some : goal.returns-in-Some
returns-in-Some c =
    let f = c.args.function in
    let h : AreLevels c.args.steps.now f c.in-Some.levels = subst (λ (o : Option Levels). MatchOption o (HasNoLevels c.args.steps.now f) (AreLevels c.args.steps.now f)) c.in-Some.is c.in_ok-levels.ensures in
    measured_answer c.args.steps.now (length f.coefficients) f c.in-Some.levels c.measured.result c.requires h c.measured.ensures

pub returns-in-None : goal.returns-in-None
returns-in-None c =
    let f = c.args.function in
    unleveled c.args.steps.now (length f.coefficients) f (subst (λ (o : Option Levels). MatchOption o (HasNoLevels c.args.steps.now f) (AreLevels c.args.steps.now f)) c.in-None.is c.in_ok-levels.ensures)
