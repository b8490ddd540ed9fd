use Rattle.std.specs.Prelude.{Option}
use Rattle.std.proofs.Common.{subst}
use Rattle.small_levels.specs.declared.levels.Levels.{Levels}
use Rattle.small_levels.specs.Measured.{AreKnown}
use Rattle.small_levels.proofs.LevelSums.{joined_first, joined_both}
use Rattle.small_levels.proofs.levels.joined.Goals as goal

pub returns-in-Some : goal.returns-in-Some
returns-in-Some c = λ steps t f known more.
    joined_both steps t f c.in-Some.levels c.args.more _ (subst (λ (o : Option Levels). AreKnown steps f o) c.in-Some.is known) more c.greater.ensures.low c.greater.ensures.high c.greater.ensures.one c.lesser.ensures.low c.lesser.ensures.high c.lesser.ensures.one

pub returns-in-None : goal.returns-in-None
returns-in-None c = λ steps t f known more. joined_first steps t f c.args.more (subst (λ (o : Option Levels). AreKnown steps f o) c.in-None.is known) more
