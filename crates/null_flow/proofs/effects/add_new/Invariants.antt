use Rattle.std.proofs.Common.{◌≡◌, ◌++◌, drop, map}
use Rattle.null_flow.specs.Effects.{is_new}
use Rattle.null_flow.proofs.effects.add_new.Given as goal

abbrev pub invariant-loop-origin : goal.invariant-loop-origin
invariant-loop-origin l =
    l.flags.items ++ map (is_new l.locals l.words) (drop l.origin-index l.origins) ≡ l.initial.flags.items ++ map (is_new l.locals l.words) l.origins
