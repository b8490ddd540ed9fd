use Rattle.std.proofs.Common.{◌≡◌, drop}
use Rattle.null_flow.specs.Effects.{is_new, with_stored}
use Rattle.null_flow.proofs.effects.store_all.Given as goal

abbrev pub invariant-loop-value : goal.invariant-loop-value
invariant-loop-value l =
    with_stored (is_new l.locals l.words) (drop l.value-index l.stored) l.flags.items ≡ with_stored (is_new l.locals l.words) l.stored l.initial.flags.items
