use Rattle.std.proofs.Common.{◌≡◌, [], ap, ◌∙◌, rules}
use Rattle.std.specs.Vec.Iter.{into_iter_items}
use Rattle.bound_forms.specs.Answered.{coded_forms}
use Rattle.bound_forms.specs.inside.Pruning.{needless_of}
use Rattle.bound_forms.proofs.Flags.{kept_begins}
use Rattle.bound_forms.proofs.maxima.pruned.Goals as goal

pub loop-operand-init : goal.loop-operand-init
loop-operand-init c =
    let all : into_iter_items c.into_iter-operand-iterator.result ≡ c.args.operands.items = search rules in
    kept_begins c.args.operands.items (into_iter_items c.into_iter-operand-iterator.result) c.new-kept.result.items c.in_ok-flags.flags.items (c.in_ok-flags.ensures ∙ ap (λ ops. needless_of [] (coded_forms ops)) c.as_slice.ensures.value) all c.new-kept.ensures.items
