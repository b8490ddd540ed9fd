use Rattle.std.proofs.Common.{◌∙◌}
use Rattle.std.proofs.lemmas.List.Sorted.{IsNonDecreasingBy-from_sort}
use Rattle.world.proofs.Specific.{specific_by}
use Rattle.world.proofs.world.World.most_specific.Goals as goal

pub outside-requires : goal.outside-requires
outside-requires c = rw c.deref-3.ensures.value (IsNonDecreasingBy-from_sort (λ x. x) c.sort_unstable.new.self.items c.sort_unstable.ensures.sorted)

pub returns : goal.returns
returns c =
    (rw (c.deref-2.ensures.value, c.deref-3.ensures.value) at c.in_ok-specific.ensures)
    ∙ specific_by c.args.self.now c.args.name.now c.args.desc.now c.args.among.now c.in_ok-candidates.candidates.items c.in_ok-above.above.items c.sort_unstable.new.self.items c.in_ok-candidates.ensures (rw (c.deref.ensures.value, c.self.view_is) at c.in_ok-above.ensures) c.sort_unstable.ensures.permutation
