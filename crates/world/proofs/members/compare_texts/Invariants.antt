use Rattle.std.proofs.Common.{◌≡◌}
use Rattle.std.specs.Ordering.{nat_cmp}
use Rattle.std.specs.Cmp.Lexicographic.{slice_cmp}
use Rattle.world.specs.Members.{key_cmp}
use Rattle.world.proofs.Keys.{behind}
use Rattle.world.proofs.members.compare_texts.Given as goal

abbrev pub invariant-loop-position : goal.invariant-loop-position
invariant-loop-position l = key_cmp (record { name = l.name; desc = l.desc }) (record { name = l.other_name; desc = l.other_desc }) ≡ slice_cmp nat_cmp (behind (record { name = l.name; desc = l.desc }) l.position) (behind (record { name = l.other_name; desc = l.other_desc }) l.position)
