use Rattle.std.proofs.Common.{◌≡◌, length}
use Rattle.class_pool.specs.Utf8.{is_modified_utf8}
use Rattle.class_pool.proofs.utf8.is_utf8.Given as goal

abbrev pub invariant-loop-after : goal.invariant-loop-after
invariant-loop-after l = is_modified_utf8 l.bytes ≡ is_modified_utf8 l.rest

abbrev pub decreases-loop-after : goal.decreases-loop-after
decreases-loop-after l = length l.rest
