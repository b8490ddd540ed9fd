use Rattle.std.proofs.Common.{◌≡◌, not, take, nat_eq}
use Rattle.std.specs.List.{filter, list_any}
use Rattle.world.proofs.resolve.outside.Given as goal

abbrev pub invariant-loop-class : goal.invariant-loop-class
invariant-loop-class l = l.found.items ≡ filter (λ d. not (list_any (nat_eq d) l.rising)) (take l.class-index l.classes)
