use Rattle.std.proofs.Common.{◌≡◌, ◌-◌, ◌∷◌, length, nat_eq}
use Rattle.std.specs.List.{list_any, flat_map}
use Rattle.class_hierarchy.specs.World.{above, ancestors, line_from}
use Rattle.class_hierarchy.proofs.hierarchy.Hierarchy.is_below.Given as goal

abbrev pub invariant-loop : goal.invariant-loop
invariant-loop l = list_any (nat_eq l.other) (ancestors l.self l.class) ≡ list_any (nat_eq l.other) (flat_map (λ d. d ∷ above l.self d) (line_from l.self (length l.self - l.counter) l.next))
