use Rattle.std.proofs.Common.{◌≡◌, ◌-◌, ◌++◌, length}
use Rattle.class_hierarchy.specs.World.{line, line_from}
use Rattle.class_hierarchy.proofs.hierarchy.Hierarchy.line.Given as goal

abbrev pub invariant-loop : goal.invariant-loop
invariant-loop l = l.found.items ++ line_from l.self (length l.self - l.counter) l.next ≡ line l.self l.class
