use Rattle.std.proofs.Common.{◌≡◌, ◌-◌, length}
use Rattle.class_hierarchy.specs.Building.{first_number}
use Rattle.class_hierarchy.specs.Faults.{fault_of}
use Rattle.class_hierarchy.proofs.classes.Classes.first_fault.Given as goal

abbrev pub invariant-loop-class : goal.invariant-loop-class
invariant-loop-class l = first_number (fault_of l.kind l.self) (length l.self) 0 ≡ first_number (fault_of l.kind l.self) (length l.self - l.class) l.class
