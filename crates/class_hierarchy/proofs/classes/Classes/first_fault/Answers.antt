use Rattle.std.proofs.Common.{arith, length, sym, ◌∙◌}
use Rattle.class_hierarchy.specs.Building.{first_number}
use Rattle.class_hierarchy.specs.Faults.{fault_of}
use Rattle.class_hierarchy.proofs.FirstNumber.{number_here, number_later, number_end}
use Rattle.class_hierarchy.proofs.classes.Classes.first_fault.Goals as goal

pub returns-in-Some : goal.returns-in-Some
returns-in-Some c =
    let w = c.args.self.now in
    sym (number_here (fault_of c.args.kind w) (length w) c.loop-class.class c.in-Some.fault (first_number (fault_of c.args.kind w) (length w) 0) (omega arith) c.loop-class.invariant (sym c.in_ok-fault.ensures ∙ c.in-Some.is))

pub loop-class-preserved : goal.loop-class-preserved
loop-class-preserved c =
    let w = c.args.self.now in
    number_later (fault_of c.args.kind w) (length w) c.loop-class.class (first_number (fault_of c.args.kind w) (length w) 0) (omega arith) c.loop-class.invariant (sym c.in_ok-fault.ensures ∙ c.in-None.is)

pub returns : goal.returns
returns c =
    let w = c.args.self.now in
    sym (number_end (fault_of c.args.kind w) (length w) c.loop-class.class (first_number (fault_of c.args.kind w) (length w) 0) (omega arith) c.loop-class.invariant)
