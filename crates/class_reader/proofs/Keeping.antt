-- The first of the faults that were met.
use Rattle.std.proofs.Common.{◌≡◌, List, [], ◌∷◌, ◌++◌, Option, refl}
use Rattle.class_reader.specs.declared.fault.ClassFault.{ClassFault}
use Rattle.class_reader.specs.Faults.{noted, first_with}

-- the first of those that were met before and those that are met after
pub first_with_behind : (kept : Option ClassFault) (faults others : List ClassFault) → first_with kept (faults ++ others) ≡ first_with (first_with kept faults) others
unfolding first_with
first_with_behind kept [] others = refl
first_with_behind kept (fault ∷ faults) others = first_with_behind (noted kept fault) faults others
