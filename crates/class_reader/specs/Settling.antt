-- What is answered where reading has ended.
use Rattle.std.specs.Prelude.{◌≡◌, ℕ, Option, Some, None, Result, Ok, Err}
use Rattle.class_reader.specs.declared.fault.ClassFault.{ClassFault}
use Rattle.class_reader.specs.declared.fault.ClassFault.TheVariants as fault
use Rattle.class_reader.specs.declared.kept.Cut.{Cut}
use Rattle.class_reader.specs.declared.kept.Cut.TheVariants as cut
use Rattle.class_reader.specs.Faults.{noted}

-- what was read where no fault was kept, and else the first fault; too few bytes are one, where the bytes end
abbrev pub Settles : {X : Type 0} → Result X Cut → Option ClassFault → ℕ → Result X ClassFault → Type 0
Settles (Ok x) None end answer = answer ≡ Ok x
Settles (Ok x) (Some first) end answer = answer ≡ Err first
Settles (Err cut.Short) kept end answer = (first : ClassFault) × (noted kept (fault.Short end) ≡ Some first) × (answer ≡ Err first)
Settles (Err cut.Memory) kept end answer = answer ≡ Err fault.Memory
