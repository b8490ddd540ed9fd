-- An answer is what the rule makes, unless memory ran out.
use Rattle.std.specs.Prelude.{◌≡◌, Result, Ok, Err}
use Rattle.q128.specs.declared.q.TooWide.{TooWide}
use Rattle.lin_rows.specs.declared.fault.CombFault.{CombFault}
use Rattle.lin_rows.specs.declared.fault.CombFault.TheVariants as faults
use Rattle.lin_rows.specs.Combining.{Combination}

abbrev pub Fails : CombFault → Result Combination TooWide → Type 0
Fails faults.Memory made = Unit {0}
Fails (faults.TooWide wide) made = made ≡ Err wide

abbrev pub Gives : Result Combination CombFault → Result Combination TooWide → Type 0
Gives (Ok s) made = made ≡ Ok s
Gives (Err e) made = Fails e made
