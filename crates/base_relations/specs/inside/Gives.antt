-- What functions answer: what a definition answers, but for want of memory.
use Rattle.std.specs.Prelude.{◌≡◌, ◌≢◌, Option, Some, None, Result, Ok, Err}
use Rattle.base_relations.specs.declared.fault.UnfoldFault.{UnfoldFault}
use Rattle.base_relations.specs.declared.fault.UnfoldFault.TheVariants.{TooLarge, Memory}

abbrev pub Gives : {A : Type 0} → Result A UnfoldFault → Result A UnfoldFault → Type 0
Gives made (Ok x) = made ≡ Ok x
Gives made (Err e) = e ≢ Memory → made ≡ Err e

-- None is a number that passes its limit
abbrev pub MadeBy : {A : Type 0} → Option A → Result A UnfoldFault → Type 0
MadeBy made (Ok x) = made ≡ Some x
MadeBy made (Err e) = e ≢ Memory → (e ≡ TooLarge) × (made ≡ None)

-- of a function that changes a value to this one
abbrev pub ChangedBy : {A B : Type 0} → Option A → A → Result B UnfoldFault → Type 0
ChangedBy made now (Ok x) = made ≡ Some now
ChangedBy made now (Err e) = e ≢ Memory → (e ≡ TooLarge) × (made ≡ None)

abbrev pub TurnedInto : {A B : Type 0} → Result A UnfoldFault → A → Result B UnfoldFault → Type 0
TurnedInto made now (Ok x) = made ≡ Ok now
TurnedInto made now (Err e) = e ≢ Memory → made ≡ Err e
