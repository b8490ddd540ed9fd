-- What a member reference names.
use Rattle.std.proofs.Common.{◌≡◌, Err}
use Rattle.std.specs.Prelude.{Result}
use Rattle.op_table.specs.declared.construct.Construct.{Construct}
use Rattle.linking.specs.declared.fault.LinkFault.TheVariants.{Against}
use Rattle.linking.specs.Told.{Tells}

-- a construct that stands against it isn't want of memory
pub named_fault : {A : Type 0} (answer : Result A Construct) (construct : Construct) → Tells (Err (Against construct)) answer → answer ≡ Err construct
named_fault answer construct told = told (λ is. absurd (cc))
