-- What is told where a name means nothing that an instruction can use: the construct that isn't analysed.
use Rattle.std.specs.Prelude.{◌≡◌, ◌≢◌, Bool, true, false, Option, Some, None, Result, Ok, Err}
use Rattle.op_table.specs.declared.construct.Construct.{Construct}
use Rattle.op_table.specs.declared.construct.Construct.TheVariants as constructs
use Rattle.world.specs.declared.fault.ResolveFault.{ResolveFault}
use Rattle.world.specs.declared.fault.ResolveFault.TheVariants as resolve
use Rattle.linking.specs.declared.fault.LinkFault.{LinkFault}
use Rattle.linking.specs.declared.fault.LinkFault.TheVariants.{Against, Memory}

-- as what a fault of resolution or selection is told
abbrev pub construct_of : ResolveFault → Construct
construct_of resolve.MissingClass = constructs.MissingClass
construct_of resolve.MissingMember = constructs.MissingMember
construct_of resolve.Ambiguous = constructs.Ambiguous
construct_of resolve.PackageOverride = constructs.PackageOverride
construct_of resolve.AbstractTarget = constructs.AbstractTarget
construct_of resolve.NotInstance = constructs.Incompatible
construct_of resolve.Memory = constructs.Later  -- no look-up of the definitions gives it

abbrev pub told : {A : Type 0} → Result A ResolveFault → Result A Construct
told (Ok a) = Ok a
told (Err fault) = Err (construct_of fault)

abbrev pub then_by : {A B : Type 0} → (A → Result B Construct) → Result A Construct → Result B Construct
then_by f (Err construct) = Err construct
then_by f (Ok a) = f a

-- the answer, where nothing stands against it
abbrev pub unless : {A : Type 0} → Result A Construct → Option Construct → Result A Construct
unless answer None = answer
unless answer (Some construct) = Err construct

abbrev pub construct_if : Bool → Construct → Option Construct
construct_if true construct = Some construct
construct_if false construct = None

-- ---- what calls answer

-- what is told of a fault of resolution or selection
abbrev pub link_fault : ResolveFault → LinkFault
link_fault resolve.MissingClass = Against constructs.MissingClass
link_fault resolve.MissingMember = Against constructs.MissingMember
link_fault resolve.Ambiguous = Against constructs.Ambiguous
link_fault resolve.PackageOverride = Against constructs.PackageOverride
link_fault resolve.AbstractTarget = Against constructs.AbstractTarget
link_fault resolve.NotInstance = Against constructs.Incompatible
link_fault resolve.Memory = Memory

-- the construct of a fault
abbrev pub against : LinkFault → Construct
against (Against construct) = construct
against Memory = constructs.Later

-- what a call answers is this, unless memory runs out
abbrev pub Tells : {A : Type 0} → Result A LinkFault → Result A Construct → Type 0
Tells (Ok x) answer = answer ≡ Ok x
Tells (Err fault) answer = fault ≢ Memory → answer ≡ Err (against fault)
