-- What is told of faults.
use Rattle.std.proofs.Common.{◌≡◌, refl, ap}
use Rattle.std.specs.Prelude.{◌≢◌, Result, Err}
use Rattle.world.specs.declared.fault.ResolveFault.{ResolveFault}
use Rattle.world.specs.declared.fault.ResolveFault.TheVariants as resolve
use Rattle.linking.specs.declared.fault.LinkFault.TheVariants as link
use Rattle.linking.specs.Told.{told, link_fault, against}

-- a fault that isn't want of memory is told as itself
pub told_fault : {A : Type 0} (fault : ResolveFault) (answer : Result A ResolveFault) → (fault ≢ resolve.Memory → answer ≡ Err fault) → link_fault fault ≢ link.Memory → told answer ≡ Err (against (link_fault fault))
told_fault resolve.MissingClass answer h k = ap told (h (λ e. absurd cc))
told_fault resolve.MissingMember answer h k = ap told (h (λ e. absurd cc))
told_fault resolve.Ambiguous answer h k = ap told (h (λ e. absurd cc))
told_fault resolve.PackageOverride answer h k = ap told (h (λ e. absurd cc))
told_fault resolve.AbstractTarget answer h k = ap told (h (λ e. absurd cc))
told_fault resolve.NotInstance answer h k = ap told (h (λ e. absurd cc))
told_fault resolve.Memory answer h k = absurd (k refl)
