-- What is answered where reading has ended.
use Rattle.std.proofs.Common.{◌≡◌, ℕ, [], ◌∷◌, Option, Some, None, Result, Ok, Err, refl, sym}
use Rattle.std.proofs.lemmas.List.{append-nil}
use Rattle.class_reader.specs.declared.fault.ClassFault.{ClassFault}
use Rattle.class_reader.specs.declared.fault.ClassFault.TheVariants as fault
use Rattle.class_reader.specs.declared.kept.Cut.{Cut}
use Rattle.class_reader.specs.declared.kept.Cut.TheVariants as cut
use Rattle.class_reader.specs.Faults.{noted, first_with}
use Rattle.class_reader.specs.Met.{Met, Tells}
use Rattle.class_reader.specs.Verdict.{Finds, settled}
use Rattle.class_reader.specs.Settling.{Settles}
use Rattle.class_reader.proofs.Keeping.{first_with_behind}

settled_found : {Y : Type 0} (met : Met Y) (end : ℕ) (y : Y) → met.value ≡ Some y → first_with None met.faults ≡ None → settled end met ≡ Ok y
settled_found met end y h k = rw (h, append-nil met.faults, k) refl

settled_fault : {Y : Type 0} (met : Met Y) (end : ℕ) (y : Y) (first : ClassFault) → met.value ≡ Some y → first_with None met.faults ≡ Some first → settled end met ≡ Err first
settled_fault met end y first h k = rw (h, append-nil met.faults, k) refl

settled_cut : {Y : Type 0} (met : Met Y) (end : ℕ) (first : ClassFault) → met.value ≡ None → noted (first_with None met.faults) (fault.Short end) ≡ Some first → settled end met ≡ Err first
unfolding first_with
settled_cut met end first h k = rw (h, first_with_behind None met.faults (fault.Short end ∷ []), k) refl

pub settles : {X Y : Type 0} (view : X → Y) (read : Result X Cut) (kept : Option ClassFault) (met : Met Y) (end : ℕ) (answer : Result X ClassFault) → Tells view read None kept met → Settles read kept end answer → Finds view answer (settled end met)
settles view (Ok x) None met end answer told is = rw is (settled_found met end (view x) told.0 (sym told.1))
settles view (Ok x) (Some first) met end answer told is = rw is (λ ne. settled_fault met end (view x) first told.0 (sym told.1))
settles view (Err cut.Short) kept met end answer told is =
    let t = told (λ e. absurd (cc e)) in
    rw is.2 (λ ne. settled_cut met end is.0 t.0 (rw (← t.1) is.1))
settles view (Err cut.Memory) kept met end answer told is = rw is (λ ne. absurd (ne refl))
