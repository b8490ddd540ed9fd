-- Which of two sums has the lesser constant, where the second is shared by 2.
use Rattle.std.specs.Prelude.{◌≡◌, ◌⊎◌, pos, ◌*ℤ◌, ◌≤ℤ◌, Option, Some, None}
use Rattle.small_cert.specs.declared.multiple.Multiple.{Multiple}
use Rattle.small_cert.specs.declared.multiple.Multiple.TheVariants.{Once, Twice}
use Rattle.small_cert.specs.declared.least.Least.{Least}
use Rattle.small_sums.specs.declared.term.Sum.{Sum}

abbrev pub taken_as : Multiple → Sum → Least
taken_as multiple s = record { terms = s.terms; multiple = multiple; sum = s.constant }

abbrev pub IsLesser : Option Sum → Option Sum → Option Least → Type 0
IsLesser None None r = r ≡ None
IsLesser (Some a) None r = r ≡ Some (taken_as Once a)
IsLesser None (Some b) r = r ≡ Some (taken_as Twice b)
IsLesser (Some a) (Some b) r = (((pos 2 *ℤ a.constant) ≤ℤ b.constant) × (r ≡ Some (taken_as Once a))) ⊎ ((b.constant ≤ℤ (pos 2 *ℤ a.constant)) × (r ≡ Some (taken_as Twice b)))
