-- What steps lead to, and members of lists.
use Rattle.std.proofs.Common.{◌≡◌, ℕ, true, List, [], nat_eq}
use Rattle.std.specs.List.{list_any, IsDistinct}
use Rattle.class_hierarchy.specs.Building.{LeadsTo}
use Rattle.class_hierarchy.specs.Building.LeadsTo.{once, through}

pub leads_on : (next : ℕ → List ℕ) (c d e : ℕ) → LeadsTo next c d → list_any (nat_eq e) (next d) ≡ true → LeadsTo next c e
leads_on next c d e (once h) k = through h (once k)
leads_on next c d e (through h more) k = through h (leads_on next _ d e more k)

pub none_twice : IsDistinct nat_eq []
unfolding IsDistinct
none_twice = tt
