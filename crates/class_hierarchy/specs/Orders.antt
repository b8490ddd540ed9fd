-- What the names of superclasses and superinterfaces lead to.
use Rattle.std.specs.Prelude.{◌≡◌, ℕ, ◌<◌, true, List, length, take, nat_eq, slice_index_or}
use Rattle.std.specs.List.{list_any}
use Rattle.class_hierarchy.specs.declared.cycle.Order.{Order}
use Rattle.class_hierarchy.specs.declared.cycle.Order.TheVariants.{Ranked, Cyclic}
use Rattle.class_hierarchy.specs.World.{World}
use Rattle.class_hierarchy.specs.Building.{supers, IsCyclic}
use Rattle.class_hierarchy.specs.Ranks.{AreRanks}

-- no class leads to itself, and each has a higher number than what it names; or the first class that does
abbrev pub IsOrder : World → Order → Type 0
IsOrder w (Ranked ranks) = AreRanks w ranks × ((c : ℕ) → ¬ IsCyclic w c)
IsOrder w (Cyclic class) = (class < length w) × IsCyclic w class × ((d : ℕ) → d < class → ¬ IsCyclic w d)

-- the classes, each once, behind all that it names
pub record IsSupersFirst (w : World) (order : List ℕ) : Type 0 where
  pub count : length order ≡ length w
  pub all : (c : ℕ) → c < length w → list_any (nat_eq c) order ≡ true
  pub within : (i : ℕ) → i < length order → slice_index_or order i 0 < length w
  pub supers_first : (i d : ℕ) → i < length order → list_any (nat_eq d) (supers w (slice_index_or order i 0)) ≡ true → list_any (nat_eq d) (take i order) ≡ true
