-- The names of superclasses and superinterfaces as a graph, and classes in the order in which all that a class names
-- stands before it.
use Rattle.std.specs.Prelude.{◌≡◌, ◌↔◌, ℕ, ◌<◌, Bool, true, false, List, length, Option, Some, None, nat_eq, Contains, slice_index_or}
use Rattle.std.specs.List.{list_any}
use Rattle.std.specs.List.Sorted.{IsNonDecreasingBy}
use Rattle.graph_core.specs.Graphs.{HasEdge, successors_of}
use Rattle.class_hierarchy.specs.declared.rank.Ranked.{Ranked}
use Rattle.class_hierarchy.specs.World.{World}
use Rattle.class_hierarchy.specs.Building.{supers}

-- each class below n has an edge to each that it names
pub record IsGraphBelow (w : World) (n : ℕ) (g : List (List ℕ)) : Type 0 where
  pub nodes : length g ≡ length w
  pub edges : (c d : ℕ) → HasEdge g c d ↔ ((c < n) × (list_any (nat_eq d) (supers w c) ≡ true))

-- the number of a class
abbrev pub number_in : List ℕ → ℕ → ℕ
number_in numbers c = slice_index_or numbers c 0

-- the class names one of its own component
abbrev pub has_peer : List (List ℕ) → List ℕ → ℕ → Bool
has_peer g numbers c = list_any (λ d. nat_eq (number_in numbers d) (number_in numbers c)) (successors_of g c)

-- the first one that does
abbrev pub FindsPeer : List (List ℕ) → List ℕ → Option ℕ → Type 0
FindsPeer g numbers None = (c : ℕ) → c < length g → has_peer g numbers c ≡ false
FindsPeer g numbers (Some c) = (c < length g) × (has_peer g numbers c ≡ true) × ((d : ℕ) → d < c → has_peer g numbers d ≡ false)

-- all that a class names has lower ranks
pub record AreRanks (w : World) (ranks : List ℕ) : Type 0 where
  pub count : length ranks ≡ length w
  pub rise : (c d : ℕ) → c < length w → list_any (nat_eq d) (supers w c) ≡ true → number_in ranks d < number_in ranks c

-- the classes by rising rank
pub record IsByRank (ranks : List ℕ) (order : List Ranked) : Type 0 where
  pub count : length order ≡ length ranks
  pub all : (c : ℕ) → c < length ranks → Contains order (record { rank = number_in ranks c; class = c })
  pub below : (k : ℕ) (d : Ranked) → k < length order → (slice_index_or order k d).class < length ranks
  pub ranked : (k : ℕ) (d : Ranked) → k < length order → number_in ranks (slice_index_or order k d).class ≡ (slice_index_or order k d).rank
  pub rising : IsNonDecreasingBy (λ (r : Ranked). r.rank) order
