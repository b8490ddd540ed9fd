-- Where members stand among values, in a map.
use Rattle.std.specs.Prelude.{◌≡◌, ℕ, ◌+◌, List, Option, drop, option_map}
use Rattle.std.specs.Ordering.{nat_cmp, ordering_then}
use Rattle.std.specs.declared.cmp.Ordering.{Ordering}
use Rattle.std.specs.BTreeMap as tree
use Rattle.std.specs.BTreeMap.{BTreeMap}
use Rattle.world.specs.declared.member.MemberId.{MemberId}
use Rattle.frames.specs.declared.value.Value.{Value}
use Rattle.frames.specs.Slots.{place_of}

abbrev pub key_cmp : ℕ × ℕ → ℕ × ℕ → Ordering
key_cmp a b = ordering_then (nat_cmp a.0 b.0) (nat_cmp a.1 b.1)

abbrev pub place_in : BTreeMap (ℕ × ℕ) ℕ → ℕ × ℕ → Option ℕ
place_in places key = tree.get key_cmp places key

-- the map has the place of each member
abbrev pub HasPlaces : BTreeMap (ℕ × ℕ) ℕ → List (MemberId × Value) → Type 0
HasPlaces places values = (m : MemberId) → place_in places (m.class, m.member) ≡ place_of m values

-- the same from a place on
abbrev pub HasPlacesFrom : ℕ → BTreeMap (ℕ × ℕ) ℕ → List (MemberId × Value) → Type 0
HasPlacesFrom n places values = (m : MemberId) → place_in places (m.class, m.member) ≡ option_map (λ i. i + n) (place_of m (drop n values))
