-- The members of a class in an order of their names and descriptors.
use Rattle.std.specs.Prelude.{◌≡◌, ◌<◌, ℕ, suc, Bool, true, false, List, [], ◌∷◌, ◌&&◌, length, drop, map, slice_index_or}
use Rattle.std.specs.List.{flat_map, range_with_len}
use Rattle.std.specs.List.Sorted.{IsPermutation, IsSorted, IsPartitionPoint}
use Rattle.std.specs.Str.{bytes_eq}
use Rattle.std.specs.declared.cmp.Ordering.{Ordering}
use Rattle.std.specs.Ordering.{nat_cmp, ordering_then, is_lt}
use Rattle.std.specs.Cmp.Lexicographic.{slice_cmp}
use Rattle.class_reader.specs.declared.class.Field.{Field}
use Rattle.class_reader.specs.declared.class.Method.{Method}
use Rattle.class_reader.specs.declared.class.ClassRecord.{ClassRecord}
use Rattle.world.specs.declared.members.Members.{Members}
use Rattle.class_hierarchy.specs.World.{World, class_at}

-- what a member is looked up by
pub record Key : Type 0 where
  pub name : List ℕ
  pub desc : List ℕ

abbrev pub field_key : Field → Key
field_key field = record { name = field.name; desc = field.desc }

abbrev pub method_key : Method → Key
method_key method = record { name = method.name; desc = method.desc }

abbrev pub is_keyed : List ℕ → List ℕ → Key → Bool
is_keyed name desc key = bytes_eq key.name name && bytes_eq key.desc desc

-- what a text begins with: 0 where it has ended, which stands below each byte
abbrev pub front : List ℕ → ℕ
front [] = 0
front (b ∷ text) = suc b

-- a name and a descriptor side by side, to where both have ended: the fronts of both, those behind them, and so on
abbrev pub mixed : List ℕ → List ℕ → List ℕ
mixed [] desc = flat_map (λ b. 0 ∷ suc b ∷ []) desc
mixed (b ∷ name) desc = suc b ∷ front desc ∷ mixed name (drop 1 desc)

-- by the first place at which the names or the descriptors differ, so that two keys are never read further than that
abbrev pub key_cmp : Key → Key → Ordering
key_cmp x y = slice_cmp nat_cmp (mixed x.name x.desc) (mixed y.name y.desc)

-- the key at this place, empty past the end
abbrev pub key_at : List Key → ℕ → Key
key_at keys place = slice_index_or keys place (record { name = []; desc = [] })

-- by the keys there, and then by the places
abbrev pub place_cmp : List Key → ℕ → ℕ → Ordering
place_cmp keys i j = ordering_then (key_cmp (key_at keys i) (key_at keys j)) (nat_cmp i j)

-- all places of the keys, in this order
pub record AreByKey (keys : List Key) (places : List ℕ) : Type 0 where
  pub all : IsPermutation (range_with_len 0 (length keys)) places
  pub sorted : IsSorted (place_cmp keys) places

-- where a search for the key ends: the places before it have lower keys, and no later one has
abbrev pub IsPointOf : List Key → List ℕ → Key → ℕ → Type 0
IsPointOf keys places key at = IsPartitionPoint (λ i. is_lt (key_cmp (key_at keys i) key) ≡ true) (λ i. is_lt (key_cmp (key_at keys i) key) ≡ false) places at

-- those of the fields and those of the methods of a class
pub record AreMembers (class : ClassRecord) (members : Members) : Type 0 where
  pub fields : AreByKey (map field_key class.fields) members.fields
  pub methods : AreByKey (map method_key class.methods) members.methods

-- those of the classes below this number
pub record HaveMembers (w : World) (n : ℕ) (members : List Members) : Type 0 where
  pub count : length members ≡ n
  pub each : (c : ℕ) (d : Members) → c < n → AreMembers (class_at w c) (slice_index_or members c d)
