-- Which calls lead back to their method, by the numbers of components.
use Rattle.std.specs.Prelude.{◌≡◌, ◌↔◌, ◌⊎◌, ℕ, ◌<◌, ◌≤◌, ◌==◌, List, length, slice_get, slice_index, Contains, Option, Some, None}
use Rattle.std.specs.List.{position}
use Rattle.graph_core.specs.Graphs.{HasEdge}
use Rattle.world.specs.declared.member.MemberId.{MemberId}
use Rattle.class_hierarchy.specs.World.{World}
use Rattle.code_flow.specs.declared.checking.Check.{Check}
use Rattle.code_flow.specs.declared.checking.Check.TheVariants.{Over, Back}
use Rattle.code_flow.specs.Listing.{is_method, is_among, callees, most_methods, reached}

-- the place of one of the methods
abbrev pub IsPlaceOf : List MemberId → List MemberId → ℕ → Type 0
IsPlaceOf ms ts y = (t : MemberId) × Contains ts t × (position (is_method t) ms ≡ Some y)

-- edges from i to the places of the methods were added
pub record Adds (ms : List MemberId) (i : ℕ) (ts : List MemberId) (old new : List (List ℕ)) : Type 0 where
  pub count : length new ≡ length old
  pub edges : (x y : ℕ) → HasEdge new x y ↔ (HasEdge old x y ⊎ ((x ≡ i) × IsPlaceOf ms ts y))

-- an edge for each call of the first n methods
pub record IsGraphTo (w : World) (ms : List MemberId) (n : ℕ) (g : List (List ℕ)) : Type 0 where
  pub count : length g ≡ length ms
  pub sound : (x y : ℕ) → HasEdge g x y → (m : MemberId) × (slice_get ms x ≡ Some m) × IsPlaceOf ms (callees w m) y
  pub whole : (x y : ℕ) (m : MemberId) → x < n → slice_get ms x ≡ Some m → IsPlaceOf ms (callees w m) y → HasEdge g x y

-- a call leads back exactly where the two methods have one number, and no call leads to a greater one
pub record TellsBack (w : World) (ms : List MemberId) (numbers : List ℕ) : Type 0 where
  pub count : length numbers ≡ length ms
  pub few : length ms ≤ most_methods
  pub back :
      (i : ℕ) (m t : MemberId) → slice_get ms i ≡ Some m → Contains (callees w m) t
      → (j : ℕ) × (j < length ms) × (position (is_method t) ms ≡ Some j) × ((slice_index numbers i == slice_index numbers j) ≡ is_among (reached w t) m) × (slice_index numbers j ≤ slice_index numbers i)

-- what is checked at each call
abbrev pub IsCheck : World → List MemberId → Option MemberId → Check → Type 0
IsCheck w ms over (Over first) = over ≡ Some first
IsCheck w ms over (Back numbers) = (over ≡ None) × TellsBack w ms numbers
