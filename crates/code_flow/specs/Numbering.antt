-- Methods by their place in a list.
use Rattle.std.specs.Prelude.{◌≡◌, ℕ, List, Option}
use Rattle.std.specs.List.{position}
use Rattle.std.specs.Ordering.{nat_cmp, ordering_then}
use Rattle.std.specs.declared.cmp.Ordering.{Ordering}
use Rattle.std.specs.BTreeMap as tree
use Rattle.std.specs.BTreeMap.{BTreeMap}
use Rattle.world.specs.declared.member.MemberId.{MemberId}
use Rattle.code_flow.specs.Listing.{is_method}

abbrev pub key_cmp : ℕ × ℕ → ℕ × ℕ → Ordering
key_cmp a b = ordering_then (nat_cmp a.0 b.0) (nat_cmp a.1 b.1)

abbrev pub place_in : BTreeMap (ℕ × ℕ) ℕ → ℕ × ℕ → Option ℕ
place_in places key = tree.get key_cmp places key

-- the map has the place of each method
abbrev pub HasPlaces : BTreeMap (ℕ × ℕ) ℕ → List MemberId → Type 0
HasPlaces places ms = (m : MemberId) → place_in places (m.class, m.member) ≡ position (is_method m) ms
