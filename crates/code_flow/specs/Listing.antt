-- The methods that a method reaches by calls.
use Rattle.std.specs.Prelude.{◌≡◌, ℕ, zero, suc, ◌==◌, ◌&&◌, Bool, true, List, [], ◌∷◌, ◌++◌, Option, Some, None, Result, Ok, Err, flat_map, slice_get, if◌then◌else◌}
use Rattle.std.specs.List.{list_any}
use Rattle.op_table.specs.declared.construct.Construct.{Construct}
use Rattle.world.specs.declared.member.MemberId.{MemberId}
use Rattle.class_hierarchy.specs.World.{World}
use Rattle.code_flow.specs.Judging.{Judged, places_of}

-- how many methods are analysed at most
abbrev pub most_methods : ℕ
most_methods = 4096

abbrev pub is_method : MemberId → MemberId → Bool
is_method m n = m.class == n.class && m.member == n.member

abbrev pub is_among : List MemberId → MemberId → Bool
is_among ms m = list_any (is_method m) ms

abbrev pub targets_in : Result (List MemberId) Construct → List MemberId
targets_in (Ok ts) = ts
targets_in (Err construct) = []

abbrev pub targets_at : Judged → List MemberId
targets_at place = targets_in place.verdict

-- the methods that a method calls, by pc and then in the order of the targets
unfoldable pub callees : World → MemberId → List MemberId
callees w m = flat_map targets_at (places_of w m)

-- those that aren't listed yet, behind the others
unfoldable pub with_new : List MemberId → List MemberId → List MemberId
with_new ms [] = ms
with_new ms (t ∷ ts) = with_new (if is_among ms t then ms else ms ++ t ∷ []) ts

-- the methods of a list, each once, where it stands first
abbrev pub distinct : List MemberId → List MemberId
distinct ms = with_new [] ms

abbrev pub listed_then : (List MemberId → List MemberId) → World → List MemberId → Option MemberId → List MemberId
listed_then others w ms None = ms
listed_then others w ms (Some m) = others (with_new ms (callees w m))

-- at most n of the listed methods from the k-th on are looked at, in order: each adds those that it calls
unfoldable pub listed : World → ℕ → List MemberId → ℕ → List MemberId
listed w zero ms k = ms
listed w (suc n) ms k = listed_then (λ now. listed w n now (suc k)) w ms (slice_get ms k)

-- The methods that m reaches, in breadth-first order, where they are not more than are analysed. Where there are
-- more, a list that begins with as many and one more.
unfoldable pub reached : World → MemberId → List MemberId
reached w m = listed w most_methods (m ∷ []) 0

-- calls lead from the one to the other
pub data Leads (w : World) : MemberId → MemberId → Type 0 where
  calls : {m t : MemberId} → is_among (callees w m) t ≡ true → Leads w m t
  through : {m t u : MemberId} → is_among (callees w m) t ≡ true → Leads w t u → Leads w m u
