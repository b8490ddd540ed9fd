-- The targets that are met class by class.
use Rattle.std.specs.Prelude.{◌≡◌, ℕ, ◌<◌, ◌≤◌, nat_lt, IsTrue, ◌↔◌, List, [], ◌∷◌, Option, Some, None, Result, Ok, Err, Contains, AllPairs, if◌then◌else◌}
use Rattle.std.specs.Ordering.{nat_cmp, match_ordering}
use Rattle.std.specs.Cmp.Lexicographic.{slice_cmp}
use Rattle.std.specs.Borrow.{Bor}
use Rattle.std.specs.declared.cmp.Ordering.{Ordering}
use Rattle.world.specs.declared.member.MemberId.{MemberId}
use Rattle.world.specs.declared.fault.ResolveFault.{ResolveFault}
use Rattle.class_hierarchy.specs.World.{World, class_at}
use Rattle.world.specs.Selection.{selected_by}
use Rattle.world.specs.Targets.{is_receiver, rank, IsBefore}

-- what some receiver's class below n selects
abbrev pub GivesBelow : World → ℕ → MemberId → ℕ → Result MemberId ResolveFault → Type 0
GivesBelow w c m n answer = (r : ℕ) × (r < n) × IsTrue (is_receiver w c r) × (selected_by w m r ≡ answer)

-- the order of the names of their classes
abbrev pub name_order : World → MemberId → MemberId → Ordering
name_order w s t = slice_cmp nat_cmp (class_at w s.class).name (class_at w t.class).name

-- a target among those in order, once
unfoldable pub with_target : World → MemberId → List MemberId → List MemberId
with_target w t [] = t ∷ []
with_target w t (s ∷ ss) = match_ordering (name_order w t s) (t ∷ s ∷ ss) (t ∷ ss) (s ∷ with_target w t ss)

-- each target stands at the name of its class
abbrev pub AreNamed : World → List (Bor (List ℕ) × MemberId) → Type 0
AreNamed w [] = Unit {0}
AreNamed w (e ∷ es) = (e.0.now ≡ (class_at w e.1.class).name) × AreNamed w es

-- the first kind of two faults
abbrev pub first_kind : Option ResolveFault → ResolveFault → ResolveFault
first_kind None new = new
first_kind (Some old) new = if nat_lt (rank new) (rank old) then new else old

-- the first kind of fault so far
abbrev pub IsFirstBelow : World → ℕ → MemberId → ℕ → Option ResolveFault → Type 0
IsFirstBelow w c m n None = (other : ResolveFault) → ¬ GivesBelow w c m n (Err other)
IsFirstBelow w c m n (Some fault) = GivesBelow w c m n (Err fault) × ((other : ResolveFault) → GivesBelow w c m n (Err other) → rank fault ≤ rank other)

-- what the receivers below n give
pub record Collects (w : World) (c : ℕ) (m : MemberId) (n : ℕ) (targets : List MemberId) (fault : Option ResolveFault) : Type 0 where
  pub all : (t : MemberId) → Contains targets t ↔ GivesBelow w c m n (Ok t)
  pub in_order : AllPairs (IsBefore w) targets
  pub first : IsFirstBelow w c m n fault
