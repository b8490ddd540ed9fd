-- The methods that a call can run, as a list.
use Rattle.std.specs.Prelude.{ℕ, zero, suc, List, [], Option, Some, None, Result, Ok, Err, length, if◌then◌else◌}
use Rattle.world.specs.declared.member.MemberId.{MemberId}
use Rattle.world.specs.declared.fault.ResolveFault.{ResolveFault}
use Rattle.class_hierarchy.specs.World.{World}
use Rattle.world.specs.Selection.{selected_by}
use Rattle.world.specs.Targets.{is_receiver}
use Rattle.world.specs.Collecting.{with_target, first_kind}

-- the methods that receivers' classes select, in the order of their classes' names, and the first kind of fault
pub record Selected : Type 0 where
  pub targets : List MemberId
  pub fault : Option ResolveFault

abbrev pub with_answer : World → Selected → Result MemberId ResolveFault → Selected
with_answer w s (Ok t) = record { targets = with_target w t s.targets; fault = s.fault }
with_answer w s (Err fault) = record { targets = s.targets; fault = Some (first_kind s.fault fault) }

-- what the first n classes select, as far as their objects can stand where one of the class c is named
unfoldable pub selected_below : World → ℕ → MemberId → ℕ → Selected
selected_below w c m zero = record { targets = []; fault = None }
selected_below w c m (suc n) =
    if is_receiver w c n then with_answer w (selected_below w c m n) (selected_by w m n) else selected_below w c m n

abbrev pub targets_or : List MemberId → Option ResolveFault → Result (List MemberId) ResolveFault
targets_or targets None = Ok targets
targets_or targets (Some fault) = Err fault

abbrev pub without_fault : Selected → Result (List MemberId) ResolveFault
without_fault s = targets_or s.targets s.fault

-- the methods that a call of m through the class c can run, or the first kind of fault
unfoldable pub targets_of : World → ℕ → MemberId → Result (List MemberId) ResolveFault
targets_of w c m = without_fault (selected_below w c m (length w))
