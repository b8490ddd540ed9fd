-- A walk through a heap on its way: what is known of each object, and the objects that are being looked at, each found from the
-- one before it.
use Rattle.std.specs.Prelude.{◌≡◌, ◌⊎◌, ℕ, zero, suc, ◌+◌, ◌-◌, ◌<◌, ◌≤◌, max, List, [], ◌∷◌, length, All, Option, Some, None, slice_get}
use Rattle.frames.specs.declared.value.Value.{Value}
use Rattle.frames.specs.declared.value.Value.TheVariants.{Ref}
use Rattle.frames.specs.Heap.{Cells, cell_at}
use Rattle.entries.specs.Entry.{values_in, Leads, Reaches, IsAcyclic}
use Rattle.path_length.specs.declared.walk.Mark.{Mark}
use Rattle.path_length.specs.declared.walk.Mark.TheVariants.{New, Open, Done}
use Rattle.path_length.specs.declared.walk.Visit.{Visit}
use Rattle.path_length.specs.declared.walk.Finding.{Finding}
use Rattle.path_length.specs.declared.walk.Finding.TheVariants.{Leave, Pass, Enter, Cycle}
use Rattle.path_length.specs.Lengths.{HasChain, IsLongest, ReachesNoCycle}

-- the values in the object with this number
abbrev pub values_of : Cells → ℕ → List Value
values_of heap a = values_in (cell_at heap a)

-- the value that is looked at next
abbrev pub next_value : Cells → Visit → Option Value
next_value heap v = slice_get (values_of heap v.node) v.next

-- ---- a look at a value
-- the longest chain so far, with those from the value
abbrev pub IsPassed : List Mark → ℕ → Value → ℕ → Type 0
IsPassed marks longest (Ref b) n = (k : ℕ) × (slice_get marks b ≡ Some (Done k)) × (n ≡ max longest k)
IsPassed marks longest value n = n ≡ longest

abbrev pub IsLookAt : List Mark → ℕ → ℕ → Finding → Type 0
IsLookAt marks longest b Leave = ⊥
IsLookAt marks longest b (Pass n) = IsPassed marks longest (Ref b) n
IsLookAt marks longest b (Enter c) = (c ≡ b) × (slice_get marks b ≡ Some New)
IsLookAt marks longest b Cycle = slice_get marks b ≡ Some Open

abbrev pub IsLook : Cells → List Mark → Visit → Finding → Type 0
IsLook heap marks v Leave = next_value heap v ≡ None
IsLook heap marks v (Pass n) = (value : Value) × (next_value heap v ≡ Some value) × IsPassed marks v.longest value n
IsLook heap marks v (Enter b) = (next_value heap v ≡ Some (Ref b)) × (slice_get marks b ≡ Some New)
IsLook heap marks v Cycle = (b : ℕ) × (next_value heap v ≡ Some (Ref b)) × (slice_get marks b ≡ Some Open)

-- ---- what the walk keeps
-- nothing but an object that is done has a length
abbrev pub length_in : Option Mark → Option ℕ
length_in None = None
length_in (Some New) = None
length_in (Some Open) = None
length_in (Some (Done n)) = Some n

-- an object that is done
pub record IsDone (heap : Cells) (b n : ℕ) : Type 0 where
  pub longest : IsLongest heap (Ref b) n
  pub acyclic : IsAcyclic heap b

-- a value from which no longer chain begins, and from which no cycle is reached
pub record IsSeen (heap : Cells) (longest : ℕ) (value : Value) : Type 0 where
  pub no_longer : ¬ HasChain heap (suc longest) value
  pub acyclic : ReachesNoCycle heap value

-- an object of which the values below a place are seen
pub record IsVisit (heap : Cells) (root : ℕ) (v : Visit) : Type 0 where
  pub reached : Reaches heap root v.node
  pub chain : HasChain heap (suc v.longest) (Ref v.node)
  pub seen : (i : ℕ) (value : Value) → i < v.next → slice_get (values_of heap v.node) i ≡ Some value → IsSeen heap v.longest value

abbrev pub IsVisited : ℕ → List Visit → Type 0
IsVisited b [] = ⊥
IsVisited b (v ∷ vs) = (v.node ≡ b) ⊎ IsVisited b vs

-- each leads to those behind it
abbrev pub AllLead : Cells → List Visit → Type 0
AllLead heap [] = Unit {0}
AllLead heap (v ∷ vs) = All (λ u. Leads heap v.node u.node) vs × AllLead heap vs

abbrev pub count_new : List Mark → ℕ
count_new [] = zero
count_new (New ∷ marks) = suc (count_new marks)
count_new (Open ∷ marks) = count_new marks
count_new (Done n ∷ marks) = count_new marks

-- how many objects aren't done
abbrev pub undone : List Mark → List Visit → ℕ
undone marks visits = count_new marks + length visits

pub record IsWalk (heap : Cells) (root : ℕ) (marks : List Mark) (visits : List Visit) : Type 0 where
  pub count : length marks ≡ length heap
  pub done : (b n : ℕ) → slice_get marks b ≡ Some (Done n) → IsDone heap b n
  pub low : (b n : ℕ) → slice_get marks b ≡ Some (Done n) → n + undone marks visits ≤ length heap
  pub visited : (b : ℕ) → slice_get marks b ≡ Some Open → IsVisited b visits
  pub each : All (IsVisit heap root) visits
  pub short : All (λ v. v.longest + undone marks visits ≤ length heap) visits
  pub lead : AllLead heap visits
  pub begun : ¬ (slice_get marks root ≡ Some New)

-- ---- how much is left to do
abbrev pub new_work : Cells → ℕ → List Mark → ℕ
new_work heap i [] = zero
new_work heap i (New ∷ marks) = suc (suc (length (values_of heap i))) + new_work heap (suc i) marks
new_work heap i (Open ∷ marks) = new_work heap (suc i) marks
new_work heap i (Done n ∷ marks) = new_work heap (suc i) marks

abbrev pub visit_work : Cells → List Visit → ℕ
visit_work heap [] = zero
visit_work heap (v ∷ vs) = suc (length (values_of heap v.node) - v.next) + visit_work heap vs

abbrev pub work : Cells → List Mark → List Visit → ℕ
work heap marks visits = new_work heap 0 marks + visit_work heap visits
