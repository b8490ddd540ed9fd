-- The first fault of bytes that are no constant pool.
use Rattle.std.specs.Prelude.{◌≡◌, ◌⊎◌, ℕ, zero, suc, ◌+◌, ◌-◌, ◌≤◌, Bool, true, false, List, [], ◌∷◌, ◌++◌, Option, Result, Ok, Err, if◌then◌else◌}
use Rattle.class_pool.specs.declared.constant.Constant.{Constant}
use Rattle.class_pool.specs.declared.fault.PoolFault.{PoolFault}
use Rattle.class_pool.specs.declared.fault.PoolFault.TheVariants.{Short, BadTag, BadIndex, BadUtf8, Memory}
use Rattle.class_pool.specs.Place.{Place}
use Rattle.class_pool.specs.Pieces.{StartsWith}
use Rattle.class_pool.specs.Pool.{is_text, is_wide, IsTable, IsPool}
use Rattle.class_pool.specs.PoolReading.{num_at, entry_at, slot_link, slot_size}

-- where a fault stands
abbrev pub place_of : PoolFault → ℕ
place_of (Short at) = at
place_of (BadTag at tag) = at
place_of (BadIndex at index) = at
place_of (BadUtf8 at) = at
place_of Memory = 0

abbrev pub IsAmong : {A : Type 0} → A → List A → Type 0
IsAmong x [] = ⊥
IsAmong x (y ∷ ys) = (x ≡ y) ⊎ IsAmong x ys

-- one of them, and none stands before it
pub record IsFirst (all : List PoolFault) (first : PoolFault) : Type 0 where
  pub among : IsAmong first all
  pub least : (other : PoolFault) → IsAmong other all → place_of first ≤ place_of other

-- ---- the faults of the bytes

abbrev pub fault_of : {A : Type 0} → Result A PoolFault → List PoolFault
fault_of (Ok x) = []
fault_of (Err fault) = fault ∷ []

abbrev pub text_faults : ℕ → Constant → List PoolFault
text_faults at entry = if is_text entry then [] else BadUtf8 at ∷ []

-- the faults of an entry and of what stands behind it. An entry that is cut or has no tag of a kind
-- ends the pool, and one whose text is none doesn't.
abbrev pub faults_with : (Bool → Place → List PoolFault) → ℕ → Result (Constant × Place) PoolFault → List PoolFault
faults_with behind at (Err fault) = fault ∷ []
faults_with behind at (Ok entry) = text_faults at entry.0 ++ behind (is_wide entry.0) entry.1

-- all faults of so many indices, from one on that has nothing or an entry
unfoldable pub slots_faults : ℕ → Bool → Place → List PoolFault
slots_faults zero gap place = []
slots_faults (suc left) true place = slots_faults left false place
slots_faults (suc left) false place = faults_with (slots_faults left) place.at (entry_at left place)

-- all faults of the indices behind the count
abbrev pub faults_behind : Result (ℕ × Place) PoolFault → List PoolFault
faults_behind (Err fault) = fault ∷ []
faults_behind (Ok count) = slots_faults (count.0 - 1) false count.1

abbrev pub table_faults : Place → List PoolFault
table_faults place = faults_behind (num_at 2 place)

-- ---- the faults of the links

-- all faults of the links of the indices from one on, whose bytes begin at this offset
unfoldable pub link_faults : List (Option Constant) → ℕ → List (Option Constant) → List PoolFault
link_faults pool at [] = []
link_faults pool at (slot ∷ slots) = fault_of (slot_link pool at slot) ++ link_faults pool (at + slot_size slot) slots

-- ---- the first fault

-- the first fault of a table's links
pub record IsFirstLink (place : Place) (fault : PoolFault) : Type 0 where
  pub pool : List (Option Constant)
  pub next : Place
  pub table : StartsWith IsTable place pool next
  pub first : IsFirst (link_faults pool (place.at + 2) pool) fault

-- the first fault of the bytes, or of the links where the bytes have none
abbrev pub IsFirstFault : Place → PoolFault → Type 0
IsFirstFault place fault = IsFirst (table_faults place) fault ⊎ IsFirstLink place fault

-- ---- one of the two

abbrev pub HasPool : Place → Type 0
HasPool place = (pool : List (Option Constant)) × (next : Place) × StartsWith IsPool place pool next

abbrev pub HasFault : Place → Type 0
HasFault place = (fault : PoolFault) × IsFirstFault place fault

-- bytes begin with a pool or have a first fault, and with one of the two alone
pub record IsDecided (place : Place) : Type 0 where
  pub either : HasPool place ⊎ HasFault place
  pub one_pool : (pool other : List (Option Constant)) (next behind : Place) → StartsWith IsPool place pool next → StartsWith IsPool place other behind → (pool ≡ other) × (next ≡ behind)
  pub one_fault : (fault other : PoolFault) → IsFirstFault place fault → IsFirstFault place other → fault ≡ other
  pub not_both : (pool : List (Option Constant)) (next : Place) (fault : PoolFault) → StartsWith IsPool place pool next → IsFirstFault place fault → ⊥
