-- The faults of a class file, and the first of them.
use Rattle.std.specs.Prelude.{◌≡◌, ℕ, ◌<◌, ◌≤◌, List, [], ◌∷◌, ◌++◌, Option, Some, None, nat_lt, if◌then◌else◌}
use Rattle.std.specs.List.{AllByRecursion}
use Rattle.class_pool.specs.declared.fault.PoolFault.{PoolFault}
use Rattle.class_pool.specs.declared.fault.PoolFault.TheVariants as pool
use Rattle.class_pool.specs.FirstFault.{place_of as place_in_pool}
use Rattle.class_reader.specs.declared.fault.ClassFault.{ClassFault}
use Rattle.class_reader.specs.declared.fault.ClassFault.TheVariants.{Magic, Version, Short, Pool, BadDesc, BadCode, Repeated, Reserved, Trailing, Memory}

-- a pool's fault as a fault of the class file
abbrev pub fault_of : PoolFault → ClassFault
fault_of (pool.Short at) = Pool (pool.Short at)
fault_of (pool.BadTag at tag) = Pool (pool.BadTag at tag)
fault_of (pool.BadIndex at index) = Pool (pool.BadIndex at index)
fault_of (pool.BadUtf8 at) = Pool (pool.BadUtf8 at)
fault_of pool.Memory = Memory

-- where a fault stands
abbrev pub place_of : ClassFault → ℕ
place_of (Magic at) = at
place_of (Version at) = at
place_of (Short at) = at
place_of (Pool fault) = place_in_pool fault
place_of (BadDesc at) = at
place_of (BadCode at) = at
place_of (Repeated at) = at
place_of (Reserved at) = at
place_of (Trailing at) = at
place_of Memory = 0

-- the first of some faults: none stands before it, and of those at its place none was met before it
pub record IsFirst (all : List ClassFault) (first : ClassFault) : Type 0 where
  pub before : List ClassFault
  pub behind : List ClassFault
  pub parts : all ≡ before ++ first ∷ behind
  pub sooner : AllByRecursion (λ other. place_of first < place_of other) before
  pub not_later : AllByRecursion (λ other. place_of first ≤ place_of other) behind

-- ---- keeping the first so far

-- the first of one that was kept and another that is met now
abbrev pub noted : Option ClassFault → ClassFault → Option ClassFault
noted None fault = Some fault
noted (Some kept) fault = if nat_lt (place_of fault) (place_of kept) then Some fault else Some kept

-- the first of one that was kept and others that are met after it
unfoldable pub first_with : Option ClassFault → List ClassFault → Option ClassFault
first_with kept [] = kept
first_with kept (fault ∷ faults) = first_with (noted kept fault) faults
