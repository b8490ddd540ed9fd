-- The first fault of bytes that are no class file.
use Rattle.std.specs.Prelude.{◌≡◌, ◌≢◌, ◌⊎◌, ℕ, ◌+◌, List, [], length, Option, codes}
use Rattle.class_pool.specs.declared.constant.Constant.{Constant}
use Rattle.class_pool.specs.declared.fault.PoolFault.{PoolFault}
use Rattle.class_pool.specs.Place.{Place}
use Rattle.class_pool.specs.Pieces.{StartsWith}
use Rattle.class_pool.specs.Pool.{IsPool}
use Rattle.class_pool.specs.FirstFault.{IsFirstFault as IsFirstPoolFault}
use Rattle.class_reader.specs.declared.class.ClassRecord.{ClassRecord}
use Rattle.class_reader.specs.declared.fault.ClassFault.{ClassFault}
use Rattle.class_reader.specs.declared.fault.ClassFault.TheVariants.{Reserved, Trailing}
use Rattle.class_reader.specs.Faults.{fault_of, IsFirst}
use Rattle.class_reader.specs.Met.{Passes, all_faults}
use Rattle.class_reader.specs.ClassReading.{Rest, head_at, rest_at}
use Rattle.class_reader.specs.ClassFile.{IsClassFile}

abbrev pub start_of : List ℕ → Place
start_of bytes = record { at = 0; rest = bytes }

-- The bytes begin with magic and versions that are right, and a pool, which ends at the place.
pub record HasPool (bytes : List ℕ) (pool : List (Option Constant)) (place : Place) : Type 0 where
  pub major : ℕ
  pub start : Place
  pub head : Passes (head_at (start_of bytes)) (major, start)
  pub is_pool : StartsWith IsPool start pool place

-- what stands behind the pool has no fault, and ends at the last place
pub record HasRest (bytes : List ℕ) (rest : Rest) (this last : Place) : Type 0 where
  pub pool : List (Option Constant)
  pub found : HasPool bytes pool this
  pub passes : Passes (rest_at pool this) (rest, last)

-- The faults stand in parts of the file, one after another, and a part is looked at where none before it has
-- any: magic and versions; the pool; what stands behind it; that the class isn't built in; that the file ends.
pub data IsFirstFault (bytes : List ℕ) : ClassFault → Type 0 where
  in_head : {fault : ClassFault} → IsFirst (all_faults (length bytes) (head_at (start_of bytes))) fault → IsFirstFault bytes fault
  in_pool : {major : ℕ} {start : Place} {fault : PoolFault} → Passes (head_at (start_of bytes)) (major, start) → IsFirstPoolFault start fault → IsFirstFault bytes (fault_of fault)
  in_rest : {pool : List (Option Constant)} {place : Place} {fault : ClassFault} → HasPool bytes pool place → IsFirst (all_faults (length bytes) (rest_at pool place)) fault → IsFirstFault bytes fault
  built_in : {rest : Rest} {this last : Place} → HasRest bytes rest this last → rest.name ≡ codes "java/lang/Object" → IsFirstFault bytes (Reserved (this.at + 2))
  goes_past : {rest : Rest} {this last : Place} → HasRest bytes rest this last → rest.name ≢ codes "java/lang/Object" → last.rest ≢ [] → IsFirstFault bytes (Trailing last.at)

-- bytes are a class file or have a first fault, and one of the two alone
pub record IsDecided (bytes : List ℕ) : Type 0 where
  pub either : ((class : ClassRecord) × IsClassFile bytes class) ⊎ ((fault : ClassFault) × IsFirstFault bytes fault)
  pub one_class : (class other : ClassRecord) → IsClassFile bytes class → IsClassFile bytes other → class ≡ other
  pub one_fault : (fault other : ClassFault) → IsFirstFault bytes fault → IsFirstFault bytes other → fault ≡ other
  pub not_both : (class : ClassRecord) (fault : ClassFault) → IsClassFile bytes class → IsFirstFault bytes fault → ⊥
