-- What the reader finds in bytes.
use Rattle.std.specs.Prelude.{◌≡◌, ℕ, List}
use Rattle.class_reader.specs.declared.class.ClassRecord.{ClassRecord}
use Rattle.class_reader.specs.declared.fault.ClassFault.{ClassFault}
use Rattle.class_reader.specs.ClassFile.{IsClassFile}
use Rattle.class_reader.specs.FirstFault.{IsFirstFault}

-- the bytes are a class file of this class alone, and have no fault
pub record IsReadAs (bytes : List ℕ) (class : ClassRecord) : Type 0 where
  pub is : IsClassFile bytes class
  pub one_class : (other : ClassRecord) → IsClassFile bytes other → other ≡ class
  pub no_fault : (fault : ClassFault) → IsFirstFault bytes fault → ⊥
