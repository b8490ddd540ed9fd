-- The classes that files are, and the first fault of one that is none.
use Rattle.std.specs.Prelude.{◌≡◌, ℕ, List, take, Option, Some, None, slice_get}
use Rattle.std.specs.List.{AllZip}
use Rattle.class_pool.specs.declared.fault.PoolFault.TheVariants as pool
use Rattle.class_reader.specs.declared.class.ClassRecord.{ClassRecord}
use Rattle.class_reader.specs.declared.fault.ClassFault.{ClassFault}
use Rattle.class_reader.specs.declared.fault.ClassFault.TheVariants as faults
use Rattle.class_reader.specs.ClassFile.{IsClassFile}
use Rattle.class_reader.specs.FirstFault.{IsFirstFault}
use Rattle.analyser.specs.declared.fetching.File.{File}
use Rattle.analyser.specs.declared.status.FaultKind.{FaultKind}
use Rattle.analyser.specs.declared.status.FaultKind.TheVariants as kinds

-- where a fault stands, and its kind; want of memory is none
abbrev pub told_of : ClassFault → Option (ℕ × FaultKind)
told_of (faults.Magic at) = Some (at, kinds.Magic)
told_of (faults.Version at) = Some (at, kinds.Version)
told_of (faults.Short at) = Some (at, kinds.Short)
told_of (faults.Pool (pool.Short at)) = Some (at, kinds.Short)
told_of (faults.Pool (pool.BadTag at tag)) = Some (at, kinds.Tag)
told_of (faults.Pool (pool.BadIndex at index)) = Some (at, kinds.Index)
told_of (faults.Pool (pool.BadUtf8 at)) = Some (at, kinds.Utf8)
told_of (faults.Pool pool.Memory) = None
told_of (faults.BadDesc at) = Some (at, kinds.Descriptor)
told_of (faults.BadCode at) = Some (at, kinds.Code)
told_of (faults.Repeated at) = Some (at, kinds.Repeated)
told_of (faults.Reserved at) = Some (at, kinds.Reserved)
told_of (faults.Trailing at) = Some (at, kinds.Trailing)
told_of faults.Memory = None

-- the files are these classes
abbrev pub AreClasses : List File → List ClassRecord → Type 0
AreClasses files classes = AllZip (λ file class. IsClassFile file.bytes class) files classes

-- the bytes are no class, and their first fault is of this kind and stands at this offset
pub record IsFault (bytes : List ℕ) (offset : ℕ) (kind : FaultKind) : Type 0 where
  pub fault : ClassFault
  pub first : IsFirstFault bytes fault
  pub told : told_of fault ≡ Some (offset, kind)

-- the file that this word names is the first that is no class, and this is its first fault
pub record IsBadClass (files : List File) (word offset : ℕ) (kind : FaultKind) : Type 0 where
  pub place : ℕ
  pub file : File
  pub classes : List ClassRecord
  pub stands : slice_get files place ≡ Some file
  pub is_word : word ≡ file.word
  pub is_fault : IsFault file.bytes offset kind
  pub front : AreClasses (take place files) classes
