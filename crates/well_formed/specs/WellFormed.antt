-- Configurations that are well formed: what is held has its form, and each number lies in the range of its kind
-- (JVMS 2.3, 2.4, 2.6).
use Rattle.std.specs.Prelude.{◌≡◌, ℕ, ◌<◌, List, Some, IsTrue, Contains}
use Rattle.std.specs.List.{AllByRecursion}
use Rattle.class_reader.specs.declared.class.ClassRecord.{ClassRecord}
use Rattle.class_reader.specs.declared.class.Field.{Field}
use Rattle.class_reader.specs.declared.class.Code.{Code}
use Rattle.class_reader.specs.ClassFile.{IsClassFile}
use Rattle.descriptors.specs.Grammar.{IsFieldDescriptor}
use Rattle.op_table.specs.declared.acts.Width.TheVariants as widths
use Rattle.world.specs.declared.member.MemberId.{MemberId}
use Rattle.class_hierarchy.specs.World.{World, class_at, world_of}
use Rattle.linking.specs.Methods.{code_at}
use Rattle.frames.specs.declared.value.Value.{Value}
use Rattle.frames.specs.declared.value.Value.TheVariants.{Int, Long, Pad, Null, Ref}
use Rattle.frames.specs.declared.frame.Frame.{Frame}
use Rattle.frames.specs.declared.here.Here.{Here}
use Rattle.frames.specs.Heap.{Cells}
use Rattle.word_steps.specs.Numbers.{fits}
use Rattle.steps.specs.declared.configuration.State.{State}
use Rattle.entries.specs.Entry.{AreStatics}
use Rattle.entries.specs.Entering.{IsHeldFrom}

-- A number lies in the range of its kind. All that a reference leads to is held: objects of classes of which there can
-- be objects, and arrays of a descriptor, whose fields and elements agree with their descriptors.
abbrev pub IsWord : World → Cells → Value → Type 0
IsWord w heap (Int n) = IsTrue (fits widths.Int n)
IsWord w heap (Long n) = IsTrue (fits widths.Long n)
IsWord w heap Pad = Unit {0}
IsWord w heap Null = Unit {0}
IsWord w heap (Ref r) = IsHeldFrom w heap (Ref r)

-- a frame, the running one or one that waits
pub record IsFrame (w : World) (heap : Cells) (frame : Frame) : Type 0 where
  pub locals : AllByRecursion (IsWord w heap) frame.locals
  pub stack : AllByRecursion (IsWord w heap) frame.stack

-- what the running frame sees: each static of the world has a number in the range of its type
pub record IsWellFormed (w : World) (here : Here) : Type 0 where
  pub frame : IsFrame w here.heap here.frame
  pub statics : AreStatics w here.statics

-- a configuration, with the frames that wait
pub record IsConfiguration (w : World) (state : State) : Type 0 where
  pub here : IsWellFormed w state.here
  pub callers : AllByRecursion (IsFrame w state.here.heap) state.callers

-- ---- worlds

abbrev pub AreBytes : List ℕ → Type 0
AreBytes bytes = (byte : ℕ) → Contains bytes byte → byte < 256

-- The world's fields have descriptors, and its code is of bytes, as in classes that were read (JVMS 4.3.2, 4.7.3).
pub record IsOfFiles (w : World) : Type 0 where
  pub fields : (c : ℕ) (field : Field) → Contains (class_at w c).fields field → IsFieldDescriptor field.desc
  pub code : (m : MemberId) (code : Code) → code_at w m ≡ Some code → AreBytes code.bytes

-- a file of bytes has the class
pub record HasFile (class : ClassRecord) : Type 0 where
  pub file : List ℕ
  pub bytes : AreBytes file
  pub is : IsClassFile file class

-- a world of classes that have files
abbrev pub WorldsAreOfFiles : Type 0
WorldsAreOfFiles = (classes : List ClassRecord) → ((class : ClassRecord) → Contains classes class → HasFile class) → IsOfFiles (world_of classes)
