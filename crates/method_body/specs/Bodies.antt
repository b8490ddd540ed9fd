-- The code of one method.
use Rattle.std.specs.Prelude.{◌≡◌, ◌≤◌, List, length, Some, Contains}
use Rattle.class_reader.specs.declared.class.ClassRecord.{ClassRecord}
use Rattle.class_reader.specs.declared.class.Method.{Method}
use Rattle.class_reader.specs.declared.class.Code.{Code}
use Rattle.code_blocks.specs.declared.instruction.Instruction.{Instruction}
use Rattle.code_blocks.specs.declared.instruction.Block.{Block}
use Rattle.code_blocks.specs.Blocks.{AreBlocks}
use Rattle.code_blocks.specs.Laws.{IsSound}
use Rattle.code_blocks.specs.Successors.{instructions_of}

-- a method with its class, its code, the instructions of this, and their blocks
pub record MethodBody : Type 0 where
  pub class : ClassRecord
  pub method : Method
  pub code : Code
  pub instructions : List Instruction
  pub blocks : List Block

-- the method has this code, which is as long as code may be, and sound
pub record HasSoundCode (method : Method) (code : Code) : Type 0 where
  pub own : method.code ≡ Some code
  pub some : 1 ≤ length code.bytes
  pub short : length code.bytes ≤ 65535
  pub sound : IsSound code.bytes

-- a method of the class, and what its sound code is
pub record IsBody (b : MethodBody) : Type 0 where
  pub declared : Contains b.class.methods b.method
  pub has_code : HasSoundCode b.method b.code
  pub instructions_are : b.instructions ≡ instructions_of b.code.bytes
  pub blocks_are : AreBlocks b.instructions b.blocks
