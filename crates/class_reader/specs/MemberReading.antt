-- What is known of a class while its fields or its methods are read.
use Rattle.std.specs.Prelude.{ℕ, Bool, List, Option}
use Rattle.class_pool.specs.declared.constant.Constant.{Constant}
use Rattle.class_reader.specs.declared.declared.MemberKind.{MemberKind}
use Rattle.class_reader.specs.declared.declared.MemberKind.TheVariants.{Field, Method}
use Rattle.class_reader.specs.Flags.{is_static}
use Rattle.descriptors.specs.Tests.{describes, is_field}
use Rattle.class_reader.specs.ClassReading.{Members}

-- the pool of the class, and the names and descriptors of the members before
pub record Declarations : Type 0 where
  pub pool : List (Option Constant)
  pub members : Members

-- whether a text is the descriptor of a field, or of a method with these flags
abbrev pub descriptor_test : MemberKind → ℕ → List ℕ → Bool
descriptor_test Field = λ flags. is_field
descriptor_test Method = λ flags. describes (is_static flags)
