-- The methods of a world and their code, by number.
use Rattle.std.specs.Prelude.{Option, option_and_then, slice_get}
use Rattle.class_reader.specs.declared.class.Method.{Method}
use Rattle.class_reader.specs.declared.class.Code.{Code}
use Rattle.world.specs.declared.member.MemberId.{MemberId}
use Rattle.class_hierarchy.specs.World.{World}

-- the method with this number, if there is one
abbrev pub method_at : World → MemberId → Option Method
method_at w m = option_and_then (λ class. slice_get class.methods m.member) (slice_get w m.class)

-- the code of a method: none where it is native or abstract
abbrev pub code_at : World → MemberId → Option Code
code_at w m = option_and_then (λ method. method.code) (method_at w m)
