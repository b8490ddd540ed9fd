-- Numbers of members, and what answers say.
use Rattle.std.specs.Prelude.{◌≡◌, ◌≢◌, Result, Ok, Err, IfSome, ◌<◌, ◌≤◌, length}
use Rattle.class_reader.specs.declared.class.Method.{Method}
use Rattle.world.specs.declared.member.MemberId.{MemberId}
use Rattle.world.specs.declared.fault.ResolveFault.{ResolveFault}
use Rattle.world.specs.declared.fault.ResolveFault.TheVariants.{Memory}
use Rattle.class_hierarchy.specs.World.{World, class_at}

-- the number is one of a field, or of a method
abbrev pub HasField : World → MemberId → Type 0
HasField w m = (m.class < length w) × (m.member < length (class_at w m.class).fields)

abbrev pub HasMethod : World → MemberId → Type 0
HasMethod w m = (m.class < length w) × (m.member < length (class_at w m.class).methods)

-- the code of the method, if it has one, takes at most 65,535 bytes (JVMS 4.7.3)
abbrev pub HasShortCode : Method → Type 0
HasShortCode method = IfSome method.code (λ code. length code.bytes ≤ 65535)

-- what a call answers is this, unless memory runs out
abbrev pub Tells : {A : Type 0} → Result A ResolveFault → Result A ResolveFault → Type 0
Tells (Ok x) answer = answer ≡ Ok x
Tells (Err fault) answer = fault ≢ Memory → answer ≡ Err fault
