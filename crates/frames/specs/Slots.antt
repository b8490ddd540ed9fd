-- Values by their members: those of an object's fields, and of the statics (JVMS 2.4, 2.5.4).
use Rattle.std.specs.Prelude.{ℕ, ◌==◌, ◌&&◌, Bool, List, [], ◌∷◌, Option, Some, None, position, if◌then◌else◌}
use Rattle.world.specs.declared.member.MemberId.{MemberId}
use Rattle.frames.specs.declared.value.Value.{Value}

-- the two are one member
abbrev pub is_member : MemberId → MemberId → Bool
is_member m n = m.class == n.class && m.member == n.member

-- where a member stands
abbrev pub place_of : MemberId → List (MemberId × Value) → Option ℕ
place_of m values = position (λ f. is_member m f.0) values

-- the value of a member
abbrev pub value_of : MemberId → List (MemberId × Value) → Option Value
value_of m [] = None
value_of m (f ∷ fs) = if is_member m f.0 then Some f.1 else value_of m fs

-- the values with another one for a member
abbrev pub with_value : MemberId → Value → List (MemberId × Value) → List (MemberId × Value)
with_value m value [] = []
with_value m value (f ∷ fs) = if is_member m f.0 then (m, value) ∷ fs else f ∷ with_value m value fs
