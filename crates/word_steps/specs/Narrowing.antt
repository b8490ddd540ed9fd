-- What is left of a number in the type of a field, an element or a result (JVMS 2.3, 6.5.ireturn).
use Rattle.std.specs.Prelude.{ℕ, ◌==◌, ℤ, pos, List, [], ◌∷◌, if◌then◌else◌}
use Rattle.std.specs.Int.{int_rem_euclid}
use Rattle.op_table.specs.declared.acts.Small.TheVariants.{Byte, Char, Short}
use Rattle.frames.specs.declared.value.Value.{Value}
use Rattle.frames.specs.declared.value.Value.TheVariants.{Int}
use Rattle.word_steps.specs.Numbers.{narrowed}

-- an int is narrowed to a boolean (Z), byte, char or short
abbrev pub narrowed_int : ℕ → ℤ → ℤ
narrowed_int b z =
    if b == 66 then narrowed Byte z
    else if b == 67 then narrowed Char z
    else if b == 83 then narrowed Short z
    else if b == 90 then int_rem_euclid z (pos 2) else z

-- what is left of an int in the type
abbrev pub left_in : List ℕ → ℤ → ℤ
left_in (b ∷ []) z = narrowed_int b z
left_in type z = z

-- what is left of a value in the type
abbrev pub narrowed_to : List ℕ → Value → Value
narrowed_to type (Int z) = Int (left_in type z)
narrowed_to type value = value
