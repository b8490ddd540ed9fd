-- What stands on top of an operand stack.
use Rattle.std.specs.Prelude.{◌≡◌, ◌≤◌, ℕ, suc, ℤ, List, length, drop, Option, Some, None}
use Rattle.op_table.specs.declared.acts.Kind.{Kind}
use Rattle.op_table.specs.declared.acts.Kind.TheVariants as kinds
use Rattle.frames.specs.declared.value.Value.{Value}
use Rattle.frames.specs.declared.value.Value.TheVariants.{Int, Long, Pad}
use Rattle.frames.specs.Words.{Popped, PoppedNumber, PoppedTwo}

-- two numbers are there where the stack has them on top, in so many words
abbrev pub HasTwo : Option (ℤ × ℤ) → ℕ → List Value → Option PoppedTwo → Type 0
HasTwo None n stack two = two ≡ None
HasTwo (Some pair) n stack two = (two ≡ Some (record { first = pair.0; second = pair.1; rest = drop n stack })) × (n ≤ length stack)

abbrev pub HasOne : Option ℤ → ℕ → List Value → Option PoppedNumber → Type 0
HasOne None n stack one = one ≡ None
HasOne (Some z) n stack one = (one ≡ Some (record { number = z; rest = drop n stack })) × (n ≤ length stack)

-- two numbers, the one on top first, where both are there
abbrev pub both : Option ℤ → Option ℤ → Option (ℤ × ℤ)
both None first = None
both (Some y) None = None
both (Some y) (Some x) = Some (x, y)

-- an int is there where the local has it
abbrev pub HasInt : Option ℤ → ℕ → List Value → Option Value → Type 0
HasInt None local locals word = word ≡ None
HasInt (Some z) local locals word = (word ≡ Some (Int z)) × (suc local ≤ length locals)

-- a value is there where the stack has it on top, in so many words
abbrev pub HasValue : Option Value → ℕ → List Value → Option Popped → Type 0
HasValue None n stack one = one ≡ None
HasValue (Some value) n stack one = (one ≡ Some (record { value = value; rest = drop n stack })) × (n ≤ length stack)

-- ---- what the words on top are, the top first

abbrev pub int_on : Option Value → Option ℤ
int_on (Some (Int z)) = Some z
int_on other = None

abbrev pub long_on : Option Value → Option Value → Option ℤ
long_on (Some Pad) (Some (Long z)) = Some z
long_on top below = None

-- how many words a value of the kind takes on the stack
abbrev pub kind_words : Kind → ℕ
kind_words kinds.Int = 1
kind_words kinds.Long = 2
kind_words kinds.Reference = 1
