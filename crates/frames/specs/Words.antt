-- Values in locals and on the operand stack, which stands from the top down (JVMS 2.6.1, 2.6.2). A long takes two
-- words: in locals the second is Pad, and on the stack Pad lies on top.
use Rattle.std.specs.Prelude.{ℕ, zero, suc, ◌+◌, ◌-◌, ◌&&◌, nat_lt, replicate, Bool, true, false, ℤ, List, [], ◌∷◌, ◌++◌, length, take, drop, Option, Some, None, option_map, option_and_then, slice_get, slice_set, if◌then◌else◌}
use Rattle.op_table.specs.declared.acts.Kind.{Kind}
use Rattle.op_table.specs.declared.acts.Kind.TheVariants as kinds
use Rattle.op_table.specs.declared.acts.Width.{Width}
use Rattle.op_table.specs.declared.acts.Width.TheVariants as widths
use Rattle.op_table.specs.declared.acts.Shuffle.{Shuffle}
use Rattle.op_table.specs.declared.acts.Shuffle.TheVariants.{Pop, Pop2, Dup, DupX1, DupX2, Dup2, Dup2X1, Dup2X2, Swap}
use Rattle.frames.specs.declared.value.Value.{Value}
use Rattle.frames.specs.declared.value.Value.TheVariants.{Int, Long, Pad, Null, Ref}

-- ---- the operand stack

-- the stack with a value on top
abbrev pub pushed : Value → List Value → List Value
pushed (Int n) stack = Int n ∷ stack
pushed (Long n) stack = Pad ∷ Long n ∷ stack
pushed Pad stack = Pad ∷ stack
pushed Null stack = Null ∷ stack
pushed (Ref r) stack = Ref r ∷ stack

-- a value, and the words behind it
pub record Popped : Type 0 where
  pub value : Value
  pub rest : List Value

abbrev pub popped_value : Value → List Value → Option Popped
popped_value value rest = Some (record { value = value; rest = rest })

-- the value of the kind on top of the stack
abbrev pub popped : Kind → List Value → Option Popped
popped kinds.Int (Int n ∷ stack) = popped_value (Int n) stack
popped kinds.Long (Pad ∷ Long n ∷ stack) = popped_value (Long n) stack
popped kinds.Reference (Null ∷ stack) = popped_value Null stack
popped kinds.Reference (Ref r ∷ stack) = popped_value (Ref r) stack
popped kind other = None

abbrev pub number : Width → ℤ → Value
number widths.Int z = Int z
number widths.Long z = Long z

-- a number, and the words behind it
pub record PoppedNumber : Type 0 where
  pub number : ℤ
  pub rest : List Value

abbrev pub popped_number : Width → List Value → Option PoppedNumber
popped_number widths.Int (Int n ∷ stack) = Some (record { number = n; rest = stack })
popped_number widths.Long (Pad ∷ Long n ∷ stack) = Some (record { number = n; rest = stack })
popped_number w other = None

-- two numbers, the second of which lies on top, and the words behind them
pub record PoppedTwo : Type 0 where
  pub first : ℤ
  pub second : ℤ
  pub rest : List Value

abbrev pub below_number : Width → PoppedNumber → Option PoppedTwo
below_number w y = option_map (λ x. record { first = x.number; second = y.number; rest = x.rest }) (popped_number w y.rest)

-- numbers of these types, the second of which lies on top
abbrev pub popped_two : Width → Width → List Value → Option PoppedTwo
popped_two first second stack = option_and_then (below_number first) (popped_number second stack)

-- ---- moves on the operand stack (JVMS 6.5.pop to 6.5.swap)

-- how many words stand in the group on top that a move takes, and in the one below it
abbrev pub top_size : Shuffle → ℕ
top_size Pop = 1
top_size Pop2 = 2
top_size Dup = 1
top_size DupX1 = 1
top_size DupX2 = 1
top_size Dup2 = 2
top_size Dup2X1 = 2
top_size Dup2X2 = 2
top_size Swap = 1

abbrev pub below_size : Shuffle → ℕ
below_size Pop = 0
below_size Pop2 = 0
below_size Dup = 0
below_size DupX1 = 1
below_size DupX2 = 2
below_size Dup2 = 0
below_size Dup2X1 = 1
below_size Dup2X2 = 2
below_size Swap = 1

-- what stands in the place of the two groups
abbrev pub placed : Shuffle → List Value → List Value → List Value
placed Pop top below = []
placed Pop2 top below = []
placed Dup top below = top ++ top
placed DupX1 top below = top ++ below ++ top
placed DupX2 top below = top ++ below ++ top
placed Dup2 top below = top ++ top
placed Dup2X1 top below = top ++ below ++ top
placed Dup2X2 top below = top ++ below ++ top
placed Swap top below = below ++ top

-- so many words, the lowest of which isn't the second half of a long: no long is taken apart
abbrev pub is_whole : ℕ → List Value → Bool
is_whole zero words = true
is_whole (suc zero) (Pad ∷ words) = false
is_whole (suc n) [] = false
is_whole (suc zero) (word ∷ words) = true
is_whole (suc (suc n)) (word ∷ words) = is_whole (suc n) words

abbrev pub shuffled : Shuffle → List Value → Option (List Value)
shuffled s stack =
    if is_whole (top_size s) stack && is_whole (below_size s) (drop (top_size s) stack)
    then Some (placed s (take (top_size s) stack) (take (below_size s) (drop (top_size s) stack)) ++ drop (top_size s + below_size s) stack)
    else None

-- ---- locals

-- the value of the kind, from the word of a local and the one behind it
abbrev pub held : Kind → Option Value → Option Value → Option Value
held kinds.Int (Some (Int n)) next = Some (Int n)
held kinds.Long (Some (Long n)) (Some Pad) = Some (Long n)
held kinds.Reference (Some Null) next = Some Null
held kinds.Reference (Some (Ref r)) next = Some (Ref r)
held kind word next = None

-- the value in a local
abbrev pub loaded : Kind → List Value → ℕ → Option Value
loaded kind locals n = held kind (slice_get locals n) (slice_get locals (n + 1))

-- the locals with a word in one of them
abbrev pub with_word : Value → ℕ → List Value → Option (List Value)
with_word word n locals = if nat_lt n (length locals) then Some (slice_set locals n word) else None

-- the locals with a value in one of them
abbrev pub stored : List Value → ℕ → Value → Option (List Value)
stored locals n (Int z) = with_word (Int z) n locals
stored locals n (Long z) = option_and_then (with_word Pad (n + 1)) (with_word (Long z) n locals)
stored locals n Pad = with_word Pad n locals
stored locals n Null = with_word Null n locals
stored locals n (Ref r) = with_word (Ref r) n locals

-- the words in the first locals, and nothing in the others
abbrev pub first_locals : List Value → ℕ → List Value
first_locals words max_locals = words ++ replicate (max_locals - length words) Pad

-- ---- references

abbrev pub is_null : Value → Bool
is_null Null = true
is_null value = false

abbrev pub is_reference : Value → Bool
is_reference (Int n) = false
is_reference (Long n) = false
is_reference Pad = false
is_reference Null = true
is_reference (Ref r) = true

-- how many words a value takes on the stack
abbrev pub width_of : Value → ℕ
width_of value = length (pushed value [])
