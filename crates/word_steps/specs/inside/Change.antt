-- What an instruction is to do to the words of a frame, and what comes of it.
use Rattle.std.specs.Prelude.{◌≡◌, ◌≤◌, ◌+◌, ℕ, suc, Bool, true, false, List, length, drop, Option, Some, None, Result, Ok, Err, IsSome, slice_get, slice_set, nat_le, if◌then◌else◌}
use Rattle.std.specs.Option.{unwrap_or}
use Rattle.op_table.specs.declared.acts.Shuffle.{Shuffle}
use Rattle.op_table.specs.declared.acts.Shuffle.TheVariants.{Pop, Pop2, Dup, DupX1, DupX2, Dup2, Dup2X1, Dup2X2, Swap}
use Rattle.frames.specs.declared.value.Value.{Value}
use Rattle.frames.specs.declared.value.Value.TheVariants.{Int, Pad}
use Rattle.frames.specs.declared.frame.Frame.{Frame}
use Rattle.word_steps.specs.declared.change.Change.{Change}
use Rattle.word_steps.specs.declared.change.Change.TheVariants as changes
use Rattle.frames.specs.declared.failure.Failure.{Failure}
use Rattle.frames.specs.declared.failure.Failure.TheVariants as failures
use Rattle.frames.specs.Words.{pushed, shuffled, stored, top_size, below_size, width_of}
use Rattle.frames.specs.declared.failure.Going.{Going}
use Rattle.frames.specs.declared.failure.Going.TheVariants as goings
use Rattle.frames.specs.declared.failure.Stop.TheVariants.{Shape}
use Rattle.class_reader.specs.declared.class.Code.{Code}
use Rattle.frames.specs.Outcome.{with_words, has_room}
use Rattle.word_steps.specs.Computing.{Made, Makes, Fails, shuffle, store_in}

-- the words after a change
abbrev pub changed : Change → List Value → List Value → Made
changed changes.Keeps locals stack = Makes false locals stack
changed (changes.Pushes n value wraps) locals stack = Makes wraps locals (pushed value (drop n stack))
changed (changes.Stores n local value) locals stack = store_in (drop n stack) (stored locals local value)
changed (changes.Moves s) locals stack = shuffle locals (shuffled s stack)
changed (changes.Sets local n wraps) locals stack = Makes wraps (slice_set locals local (Int n)) stack

-- the words that a change takes are there, and the locals that it sets
abbrev pub IsPossible : Change → List Value → List Value → Type 0
IsPossible changes.Keeps locals stack = Unit {0}
IsPossible (changes.Pushes n value wraps) locals stack = n ≤ length stack
IsPossible (changes.Stores n local value) locals stack = (n ≤ length stack) × IsSome (stored locals local value)
IsPossible (changes.Moves s) locals stack = IsSome (shuffled s stack)
IsPossible (changes.Sets local n wraps) locals stack = suc local ≤ length locals

-- a change is there where the instruction makes words, and it makes them; or it is told why there are none
abbrev pub Tells : Result Change Failure → List Value → List Value → Made → Type 0
Tells (Err failure) locals stack made = made ≡ Fails failure
Tells (Ok change) locals stack made = (made ≡ changed change locals stack) × IsPossible change locals stack

-- a word that isn't the second half of a long
abbrev pub is_lowest : Option Value → Bool
is_lowest None = false
is_lowest (Some Pad) = false
is_lowest (Some word) = true

-- the word that lies so many below the top: where there is none, one that holds nothing
abbrev pub word_at : List Value → ℕ → Value
word_at stack depth = unwrap_or (slice_get stack depth) Pad

-- ---- how much a change takes off the stack and puts on it, in words

abbrev pub moved_size : Shuffle → ℕ
moved_size Pop = 0
moved_size Pop2 = 0
moved_size Dup = 2
moved_size DupX1 = 3
moved_size DupX2 = 4
moved_size Dup2 = 4
moved_size Dup2X1 = 5
moved_size Dup2X2 = 6
moved_size Swap = 2

abbrev pub taken_by : Change → ℕ
taken_by changes.Keeps = 0
taken_by (changes.Pushes n value wraps) = n
taken_by (changes.Stores n local value) = n
taken_by (changes.Moves s) = top_size s + below_size s
taken_by (changes.Sets local n wraps) = 0

abbrev pub given_by : Change → ℕ
given_by changes.Keeps = 0
given_by (changes.Pushes n value wraps) = width_of value
given_by (changes.Stores n local value) = 0
given_by (changes.Moves s) = moved_size s
given_by (changes.Sets local n wraps) = 0

-- whether the stack has at most so many words after an instruction
abbrev pub IsHeld : Bool → ℕ → Made → Type 0
IsHeld held limit (Makes wraps locals stack) = held ≡ nat_le (length stack) limit
IsHeld held limit (Fails failure) = Unit {0}

-- whether the exact result is told not to fit
abbrev pub IsTold : Bool → Made → Type 0
IsTold told (Makes wraps locals stack) = told ≡ wraps
IsTold told (Fails failure) = Unit {0}

-- a frame with these words, which stands where it stood
abbrev pub IsChanged : Frame → Frame → Made → Type 0
IsChanged before now (Makes wraps locals stack) = now ≡ with_words before before.pc locals stack
IsChanged before now (Fails failure) = Unit {0}

-- a change makes words, where it is possible
abbrev pub IsMaking : Made → Type 0
IsMaking (Makes wraps locals stack) = Unit {0}
IsMaking (Fails failure) = ⊥

-- ---- going on

-- an exact result fits, or it doesn't
abbrev pub went : Bool → Going
went false = goings.Goes
went true = goings.Wraps

abbrev pub misfits : Going
misfits = goings.Fails (failures.Stops Shape)

-- the frame goes on at a place of the code, where there is room, and else it stands as it stood
abbrev pub settled : Code → ℕ → Frame → Made → Going × Frame
settled code next frame (Fails failure) = (goings.Fails failure, frame)
settled code next frame (Makes wraps locals stack) =
    if has_room code next stack then (went wraps, with_words frame next locals stack) else (misfits, frame)
