-- What an instruction that changes words alone makes of them, by cases (JVMS 6.5).
use Rattle.std.specs.Prelude.{◌≡◌, ℕ, not, Bool, true, false, ℤ, neg_ℤ, ◌+ℤ◌, List, ◌∷◌, Option, Some, slice_set}
use Rattle.class_pool.specs.declared.constant.Constant.{Constant}
use Rattle.class_pool.specs.Pool.{constant_at, int_of, long_of}
use Rattle.op_table.specs.declared.acts.Action.{Action}
use Rattle.op_table.specs.declared.acts.Action.TheVariants as acts
use Rattle.op_table.specs.declared.acts.Arithmetic.{Arithmetic}
use Rattle.op_table.specs.declared.acts.Kind.{Kind}
use Rattle.op_table.specs.declared.acts.Kind.TheVariants as kinds
use Rattle.op_table.specs.declared.acts.Logic.{Logic}
use Rattle.op_table.specs.declared.acts.Shift.{Shift}
use Rattle.op_table.specs.declared.acts.Shuffle.{Shuffle}
use Rattle.op_table.specs.declared.acts.Small.{Small}
use Rattle.op_table.specs.declared.acts.Width.{Width}
use Rattle.op_table.specs.declared.acts.Width.TheVariants as widths
use Rattle.frames.specs.declared.value.Value.{Value}
use Rattle.frames.specs.declared.value.Value.TheVariants.{Int, Long, Pad, Null}
use Rattle.frames.specs.declared.failure.Failure.TheVariants.{Throws, Stops}
use Rattle.frames.specs.declared.failure.Raised.TheVariants as raised
use Rattle.frames.specs.Words.{Popped, PoppedNumber, PoppedTwo, pushed, popped, popped_number, popped_two, number, shuffled, loaded, stored}
use Rattle.word_steps.specs.Numbers.{wrapped, fits, exact, throws, wraps, distance, shifted, combined, narrowed, compared}
use Rattle.word_steps.specs.Computing.{Made, Makes, Fails, words_after}

-- By the action: whether the exact result didn't fit, and the locals and the stack behind it.
pub data Computed (pool : List (Option Constant)) (locals stack : List Value) : Action → Bool → List Value → List Value → Type 0 where
  nothing : Computed pool locals stack acts.Nothing false locals stack
  null : Computed pool locals stack acts.PushNull false locals (Null ∷ stack)
  int : {n : ℤ} → Computed pool locals stack (acts.PushInt n) false locals (Int n ∷ stack)
  long : {n : ℤ} → Computed pool locals stack (acts.PushLong n) false locals (Pad ∷ Long n ∷ stack)
  int_constant :
      {i : ℕ} {n : ℤ} → int_of (constant_at pool i) ≡ Some n
      → Computed pool locals stack (acts.PushConstant i) false locals (Int n ∷ stack)
  long_constant :
      {i : ℕ} {n : ℤ} → long_of (constant_at pool i) ≡ Some n
      → Computed pool locals stack (acts.PushLongConstant i) false locals (Pad ∷ Long n ∷ stack)
  load :
      {kind : Kind} {n : ℕ} {value : Value} → loaded kind locals n ≡ Some value
      → Computed pool locals stack (acts.Load kind n) false locals (pushed value stack)
  store :
      {kind : Kind} {n : ℕ} {p : Popped} {now : List Value} → popped kind stack ≡ Some p → stored locals n p.value ≡ Some now
      → Computed pool locals stack (acts.Store kind n) false now p.rest
  shuffle :
      {s : Shuffle} {now : List Value} → shuffled s stack ≡ Some now
      → Computed pool locals stack (acts.Shuffle s) false locals now
  arithmetic :
      {op : Arithmetic} {w : Width} {p : PoppedTwo} → popped_two w w stack ≡ Some p → throws op p.second ≡ false
      → Computed pool locals stack (acts.Arithmetic op w) (wraps op w (exact op p.first p.second)) locals (pushed (number w (wrapped w (exact op p.first p.second))) p.rest)
  negate :
      {w : Width} {p : PoppedNumber} → popped_number w stack ≡ Some p
      → Computed pool locals stack (acts.Negate w) (not (fits w (neg_ℤ p.number))) locals (pushed (number w (wrapped w (neg_ℤ p.number))) p.rest)
  shift :
      {s : Shift} {w : Width} {p : PoppedTwo} → popped_two w widths.Int stack ≡ Some p
      → Computed pool locals stack (acts.Shift s w) false locals (pushed (number w (shifted s w p.first (distance w p.second))) p.rest)
  logic :
      {l : Logic} {w : Width} {p : PoppedTwo} → popped_two w w stack ≡ Some p
      → Computed pool locals stack (acts.Logic l w) false locals (pushed (number w (combined l w p.first p.second)) p.rest)
  increment :
      {n : ℕ} {k z : ℤ} → loaded kinds.Int locals n ≡ Some (Int z)
      → Computed pool locals stack (acts.Increment n k) (not (fits widths.Int (z +ℤ k))) (slice_set locals n (Int (wrapped widths.Int (z +ℤ k)))) stack
  int_to_long :
      {p : PoppedNumber} → popped_number widths.Int stack ≡ Some p
      → Computed pool locals stack acts.IntToLong false locals (Pad ∷ Long p.number ∷ p.rest)
  long_to_int :
      {p : PoppedNumber} → popped_number widths.Long stack ≡ Some p
      → Computed pool locals stack acts.LongToInt false locals (Int (wrapped widths.Int p.number) ∷ p.rest)
  narrow :
      {small : Small} {p : PoppedNumber} → popped_number widths.Int stack ≡ Some p
      → Computed pool locals stack (acts.Narrow small) false locals (Int (narrowed small p.number) ∷ p.rest)
  compare :
      {p : PoppedTwo} → popped_two widths.Long widths.Long stack ≡ Some p
      → Computed pool locals stack acts.CompareLongs false locals (Int (compared p.first p.second) ∷ p.rest)

-- a division by 0, which is all that such an instruction throws
pub data Divides (stack : List Value) : Action → Type 0 where
  by_zero :
      {op : Arithmetic} {w : Width} {p : PoppedTwo} → popped_two w w stack ≡ Some p → throws op p.second ≡ true
      → Divides stack (acts.Arithmetic op w)

-- ---- the laws

-- what is made is one of the cases, or what is thrown is a division by 0, or the run stops
abbrev pub IsMade : List (Option Constant) → List Value → List Value → Action → Made → Type 0
IsMade pool locals stack action (Makes wraps now after) = Computed pool locals stack action wraps now after
IsMade pool locals stack action (Fails (Stops k)) = Unit {0}
IsMade pool locals stack action (Fails (Throws what)) = (what ≡ raised.Arithmetic) × Divides stack action

abbrev pub WordsAreComputed : Type 0
WordsAreComputed =
    (pool : List (Option Constant)) (locals stack : List Value) (action : Action) → IsMade pool locals stack action (words_after pool action locals stack)

-- each of the cases is made
abbrev pub ComputedIsMade : Type 0
ComputedIsMade =
    (pool : List (Option Constant)) (locals stack : List Value) (action : Action) (wraps : Bool) (now after : List Value)
    → Computed pool locals stack action wraps now after → words_after pool action locals stack ≡ Makes wraps now after

abbrev pub DivisionThrows : Type 0
DivisionThrows =
    (pool : List (Option Constant)) (locals stack : List Value) (action : Action)
    → Divides stack action → words_after pool action locals stack ≡ Fails (Throws raised.Arithmetic)
