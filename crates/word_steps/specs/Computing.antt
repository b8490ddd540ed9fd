-- Instructions that change the words of a frame alone: constants, loads and stores, moves on the operand stack,
-- arithmetic (JVMS 6.5).
use Rattle.std.specs.Prelude.{ℕ, not, Bool, false, ℤ, neg_ℤ, ◌+ℤ◌, List, ◌∷◌, Option, Some, None, slice_set, if◌then◌else◌}
use Rattle.class_pool.specs.declared.constant.Constant.{Constant}
use Rattle.class_pool.specs.declared.constant.Constant.TheVariants as entries
use Rattle.class_pool.specs.Pool.{constant_at, int_of, long_of}
use Rattle.op_table.specs.declared.acts.Action.{Action}
use Rattle.op_table.specs.declared.acts.Action.TheVariants as acts
use Rattle.op_table.specs.declared.acts.Arithmetic.{Arithmetic}
use Rattle.op_table.specs.declared.acts.Kind.TheVariants as kinds
use Rattle.op_table.specs.declared.acts.Width.{Width}
use Rattle.op_table.specs.declared.acts.Width.TheVariants as widths
use Rattle.frames.specs.declared.value.Value.{Value}
use Rattle.frames.specs.declared.value.Value.TheVariants.{Int, Long, Null}
use Rattle.frames.specs.declared.here.Here.{Here}
use Rattle.frames.specs.declared.failure.Stop.{Stop}
use Rattle.frames.specs.declared.failure.Stop.TheVariants.{Shape, Link, Support}
use Rattle.frames.specs.declared.failure.Raised.TheVariants as raised
use Rattle.frames.specs.declared.failure.Failure.{Failure}
use Rattle.frames.specs.declared.failure.Failure.TheVariants.{Throws, Stops}
use Rattle.word_steps.specs.Numbers.{wrapped, fits, exact, throws, wraps, distance, shifted, combined, narrowed, compared}
use Rattle.frames.specs.Words.{Popped, PoppedNumber, PoppedTwo, pushed, popped, popped_number, popped_two, number, shuffled, loaded, stored}
use Rattle.frames.specs.Outcome.{Outcome, failed, goes_on, moved}
use Rattle.frames.specs.Standing.{Standing}

-- the words after an instruction, and whether its exact result did not fit; or why there are none
pub data Made : Type 0 where
  Makes : Bool → List Value → List Value → Made
  Fails : Failure → Made

-- ---- constants (JVMS 6.5.ldc)

-- what stops ldc: an entry that it takes and that isn't analysed is outside of the machine, and any other one doesn't
-- resolve
abbrev pub not_int : Option Constant → Stop
not_int (Some (entries.Float n)) = Support
not_int (Some (entries.Class n)) = Support
not_int (Some (entries.String n)) = Support
not_int (Some (entries.MethodHandle k n)) = Support
not_int (Some (entries.MethodType n)) = Support
not_int (Some (entries.Dynamic k n)) = Support
not_int other = Link

-- the same of ldc2_w
abbrev pub not_long : Option Constant → Stop
not_long (Some (entries.Double n)) = Support
not_long (Some (entries.Dynamic k n)) = Support
not_long other = Link

abbrev pub constant : (ℤ → Value) → Stop → List Value → List Value → Option ℤ → Made
constant value otherwise locals stack None = Fails (Stops otherwise)
constant value otherwise locals stack (Some n) = Makes false locals (pushed (value n) stack)

-- ---- loads and stores

abbrev pub load : List Value → List Value → Option Value → Made
load locals stack None = Fails (Stops Shape)
load locals stack (Some value) = Makes false locals (pushed value stack)

abbrev pub store_in : List Value → Option (List Value) → Made
store_in rest None = Fails (Stops Shape)
store_in rest (Some locals) = Makes false locals rest

abbrev pub store : List Value → ℕ → Option Popped → Made
store locals n None = Fails (Stops Shape)
store locals n (Some p) = store_in p.rest (stored locals n p.value)

abbrev pub shuffle : List Value → Option (List Value) → Made
shuffle locals None = Fails (Stops Shape)
shuffle locals (Some stack) = Makes false locals stack

-- ---- arithmetic

-- a number goes on top, or what is left of it in its type
abbrev pub result : Width → Bool → List Value → List Value → ℤ → Made
result w wraps locals rest z = Makes wraps locals (pushed (number w (wrapped w z)) rest)

abbrev pub arithmetic : Arithmetic → Width → List Value → Option PoppedTwo → Made
arithmetic op w locals None = Fails (Stops Shape)
arithmetic op w locals (Some p) =
    if throws op p.second then Fails (Throws raised.Arithmetic)
    else result w (wraps op w (exact op p.first p.second)) locals p.rest (exact op p.first p.second)

-- what two numbers make, which always fits
abbrev pub two : (ℤ → ℤ → ℤ) → Width → List Value → Option PoppedTwo → Made
two f w locals None = Fails (Stops Shape)
two f w locals (Some p) = Makes false locals (pushed (number w (f p.first p.second)) p.rest)

-- what a number makes, which always fits
abbrev pub one : (ℤ → ℤ) → Width → List Value → Option PoppedNumber → Made
one f w locals None = Fails (Stops Shape)
one f w locals (Some p) = Makes false locals (pushed (number w (f p.number)) p.rest)

abbrev pub negate : Width → List Value → Option PoppedNumber → Made
negate w locals None = Fails (Stops Shape)
negate w locals (Some p) = result w (not (fits w (neg_ℤ p.number))) locals p.rest (neg_ℤ p.number)

abbrev pub increment : List Value → List Value → ℕ → ℤ → Option Value → Made
increment locals stack n k (Some (Int z)) = Makes (not (fits widths.Int (z +ℤ k))) (slice_set locals n (Int (wrapped widths.Int (z +ℤ k)))) stack
increment locals stack n k other = Fails (Stops Shape)

-- ---- by action

-- What an instruction makes of locals and stack. One that isn't analysed, or isn't built yet, stops.
unfoldable pub words_after : List (Option Constant) → Action → List Value → List Value → Made
words_after pool acts.Nothing locals stack = Makes false locals stack
words_after pool acts.PushNull locals stack = Makes false locals (Null ∷ stack)
words_after pool (acts.PushInt n) locals stack = Makes false locals (Int n ∷ stack)
words_after pool (acts.PushLong n) locals stack = Makes false locals (pushed (Long n) stack)
words_after pool (acts.PushConstant i) locals stack = constant Int (not_int (constant_at pool i)) locals stack (int_of (constant_at pool i))
words_after pool (acts.PushLongConstant i) locals stack = constant Long (not_long (constant_at pool i)) locals stack (long_of (constant_at pool i))
words_after pool (acts.Load kind n) locals stack = load locals stack (loaded kind locals n)
words_after pool (acts.Store kind n) locals stack = store locals n (popped kind stack)
words_after pool (acts.Shuffle s) locals stack = shuffle locals (shuffled s stack)
words_after pool (acts.Arithmetic op w) locals stack = arithmetic op w locals (popped_two w w stack)
words_after pool (acts.Negate w) locals stack = negate w locals (popped_number w stack)
words_after pool (acts.Shift s w) locals stack = two (λ x k. shifted s w x (distance w k)) w locals (popped_two w widths.Int stack)
words_after pool (acts.Logic l w) locals stack = two (combined l w) w locals (popped_two w w stack)
words_after pool (acts.Increment n k) locals stack = increment locals stack n k (loaded kinds.Int locals n)
words_after pool acts.IntToLong locals stack = one (λ z. z) widths.Long locals (popped_number widths.Int stack)
words_after pool acts.LongToInt locals stack = one (wrapped widths.Int) widths.Int locals (popped_number widths.Long stack)
words_after pool (acts.Narrow small) locals stack = one (narrowed small) widths.Int locals (popped_number widths.Int stack)
words_after pool acts.CompareLongs locals stack = two compared widths.Int locals (popped_two widths.Long widths.Long stack)
words_after pool action locals stack = Fails (Stops Support)

-- the outcome of such an instruction
abbrev pub made : Standing → Here → Made → Outcome
made s here (Fails failure) = failed failure
made s here (Makes wraps locals stack) = goes_on s.code wraps (moved s here locals stack here.heap)
