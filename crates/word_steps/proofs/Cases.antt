-- What is made of words, by cases.
use Rattle.std.proofs.Common.{◌≡◌, ℕ, Bool, true, false, List, Option, Some, None, refl}
use Rattle.std.specs.Prelude.{ℤ, if◌then◌else◌}
use Rattle.class_pool.specs.declared.constant.Constant.{Constant}
use Rattle.class_pool.specs.Pool.{constant_at, int_of, long_of}
use Rattle.op_table.specs.declared.acts.Action.{Action}
use Rattle.op_table.specs.declared.acts.Action.TheVariants as acts
use Rattle.op_table.specs.declared.acts.Arithmetic.{Arithmetic}
use Rattle.op_table.specs.declared.acts.Kind.{Kind}
use Rattle.op_table.specs.declared.acts.Kind.TheVariants as kinds
use Rattle.op_table.specs.declared.acts.Logic.{Logic}
use Rattle.op_table.specs.declared.acts.Shift.{Shift}
use Rattle.op_table.specs.declared.acts.Shuffle.{Shuffle}
use Rattle.op_table.specs.declared.acts.Small.{Small}
use Rattle.op_table.specs.declared.acts.Width.{Width}
use Rattle.op_table.specs.declared.acts.Width.TheVariants as widths
use Rattle.frames.specs.declared.value.Value.{Value}
use Rattle.frames.specs.declared.value.Value.TheVariants.{Int, Long, Pad, Null, Ref}
use Rattle.frames.specs.declared.failure.Failure.TheVariants.{Throws}
use Rattle.frames.specs.declared.failure.Raised.TheVariants as raised
use Rattle.frames.specs.Words.{Popped, PoppedNumber, PoppedTwo, popped, popped_number, popped_two, shuffled, loaded, stored}
use Rattle.word_steps.specs.Numbers.{wrapped, exact, throws, wraps, distance, shifted, combined, narrowed, compared}
use Rattle.word_steps.specs.Computing as making
use Rattle.word_steps.specs.Computing.{Made, Makes, Fails, not_int, not_long, words_after}
use Rattle.word_steps.specs.Computed as rows
use Rattle.word_steps.specs.Computed.{Computed, Divides, IsMade}

int_made : (pool : List (Option Constant)) (locals stack : List Value) (i : ℕ) (found : Option ℤ) → int_of (constant_at pool i) ≡ found
    → IsMade pool locals stack (acts.PushConstant i) (making.constant Int (not_int (constant_at pool i)) locals stack found)
int_made pool locals stack i None is = tt
int_made pool locals stack i (Some n) is = rows.int_constant is

long_made : (pool : List (Option Constant)) (locals stack : List Value) (i : ℕ) (found : Option ℤ) → long_of (constant_at pool i) ≡ found
    → IsMade pool locals stack (acts.PushLongConstant i) (making.constant Long (not_long (constant_at pool i)) locals stack found)
long_made pool locals stack i None is = tt
long_made pool locals stack i (Some n) is = rows.long_constant is

load_made : (pool : List (Option Constant)) (locals stack : List Value) (kind : Kind) (n : ℕ) (found : Option Value) → loaded kind locals n ≡ found
    → IsMade pool locals stack (acts.Load kind n) (making.load locals stack found)
load_made pool locals stack kind n None is = tt
load_made pool locals stack kind n (Some value) is = rows.load is

store_in_made : (pool : List (Option Constant)) (locals stack : List Value) (kind : Kind) (n : ℕ) (p : Popped) (now : Option (List Value))
    → popped kind stack ≡ Some p → stored locals n p.value ≡ now
    → IsMade pool locals stack (acts.Store kind n) (making.store_in p.rest now)
store_in_made pool locals stack kind n p None is to = tt
store_in_made pool locals stack kind n p (Some now) is to = rows.store is to

store_made : (pool : List (Option Constant)) (locals stack : List Value) (kind : Kind) (n : ℕ) (found : Option Popped) → popped kind stack ≡ found
    → IsMade pool locals stack (acts.Store kind n) (making.store locals n found)
store_made pool locals stack kind n None is = tt
store_made pool locals stack kind n (Some p) is = store_in_made pool locals stack kind n p (stored locals n p.value) is refl

shuffle_made : (pool : List (Option Constant)) (locals stack : List Value) (s : Shuffle) (found : Option (List Value)) → shuffled s stack ≡ found
    → IsMade pool locals stack (acts.Shuffle s) (making.shuffle locals found)
shuffle_made pool locals stack s None is = tt
shuffle_made pool locals stack s (Some now) is = rows.shuffle is

divided_made : (pool : List (Option Constant)) (locals stack : List Value) (op : Arithmetic) (w : Width) (p : PoppedTwo) (zero : Bool)
    → popped_two w w stack ≡ Some p → throws op p.second ≡ zero
    → IsMade pool locals stack (acts.Arithmetic op w)
    (if zero then Fails (Throws raised.Arithmetic) else making.result w (wraps op w (exact op p.first p.second)) locals p.rest (exact op p.first p.second))
divided_made pool locals stack op w p true is by = (refl, rows.by_zero is by)
divided_made pool locals stack op w p false is by = rows.arithmetic is by

arithmetic_made : (pool : List (Option Constant)) (locals stack : List Value) (op : Arithmetic) (w : Width) (found : Option PoppedTwo) → popped_two w w stack ≡ found
    → IsMade pool locals stack (acts.Arithmetic op w) (making.arithmetic op w locals found)
arithmetic_made pool locals stack op w None is = tt
arithmetic_made pool locals stack op w (Some p) is = divided_made pool locals stack op w p (throws op p.second) is refl

negate_made : (pool : List (Option Constant)) (locals stack : List Value) (w : Width) (found : Option PoppedNumber) → popped_number w stack ≡ found
    → IsMade pool locals stack (acts.Negate w) (making.negate w locals found)
negate_made pool locals stack w None is = tt
negate_made pool locals stack w (Some p) is = rows.negate is

shift_made : (pool : List (Option Constant)) (locals stack : List Value) (s : Shift) (w : Width) (found : Option PoppedTwo) → popped_two w widths.Int stack ≡ found
    → IsMade pool locals stack (acts.Shift s w) (making.two (λ x k. shifted s w x (distance w k)) w locals found)
shift_made pool locals stack s w None is = tt
shift_made pool locals stack s w (Some p) is = rows.shift is

logic_made : (pool : List (Option Constant)) (locals stack : List Value) (l : Logic) (w : Width) (found : Option PoppedTwo) → popped_two w w stack ≡ found
    → IsMade pool locals stack (acts.Logic l w) (making.two (combined l w) w locals found)
logic_made pool locals stack l w None is = tt
logic_made pool locals stack l w (Some p) is = rows.logic is

increment_made : (pool : List (Option Constant)) (locals stack : List Value) (n : ℕ) (k : ℤ) (found : Option Value) → loaded kinds.Int locals n ≡ found
    → IsMade pool locals stack (acts.Increment n k) (making.increment locals stack n k found)
increment_made pool locals stack n k None is = tt
increment_made pool locals stack n k (Some (Int z)) is = rows.increment is
increment_made pool locals stack n k (Some (Long z)) is = tt
increment_made pool locals stack n k (Some Pad) is = tt
increment_made pool locals stack n k (Some Null) is = tt
increment_made pool locals stack n k (Some (Ref r)) is = tt

widen_made : (pool : List (Option Constant)) (locals stack : List Value) (found : Option PoppedNumber) → popped_number widths.Int stack ≡ found
    → IsMade pool locals stack acts.IntToLong (making.one (λ z. z) widths.Long locals found)
widen_made pool locals stack None is = tt
widen_made pool locals stack (Some p) is = rows.int_to_long is

cut_made : (pool : List (Option Constant)) (locals stack : List Value) (found : Option PoppedNumber) → popped_number widths.Long stack ≡ found
    → IsMade pool locals stack acts.LongToInt (making.one (wrapped widths.Int) widths.Int locals found)
cut_made pool locals stack None is = tt
cut_made pool locals stack (Some p) is = rows.long_to_int is

narrow_made : (pool : List (Option Constant)) (locals stack : List Value) (small : Small) (found : Option PoppedNumber) → popped_number widths.Int stack ≡ found
    → IsMade pool locals stack (acts.Narrow small) (making.one (narrowed small) widths.Int locals found)
narrow_made pool locals stack small None is = tt
narrow_made pool locals stack small (Some p) is = rows.narrow is

compare_made : (pool : List (Option Constant)) (locals stack : List Value) (found : Option PoppedTwo) → popped_two widths.Long widths.Long stack ≡ found
    → IsMade pool locals stack acts.CompareLongs (making.two compared widths.Int locals found)
compare_made pool locals stack None is = tt
compare_made pool locals stack (Some p) is = rows.compare is

-- what an instruction makes of words is a row
pub words_made : (pool : List (Option Constant)) (locals stack : List Value) (action : Action) → IsMade pool locals stack action (words_after pool action locals stack)
unfolding words_after
words_made pool locals stack acts.Nothing = rows.nothing
words_made pool locals stack acts.PushNull = rows.null
words_made pool locals stack (acts.PushInt n) = rows.int
words_made pool locals stack (acts.PushLong n) = rows.long
words_made pool locals stack (acts.PushConstant i) = int_made pool locals stack i (int_of (constant_at pool i)) refl
words_made pool locals stack (acts.PushLongConstant i) = long_made pool locals stack i (long_of (constant_at pool i)) refl
words_made pool locals stack (acts.Load kind n) = load_made pool locals stack kind n (loaded kind locals n) refl
words_made pool locals stack (acts.Store kind n) = store_made pool locals stack kind n (popped kind stack) refl
words_made pool locals stack (acts.Shuffle s) = shuffle_made pool locals stack s (shuffled s stack) refl
words_made pool locals stack (acts.Arithmetic op w) = arithmetic_made pool locals stack op w (popped_two w w stack) refl
words_made pool locals stack (acts.Negate w) = negate_made pool locals stack w (popped_number w stack) refl
words_made pool locals stack (acts.Shift s w) = shift_made pool locals stack s w (popped_two w widths.Int stack) refl
words_made pool locals stack (acts.Logic l w) = logic_made pool locals stack l w (popped_two w w stack) refl
words_made pool locals stack (acts.Increment n k) = increment_made pool locals stack n k (loaded kinds.Int locals n) refl
words_made pool locals stack acts.IntToLong = widen_made pool locals stack (popped_number widths.Int stack) refl
words_made pool locals stack acts.LongToInt = cut_made pool locals stack (popped_number widths.Long stack) refl
words_made pool locals stack (acts.Narrow small) = narrow_made pool locals stack small (popped_number widths.Int stack) refl
words_made pool locals stack acts.CompareLongs = compare_made pool locals stack (popped_two widths.Long widths.Long stack) refl
words_made pool locals stack action = tt

-- each of the cases is made
pub computed_made : (pool : List (Option Constant)) (locals stack : List Value) (action : Action) (wraps : Bool) (now after : List Value)
    → Computed pool locals stack action wraps now after → words_after pool action locals stack ≡ Makes wraps now after
unfolding words_after
computed_made pool locals stack action wraps now after rows.nothing = refl
computed_made pool locals stack action wraps now after rows.null = refl
computed_made pool locals stack action wraps now after rows.int = refl
computed_made pool locals stack action wraps now after rows.long = refl
computed_made pool locals stack action wraps now after (rows.int_constant is) = rw is refl
computed_made pool locals stack action wraps now after (rows.long_constant is) = rw is refl
computed_made pool locals stack action wraps now after (rows.load is) = rw is refl
computed_made pool locals stack action wraps now after (rows.store is to) = rw (is, to) refl
computed_made pool locals stack action wraps now after (rows.shuffle is) = rw is refl
computed_made pool locals stack action wraps now after (rows.arithmetic is by) = rw (is, by) refl
computed_made pool locals stack action wraps now after (rows.negate is) = rw is refl
computed_made pool locals stack action wraps now after (rows.shift is) = rw is refl
computed_made pool locals stack action wraps now after (rows.logic is) = rw is refl
computed_made pool locals stack action wraps now after (rows.increment is) = rw is refl
computed_made pool locals stack action wraps now after (rows.int_to_long is) = rw is refl
computed_made pool locals stack action wraps now after (rows.long_to_int is) = rw is refl
computed_made pool locals stack action wraps now after (rows.narrow is) = rw is refl
computed_made pool locals stack action wraps now after (rows.compare is) = rw is refl

pub division_throws : (pool : List (Option Constant)) (locals stack : List Value) (action : Action) → Divides stack action → words_after pool action locals stack ≡ Fails (Throws raised.Arithmetic)
unfolding words_after
division_throws pool locals stack action (rows.by_zero is by) = rw (is, by) refl
