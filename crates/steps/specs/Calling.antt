-- Calls, returns and what is thrown (JVMS 2.6, 2.11.8, 6.5).
use Rattle.std.specs.Prelude.{ℕ, ◌+◌, ◌&&◌, nat_le, nat_lt, not, Bool, true, false, List, [], ◌∷◌, length, take, drop, reverse, Option, Some, None, Result, Ok, Err, codes, if◌then◌else◌}
use Rattle.std.specs.Result.{result_ok}
use Rattle.class_pool.specs.Pool.{member_at}
use Rattle.class_reader.specs.declared.class.Code.{Code}
use Rattle.class_reader.specs.Flags.{is_abstract, is_native}
use Rattle.op_table.specs.declared.acts.Kind.{Kind}
use Rattle.op_table.specs.declared.acts.Kind.TheVariants as kinds
use Rattle.op_table.specs.declared.acts.Call.{Call}
use Rattle.op_table.specs.declared.acts.Call.TheVariants.{Special, Static}
use Rattle.op_table.specs.declared.construct.Construct.{Construct}
use Rattle.world.specs.declared.member.MemberId.{MemberId}
use Rattle.class_hierarchy.specs.World.{World}
use Rattle.world.specs.Selection.{method_of, selected_by}
use Rattle.linking.specs.declared.calls.Meant.{Meant}
use Rattle.linking.specs.Calls.{looked_up, meant_by}
use Rattle.linking.specs.Methods.{code_at}
use Rattle.descriptors.specs.Pieces.{parameters_of, result_of}
use Rattle.descriptors.specs.Texts.{words_of_all}
use Rattle.frames.specs.declared.value.Value.{Value}
use Rattle.frames.specs.declared.value.Value.TheVariants.{Int, Long, Pad, Null, Ref}
use Rattle.frames.specs.declared.frame.Frame.{Frame}
use Rattle.frames.specs.declared.here.Here.{Here}
use Rattle.frames.specs.declared.failure.Failure.{Failure}
use Rattle.frames.specs.declared.failure.Failure.TheVariants as failures
use Rattle.frames.specs.declared.failure.Raised.{Raised}
use Rattle.frames.specs.declared.failure.Raised.TheVariants as raised
use Rattle.frames.specs.declared.failure.Stop.TheVariants as stops
use Rattle.frames.specs.Words.{Popped, popped, first_locals, is_reference}
use Rattle.frames.specs.Types.{is_type}
use Rattle.frames.specs.Heap.{Cells, cell_at, is_of_type, is_of_class, class_of}
use Rattle.frames.specs.Standing.{Standing}
use Rattle.frames.specs.Outcome.{Throws, Stops, Outcome, Enters, Leaves, failed, stop_of, with_words}
use Rattle.word_steps.specs.Narrowing.{narrowed_to}

-- ---- what a call takes from the operand stack (JVMS 2.6.1)

-- words in the order of locals, the receiver first, and the operand stack below them
pub record Handed : Type 0 where
  pub words : List Value
  pub rest : List Value

abbrev pub taken : ℕ → List Value → Option Handed
taken n stack = if nat_le n (length stack) then Some (record { words = reverse (take n stack); rest = drop n stack }) else None

-- the value that words in the order of locals begin with
abbrev pub next_value : List Value → Option Popped
next_value [] = None
next_value (Long n ∷ Pad ∷ words) = Some (record { value = Long n; rest = words })
next_value (Long n ∷ words) = None
next_value (word ∷ words) = Some (record { value = word; rest = words })

abbrev pub begins : (Value → Bool) → (List Value → Bool) → Option Popped → Bool
begins first others None = false
begins first others (Some p) = first p.value && others p.rest

abbrev pub is_nothing : List Value → Bool
is_nothing [] = true
is_nothing (word ∷ words) = false

-- words are those of values of the types, in order
unfoldable pub are_arguments : World → Cells → List (List ℕ) → List Value → Bool
are_arguments w heap [] words = is_nothing words
are_arguments w heap (type ∷ types) words = begins (is_of_type w heap type) (are_arguments w heap types) (next_value words)

-- a receiver before the arguments, where the call isn't static
abbrev pub receiver_words : Call → ℕ
receiver_words Static = 0
receiver_words call = 1

abbrev pub are_words : World → Cells → Call → List (List ℕ) → List Value → Bool
are_words w heap Static types words = are_arguments w heap types words
are_words w heap call types [] = false
are_words w heap call types (word ∷ words) = is_reference word && are_arguments w heap types words

-- ---- which method runs (JVMS 5.4.6)

abbrev pub or_link : Option MemberId → Result MemberId Failure
or_link None = Err (failures.Stops stops.Link)
or_link (Some m) = Ok m

-- what stands against a method that is looked up stops the run
abbrev pub or_stop : Result MemberId Construct → Result MemberId Failure
or_stop (Err construct) = Err (failures.Stops (stop_of construct))
or_stop (Ok m) = Ok m

-- the method that is looked up, or the one that the receiver's class selects; an array's class selects none
abbrev pub selects : World → ℕ → Call → Meant → Option ℕ → Result MemberId Failure
selects w current Special m class = or_stop (looked_up w current Special m)
selects w current Static m class = Ok m.method
selects w current call m None = Err (failures.Stops stops.Link)
selects w current call m (Some c) = or_link (result_ok (selected_by w m.method c))

-- null throws, and a receiver that isn't of the class that is named stops
abbrev pub on_receiver : World → Cells → ℕ → Call → Meant → Value → Result MemberId Failure
on_receiver w heap current call m (Ref r) =
    if is_of_class w m.class (cell_at heap r) then selects w current call m (class_of (cell_at heap r)) else Err (failures.Stops stops.Receiver)
on_receiver w heap current call m Null = Err (failures.Throws raised.NullPointer)
on_receiver w heap current call m other = Err (failures.Stops stops.Shape)

-- the method that runs by a call in the current class
abbrev pub target : World → Cells → ℕ → Call → Meant → List Value → Result MemberId Failure
target w heap current Static m words = Ok m.method
target w heap current call m [] = Err (failures.Stops stops.Shape)
target w heap current call m (receiver ∷ words) = on_receiver w heap current call m receiver

-- ---- the new frame (JVMS 2.6)

abbrev pub new_frame : MemberId → Code → List Value → Frame
new_frame m code words = record { method = m; pc = 0; locals = first_locals words code.max_locals; stack = [] }

-- the locals hold the words, and an instruction can stand at the beginning
abbrev pub has_locals : Code → List Value → Bool
has_locals code words = nat_le (length words) code.max_locals && nat_lt 0 (length code.bytes)

-- the frame as it waits for the return: the words are gone, and it stands at its call
abbrev pub waiting : Here → List Value → Frame
waiting here rest = with_words here.frame here.frame.pc here.frame.locals rest

-- a native method isn't analysed, unless it is abstract, too
abbrev pub is_outside : ℕ → Bool
is_outside flags = is_native flags && not (is_abstract flags)

-- a method that isn't analysed is outside of the machine, and an abstract one has no code
abbrev pub enter_code : Here → Handed → MemberId → Bool → Option Code → Outcome
enter_code here h m outside None = Stops (if outside then stops.Support else stops.Link)
enter_code here h m outside (Some code) =
    if has_locals code h.words then Enters (waiting here h.rest) (new_frame m code h.words) else Stops stops.Shape

abbrev pub enter_target : World → Here → Handed → Result MemberId Failure → Outcome
enter_target w here h (Err failure) = failed failure
enter_target w here h (Ok m) = enter_code here h m (is_outside (method_of w m).flags) (code_at w m)

-- ---- a call

abbrev pub hand_over : World → Here → Call → Meant → Option Handed → Outcome
hand_over w here call m None = Stops stops.Shape
hand_over w here call m (Some h) =
    if are_words w here.heap call (parameters_of (method_of w m.method).desc) h.words
    then enter_target w here h (target w here.heap here.frame.method.class call m h.words)
    else Stops stops.Shape

abbrev pub call_meant : World → Here → Call → Result Meant Construct → Outcome
call_meant w here call (Err construct) = Stops (stop_of construct)
call_meant w here call (Ok m) =
    hand_over w here call m (taken (receiver_words call + words_of_all (parameters_of (method_of w m.method).desc)) here.frame.stack)

-- the outcome of a call of the member reference with this index
unfoldable pub call : World → Standing → Here → Call → ℕ → Outcome
call w s here kind i = call_meant w here kind (meant_by w kind (member_at s.class.pool i))

-- ---- returns (JVMS 6.5.ireturn)

abbrev pub return_popped : World → Here → List ℕ → Option Popped → Outcome
return_popped w here type None = Stops stops.Shape
return_popped w here type (Some p) =
    if is_of_type w here.heap type p.value then Leaves (Some (narrowed_to type p.value)) else Stops stops.Shape

-- the outcome of a return of a value, which is of the method's result
unfoldable pub return_value : World → Standing → Here → Kind → Outcome
return_value w s here kind = return_popped w here (result_of s.method.desc) (popped kind here.frame.stack)

-- the outcome of a return of nothing
abbrev pub return_nothing : Standing → Outcome
return_nothing s = if is_type (codes "V") (result_of s.method.desc) then Leaves None else Stops stops.Shape

-- ---- what is thrown (JVMS 6.5.athrow)

-- null raises an exception of its own
abbrev pub raised_by : Value → Option Raised
raised_by (Int n) = None
raised_by (Long n) = None
raised_by Pad = None
raised_by Null = Some raised.NullPointer
raised_by (Ref r) = Some (raised.Given r)

abbrev pub throw_popped : Option Raised → Outcome
throw_popped None = Stops stops.Shape
throw_popped (Some what) = Throws what

-- the outcome of throwing the word on top
abbrev pub throw_top : List Value → Outcome
throw_top [] = Stops stops.Shape
throw_top (word ∷ stack) = throw_popped (raised_by word)
