-- What an instruction makes of what it sees, by cases (JVMS 6.5).
use Rattle.std.specs.Prelude.{◌≡◌, ◌≢◌, ℕ, ◌+◌, ◌<◌, ◌≤◌, Bool, true, false, ℤ, pos, ◌+ℤ◌, List, ◌∷◌, length, Option, Some, None, Ok, codes}
use Rattle.class_pool.specs.Pool.{class_name_at, member_at}
use Rattle.class_reader.specs.declared.class.Code.{Code}
use Rattle.op_table.specs.Actions.{action_of}
use Rattle.op_table.specs.declared.acts.Action.{Action}
use Rattle.op_table.specs.declared.acts.Action.TheVariants as acts
use Rattle.op_table.specs.declared.acts.Call.{Call}
use Rattle.op_table.specs.declared.acts.Call.TheVariants.{Virtual, Special, Static, Interface}
use Rattle.op_table.specs.declared.acts.Kind.{Kind}
use Rattle.descriptors.specs.Pieces.{parameters_of, result_of}
use Rattle.descriptors.specs.Texts.{words_of_all}
use Rattle.world.specs.declared.member.MemberId.{MemberId}
use Rattle.class_hierarchy.specs.World.{World, is_below}
use Rattle.world.specs.Selection.{method_of, selected_by}
use Rattle.linking.specs.declared.calls.Meant.{Meant}
use Rattle.linking.specs.Calls.{looked_up, meant_by}
use Rattle.linking.specs.Members.{made_by}
use Rattle.linking.specs.Methods.{code_at}
use Rattle.frames.specs.declared.value.Value.{Value}
use Rattle.frames.specs.declared.value.Value.TheVariants.{Null, Ref}
use Rattle.frames.specs.declared.heap.Cell.TheVariants.{Object}
use Rattle.frames.specs.declared.frame.Frame.{Frame}
use Rattle.frames.specs.declared.here.Here.{Here}
use Rattle.frames.specs.declared.failure.Raised.{Raised}
use Rattle.frames.specs.declared.failure.Raised.TheVariants as raised
use Rattle.frames.specs.declared.failure.Stop.{Stop}
use Rattle.frames.specs.declared.failure.Stop.TheVariants.{Support}
use Rattle.frames.specs.Words.{Popped, popped}
use Rattle.frames.specs.Types.{is_type}
use Rattle.frames.specs.Heap.{Cells, cell_at, free_number, with_cell, new_fields, is_of_type, is_of_class}
use Rattle.frames.specs.Standing.{Standing, standing_at}
use Rattle.frames.specs.Outcome.{Outcome, Goes, Enters, Leaves, Throws, Stops, moved, placed_at}
use Rattle.word_steps.specs.Computed.{Computed, Divides}
use Rattle.word_steps.specs.Branches.{Jumps}
use Rattle.word_steps.specs.Narrowing.{narrowed_to}
use Rattle.object_steps.specs.After.{After, left}
use Rattle.object_steps.specs.ArrayCases.{ArrayChange, ArrayThrows}
use Rattle.object_steps.specs.FieldCases.{FieldChange, FieldThrows}
use Rattle.object_steps.specs.CastCases.{CastChange, CastThrows}
use Rattle.steps.specs.declared.configuration.State.{State}
use Rattle.steps.specs.Calling.{Handed, receiver_words, taken, are_words, waiting, new_frame}
use Rattle.steps.specs.Step.{Step, acts_on, outcome_of}

-- the operand stack holds the words, and an instruction can stand at the place
pub record HasRoom (code : Code) (now : Here) : Type 0 where
  pub height : length now.frame.stack ≤ code.max_stack
  pub inside : now.frame.pc < length code.bytes

-- ---- calls

-- Which method runs by a call in the current class: the one that is looked up, or the one that the class of the receiver
-- selects. A receiver is of the class that is named.
pub data Dispatched (w : World) (heap : Cells) (current : ℕ) (m : Meant) : Call → List Value → MemberId → Type 0 where
  static : {words : List Value} → Dispatched w heap current m Static words m.method
  special :
      {r : ℕ} {words : List Value} {t : MemberId} → is_of_class w m.class (cell_at heap r) ≡ true → looked_up w current Special m ≡ Ok t
      → Dispatched w heap current m Special (Ref r ∷ words) t
  virtual :
      {r c : ℕ} {fields : List (MemberId × Value)} {words : List Value} {t : MemberId}
      → cell_at heap r ≡ Some (Object c fields) → is_below w c m.class ≡ true → selected_by w m.method c ≡ Ok t
      → Dispatched w heap current m Virtual (Ref r ∷ words) t
  interface :
      {r c : ℕ} {fields : List (MemberId × Value)} {words : List Value} {t : MemberId}
      → cell_at heap r ≡ Some (Object c fields) → is_below w c m.class ≡ true → selected_by w m.method c ≡ Ok t
      → Dispatched w heap current m Interface (Ref r ∷ words) t

-- A call up to the words that it takes: what it means, and what it takes from the operand stack.
pub record Taken (w : World) (s : Standing) (at : Here) (call : Call) (i : ℕ) : Type 0 where
  pub meant : Meant
  pub means : meant_by w call (member_at s.class.pool i) ≡ Ok meant
  pub handed : Handed
  pub takes : taken (receiver_words call + words_of_all (parameters_of (method_of w meant.method).desc)) at.frame.stack ≡ Some handed
  pub typed : are_words w at.heap call (parameters_of (method_of w meant.method).desc) handed.words ≡ true

-- A call that enters a method: which method runs, and the frames.
pub record Called (w : World) (s : Standing) (at : Here) (call : Call) (i : ℕ) (caller callee : Frame) : Type 0 where
  pub taken : Taken w s at call i
  pub target : MemberId
  pub dispatches : Dispatched w at.heap at.frame.method.class taken.meant call taken.handed.words target
  pub code : Code
  pub has_code : code_at w target ≡ Some code
  pub holds : length taken.handed.words ≤ code.max_locals
  pub begins : 0 < length code.bytes
  pub waits : caller ≡ waiting at taken.handed.rest
  pub enters : callee ≡ new_frame target code taken.handed.words

-- A call on null.
pub record CalledOnNull (w : World) (s : Standing) (at : Here) (call : Call) (i : ℕ) : Type 0 where
  pub taken : Taken w s at call i
  pub instance : call ≢ Static
  pub arguments : List Value
  pub null : taken.handed.words ≡ Null ∷ arguments

-- ---- all instructions

-- the frame with a new object on its stack
abbrev pub with_object : World → Standing → Here → ℕ → Here
with_object w s at c = moved s at at.frame.locals (Ref (free_number at.heap) ∷ at.frame.stack) (with_cell (Object c (new_fields w c)) at.heap)

-- What an instruction that stands in code makes, by its action.
pub data Row (w : World) (s : Standing) (at : Here) : Action → Outcome → Type 0 where
  computes :
      {action : Action} {wraps : Bool} {locals stack : List Value}
      → Computed s.class.pool at.frame.locals at.frame.stack action wraps locals stack → HasRoom s.code (moved s at locals stack at.heap)
      → Row w s at action (Goes wraps (moved s at locals stack at.heap))
  divides : {action : Action} → Divides at.frame.stack action → Row w s at action (Throws raised.Arithmetic)
  jumps :
      {action : Action} {far : ℤ} {stack : List Value} {pc : ℕ}
      → Jumps s.code.bytes at.frame.pc s.instr.len at.frame.stack action far stack → pos at.frame.pc +ℤ far ≡ pos pc
      → HasRoom s.code (placed_at pc at at.frame.locals stack at.heap)
      → Row w s at action (Goes false (placed_at pc at at.frame.locals stack at.heap))
  arrays :
      {action : Action} {a : After} → ArrayChange w s at action a → HasRoom s.code (left s at a)
      → Row w s at action (Goes false (left s at a))
  fields :
      {action : Action} {a : After} → FieldChange w s at action a → HasRoom s.code (left s at a)
      → Row w s at action (Goes false (left s at a))
  casts :
      {action : Action} {a : After} → CastChange w s at action a → HasRoom s.code (left s at a)
      → Row w s at action (Goes false (left s at a))
  arrays_throw : {action : Action} {what : Raised} → ArrayThrows w s at action what → Row w s at action (Throws what)
  fields_throw : {action : Action} {what : Raised} → FieldThrows w s at action what → Row w s at action (Throws what)
  casts_throw : {action : Action} {what : Raised} → CastThrows w s at action what → Row w s at action (Throws what)
  creates :
      {i c : ℕ} → made_by w (class_name_at s.class.pool i) ≡ Ok c → HasRoom s.code (with_object w s at c)
      → Row w s at (acts.New i) (Goes false (with_object w s at c))
  enters :
      {call : Call} {i : ℕ} {caller callee : Frame} → Called w s at call i caller callee
      → Row w s at (acts.Call call i) (Enters caller callee)
  null_receiver : {call : Call} {i : ℕ} → CalledOnNull w s at call i → Row w s at (acts.Call call i) (Throws raised.NullPointer)
  returns :
      {kind : Kind} {p : Popped} → popped kind at.frame.stack ≡ Some p → is_of_type w at.heap (result_of s.method.desc) p.value ≡ true
      → Row w s at (acts.Return kind) (Leaves (Some (narrowed_to (result_of s.method.desc) p.value)))
  returns_nothing : is_type (codes "V") (result_of s.method.desc) ≡ true → Row w s at acts.ReturnNothing (Leaves None)
  null_thrown : {rest : List Value} → at.frame.stack ≡ Null ∷ rest → Row w s at acts.Throw (Throws raised.NullPointer)
  given : {r : ℕ} {rest : List Value} → at.frame.stack ≡ Ref r ∷ rest → Row w s at acts.Throw (Throws (raised.Given r))
  stops : {action : Action} {k : Stop} → Row w s at action (Stops k)

-- what any configuration's instruction makes: where none stands the run stops
pub data RowAt (w : World) (at : Here) : Outcome → Type 0 where
  nowhere : standing_at w at.frame ≡ None → RowAt w at (Stops Support)
  stands : {outcome : Outcome} (s : Standing) → standing_at w at.frame ≡ Some s → Row w s at (action_of s.instr) outcome → RowAt w at outcome

-- ---- the laws

-- each outcome is a row
abbrev pub OutcomesAreRows : Type 0
OutcomesAreRows = (w : World) (at : Here) → RowAt w at (outcome_of w at)

abbrev pub IsStop : Outcome → Type 0
IsStop (Stops k) = Unit {0}
IsStop (Goes wraps here) = ⊥
IsStop (Enters caller callee) = ⊥
IsStop (Leaves value) = ⊥
IsStop (Throws what) = ⊥

-- each row that doesn't stop is the outcome
abbrev pub RowsAreOutcomes : Type 0
RowsAreOutcomes =
    (w : World) (s : Standing) (at : Here) (outcome : Outcome)
    → standing_at w at.frame ≡ Some s → Row w s at (action_of s.instr) outcome → ¬ IsStop outcome → outcome_of w at ≡ outcome

-- a configuration has at most one next
abbrev pub AtMostOneStep : Type 0
AtMostOneStep = (w : World) (weights : ℕ → ℕ) (before one other : State) → Step w weights before one → Step w weights before other → one ≡ other

-- no step takes back what was spent
abbrev pub SpentNeverFalls : Type 0
SpentNeverFalls = (w : World) (weights : ℕ → ℕ) (before now : State) → Step w weights before now → before.spent ≤ now.spent
