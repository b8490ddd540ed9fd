-- Jumps: how far the code goes on from an instruction, and what is left on the operand stack (JVMS 6.5.if_cond,
-- 6.5.if_icmp_cond, 6.5.if_acmp_cond, 6.5.ifnull, 6.5.goto, 6.5.tableswitch, 6.5.lookupswitch).
use Rattle.std.specs.Prelude.{◌≡◌, ◌≢◌, ℕ, zero, suc, ◌<◌, ◌==◌, not, Bool, true, false, ℤ, pos, negsuc, ◌+ℤ◌, int_lt, List, ◌∷◌, Option, Some, None, option_map, if◌then◌else◌}
use Rattle.std.specs.Ordering.{int_eq}
use Rattle.op_table.specs.Cases.{case_at}
use Rattle.op_table.specs.declared.acts.Action.{Action}
use Rattle.op_table.specs.declared.acts.Action.TheVariants as acts
use Rattle.op_table.specs.declared.acts.Test.{Test}
use Rattle.op_table.specs.declared.acts.Test.TheVariants.{Equal, NotEqual, Less, GreaterOrEqual, Greater, LessOrEqual}
use Rattle.op_table.specs.declared.acts.Width.TheVariants as widths
use Rattle.frames.specs.declared.value.Value.{Value}
use Rattle.frames.specs.declared.value.Value.TheVariants.{Null, Ref}
use Rattle.frames.specs.declared.here.Here.{Here}
use Rattle.frames.specs.declared.failure.Stop.TheVariants.{Shape}
use Rattle.frames.specs.Words.{PoppedNumber, PoppedTwo, popped_number, popped_two}
use Rattle.frames.specs.Standing.{Standing}
use Rattle.frames.specs.Outcome.{Outcome, Stops, goes_on, placed_at}

-- ---- tests

abbrev pub holds : Test → ℤ → ℤ → Bool
holds Equal x y = int_eq x y
holds NotEqual x y = not (int_eq x y)
holds Less x y = int_lt x y
holds GreaterOrEqual x y = not (int_lt x y)
holds Greater x y = int_lt y x
holds LessOrEqual x y = not (int_lt y x)

-- what a test of references tells, and the words behind them
pub record Tested : Type 0 where
  pub holds : Bool
  pub rest : List Value

abbrev pub tested : Bool → List Value → Option Tested
tested holds rest = Some (record { holds = holds; rest = rest })

-- whether the two references on top are the same
abbrev pub same_on : List Value → Option Tested
same_on (Null ∷ Null ∷ rest) = tested true rest
same_on (Null ∷ Ref r ∷ rest) = tested false rest
same_on (Ref q ∷ Null ∷ rest) = tested false rest
same_on (Ref q ∷ Ref r ∷ rest) = tested (r == q) rest
same_on other = None

-- whether the reference on top is null
abbrev pub null_on : List Value → Option Tested
null_on (Null ∷ rest) = tested true rest
null_on (Ref r ∷ rest) = tested false rest
null_on other = None

-- what a test tells where it is asked for, or else the opposite
abbrev pub asked : Bool → Bool → Bool
asked true holds = holds
asked false holds = not holds

-- ---- how far the code goes on

-- how far from the instruction, and the operand stack there
pub record Jump : Type 0 where
  pub far : ℤ
  pub stack : List Value

-- to the place behind an instruction of so many bytes, where the test fails
abbrev pub branch : ℕ → ℤ → Bool → List Value → Jump
branch len distance holds stack = record { far = if holds then distance else pos len; stack = stack }

-- how far the first case says that has the value, among so many of the switch at the pc from case i on, or else the
-- default
abbrev pub case_from : List ℕ → ℕ → ℤ → ℤ → ℕ → ℕ → ℤ
case_from code pc default n i zero = default
case_from code pc default n i (suc left) =
    if int_eq (case_at code pc i).0 n then (case_at code pc i).1 else case_from code pc default n (suc i) left

-- By the code, the place and the length of the instruction, what it does and the operand stack. There is none where
-- the stack holds other words.
unfoldable pub jump_of : List ℕ → ℕ → ℕ → Action → List Value → Option Jump
jump_of code pc len (acts.IfZero test d) stack = option_map (λ p. branch len d (holds test p.number (pos 0)) p.rest) (popped_number widths.Int stack)
jump_of code pc len (acts.IfInts test d) stack = option_map (λ p. branch len d (holds test p.first p.second) p.rest) (popped_two widths.Int widths.Int stack)
jump_of code pc len (acts.IfSame same d) stack = option_map (λ t. branch len d (asked same t.holds) t.rest) (same_on stack)
jump_of code pc len (acts.IfNull null d) stack = option_map (λ t. branch len d (asked null t.holds) t.rest) (null_on stack)
jump_of code pc len (acts.Goto d) stack = Some (record { far = d; stack = stack })
jump_of code pc len (acts.Switch default low count pairs) stack =
    option_map (λ p. record { far = case_from code pc default p.number 0 count; stack = p.rest }) (popped_number widths.Int stack)
jump_of code pc len action stack = None

-- ---- the outcome

-- a place of the code, which doesn't begin below 0
abbrev pub place_of : ℤ → Option ℕ
place_of (pos n) = Some n
place_of (negsuc n) = None

abbrev pub arrives : Standing → Here → List Value → Option ℕ → Outcome
arrives s here stack None = Stops Shape
arrives s here stack (Some pc) = goes_on s.code false (placed_at pc here here.frame.locals stack here.heap)

abbrev pub jumped : Standing → Here → Option Jump → Outcome
jumped s here None = Stops Shape
jumped s here (Some j) = arrives s here j.stack (place_of (pos here.frame.pc +ℤ j.far))

-- the outcome of a jump
abbrev pub jumps : Standing → Here → Action → Outcome
jumps s here action = jumped s here (jump_of s.code.bytes here.frame.pc s.instr.len action here.frame.stack)

-- ---- by cases

-- how far a switch goes on for a value: as the first case says that has it, or else as the default says
pub data Chosen (code : List ℕ) (pc : ℕ) (n default : ℤ) (count : ℕ) : ℤ → Type 0 where
  matched :
      {i : ℕ} → i < count → (case_at code pc i).0 ≡ n → ((k : ℕ) → k < i → (case_at code pc k).0 ≢ n)
      → Chosen code pc n default count (case_at code pc i).1
  unmatched : ((k : ℕ) → k < count → (case_at code pc k).0 ≢ n) → Chosen code pc n default count default

-- By the action: how far the code goes on, and the operand stack there. Where a test fails it goes on behind the
-- instruction.
pub data Jumps (code : List ℕ) (pc len : ℕ) (stack : List Value) : Action → ℤ → List Value → Type 0 where
  if_zero :
      {test : Test} {d : ℤ} {p : PoppedNumber} {passes : Bool} → popped_number widths.Int stack ≡ Some p → holds test p.number (pos 0) ≡ passes
      → Jumps code pc len stack (acts.IfZero test d) (if passes then d else pos len) p.rest
  if_ints :
      {test : Test} {d : ℤ} {p : PoppedTwo} {passes : Bool} → popped_two widths.Int widths.Int stack ≡ Some p → holds test p.first p.second ≡ passes
      → Jumps code pc len stack (acts.IfInts test d) (if passes then d else pos len) p.rest
  if_same :
      {same : Bool} {d : ℤ} {t : Tested} {passes : Bool} → same_on stack ≡ Some t → asked same t.holds ≡ passes
      → Jumps code pc len stack (acts.IfSame same d) (if passes then d else pos len) t.rest
  if_null :
      {null : Bool} {d : ℤ} {t : Tested} {passes : Bool} → null_on stack ≡ Some t → asked null t.holds ≡ passes
      → Jumps code pc len stack (acts.IfNull null d) (if passes then d else pos len) t.rest
  goto : {d : ℤ} → Jumps code pc len stack (acts.Goto d) d stack
  switch :
      {default low : ℤ} {count : ℕ} {pairs : Bool} {p : PoppedNumber} {far : ℤ}
      → popped_number widths.Int stack ≡ Some p → Chosen code pc p.number default count far
      → Jumps code pc len stack (acts.Switch default low count pairs) far p.rest

-- a jump is one of the cases
abbrev pub IsJump : List ℕ → ℕ → ℕ → List Value → Action → Option Jump → Type 0
IsJump code pc len stack action None = Unit {0}
IsJump code pc len stack action (Some j) = Jumps code pc len stack action j.far j.stack

abbrev pub JumpsAreCases : Type 0
JumpsAreCases = (code : List ℕ) (pc len : ℕ) (action : Action) (stack : List Value) → IsJump code pc len stack action (jump_of code pc len action stack)

-- each of the cases is a jump
abbrev pub CasesAreJumps : Type 0
CasesAreJumps =
    (code : List ℕ) (pc len : ℕ) (action : Action) (stack : List Value) (far : ℤ) (rest : List Value)
    → Jumps code pc len stack action far rest → jump_of code pc len action stack ≡ Some (record { far = far; stack = rest })
