-- What is told of a jump before it is made.
use Rattle.std.specs.Prelude.{◌≡◌, ◌≤◌, ℕ, ℤ, pos, Bool, List, length, drop, Option, Some, None}
use Rattle.frames.specs.declared.value.Value.{Value}
use Rattle.word_steps.specs.declared.branches.Leap.{Leap}
use Rattle.word_steps.specs.Branches.{Jump, Tested}

-- how far from an instruction of so many bytes; none stands for the place behind it
abbrev pub far_by : ℕ → Option ℤ → ℤ
far_by len None = pos len
far_by len (Some distance) = distance

-- a jump is told where there is one, with the words that it takes, which are there
abbrev pub Leads : ℕ → Option Leap → List Value → Option Jump → Type 0
Leads len None stack jump = jump ≡ None
Leads len (Some leap) stack jump =
    (jump ≡ Some (record { far = far_by len leap.far; stack = drop leap.taken stack })) × (leap.taken ≤ length stack)

-- a test of so many references is told where they are there
abbrev pub HasTested : Option Bool → ℕ → List Value → Option Tested → Type 0
HasTested None n stack tested = tested ≡ None
HasTested (Some holds) n stack tested = (tested ≡ Some (record { holds = holds; rest = drop n stack })) × (n ≤ length stack)
