-- Where the code goes on from an instruction (JVMS 6.5).
use Rattle.std.specs.Prelude.{ℕ, zero, suc, ◌+◌, nat_lt, Bool, true, false, not, List, [], ◌∷◌, ◌++◌, map, flat_map, ℤ, pos, negsuc, ◌+ℤ◌, if◌then◌else◌}
use Rattle.std.specs.List.{list_any}
use Rattle.op_table.specs.Actions.{action_of}
use Rattle.op_table.specs.Cases.{case_at, case_count}
use Rattle.op_table.specs.declared.acts.Action.{Action}
use Rattle.op_table.specs.declared.acts.Action.TheVariants as acts
use Rattle.code_blocks.specs.declared.instruction.Placed.{Placed}
use Rattle.code_blocks.specs.declared.instruction.Instruction.{Instruction}
use Rattle.code_blocks.specs.Placing.{placed, is_place_at}

-- ---- by what an instruction does

-- Behind a goto, a switch, a return or a throw the code doesn't go on.
abbrev pub goes_behind : Action → Bool
goes_behind (acts.Goto d) = false
goes_behind (acts.Switch default low count pairs) = false
goes_behind (acts.Return kind) = false
goes_behind acts.ReturnNothing = false
goes_behind acts.Throw = false
goes_behind action = true

-- how far the cases of a switch jump, n of them from case i on
abbrev pub case_distances : List ℕ → ℕ → ℕ → ℕ → List ℤ
case_distances code pc i zero = []
case_distances code pc i (suc n) = (case_at code pc i).1 ∷ case_distances code pc (suc i) n

-- how far what it does can jump, where it stands at the pc and has so many cases
abbrev pub distances_by : List ℕ → ℕ → ℕ → Action → List ℤ
distances_by code pc cases (acts.IfZero test d) = d ∷ []
distances_by code pc cases (acts.IfInts test d) = d ∷ []
distances_by code pc cases (acts.IfSame same d) = d ∷ []
distances_by code pc cases (acts.IfNull null d) = d ∷ []
distances_by code pc cases (acts.Goto d) = d ∷ []
distances_by code pc cases (acts.Switch default low count pairs) = default ∷ case_distances code pc 0 cases
distances_by code pc cases action = []

-- how far an instruction can jump
abbrev pub distances : List ℕ → Placed → List ℤ
distances code p = distances_by code p.pc (case_count p.instr.args) (action_of p.instr)

-- ---- successors

-- a place of the code, which isn't below 0
abbrev pub places_of : ℤ → List ℕ
places_of (pos x) = x ∷ []
places_of (negsuc x) = []

abbrev pub place_so_far : ℕ → ℤ → List ℕ
place_so_far pc d = places_of (pos pc +ℤ d)

-- where its jumps lead, in the order of the instruction's operands
abbrev pub targets : List ℕ → Placed → List ℕ
targets code p = flat_map (place_so_far p.pc) (distances code p)

abbrev pub behind : Placed → List ℕ
behind p = if goes_behind (action_of p.instr) then (p.pc + p.instr.len) ∷ [] else []

-- a number put in its place of a rising list, unless it is there
abbrev pub with_number : ℕ → List ℕ → List ℕ
with_number x [] = x ∷ []
with_number x (y ∷ ys) = if nat_lt x y then x ∷ y ∷ ys else if nat_lt y x then y ∷ with_number x ys else y ∷ ys

-- the numbers of a list as a rising list, each once
unfoldable pub rising : List ℕ → List ℕ
rising [] = []
rising (x ∷ xs) = with_number x (rising xs)

-- the places of the instructions that can come next
unfoldable pub successors_of : List ℕ → Placed → List ℕ
successors_of code p = rising (behind p ++ targets code p)

-- an instruction with its successors
abbrev pub instruction_of : List ℕ → Placed → Instruction
instruction_of code p = record { pc = p.pc; instr = p.instr; successors = successors_of code p }

-- all instructions of the code, in order
abbrev pub instructions_of : List ℕ → List Instruction
instructions_of code = map (instruction_of code) (placed code)

-- ---- jumps that lead to no instruction

unfoldable pub has_bad_target : List ℕ → Placed → Bool
has_bad_target code p = list_any (λ d. not (is_place_at (placed code) (pos p.pc +ℤ d))) (distances code p)
