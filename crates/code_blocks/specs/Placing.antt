-- The instructions of a method's code, one behind another from 0 on (JVMS 4.7.3).
use Rattle.std.specs.Prelude.{ℕ, zero, suc, ◌+◌, ◌≡◌, ◌==◌, nat_lt, Bool, false, not, List, [], ◌∷◌, length, slice_index_or, ℤ, pos, negsuc, Option, Some, None, Result, Ok, Err, if◌then◌else◌}
use Rattle.std.specs.List.{list_any}
use Rattle.op_table.specs.declared.instr.Instr.{Instr}
use Rattle.op_table.specs.declared.instr.OpFault.{OpFault}
use Rattle.op_table.specs.Grammar.{instr_at}
use Rattle.code_blocks.specs.declared.instruction.Placed.{Placed}
use Rattle.code_blocks.specs.declared.instruction.Placement.{Placement}

abbrev pub placed_then : ℕ → (ℕ → List Placed) → Result Instr OpFault → List Placed
placed_then pc others (Err fault) = []
placed_then pc others (Ok i) = record { pc = pc; instr = i } ∷ others (pc + i.len)

-- at most n instructions from a place on, up to the code's end or to a place where none stands
unfoldable pub placed_from : ℕ → List ℕ → ℕ → List Placed
placed_from zero code pc = []
placed_from (suc n) code pc = if nat_lt pc (length code) then placed_then pc (placed_from n code) (instr_at code pc) else []

-- all instructions of the code, in order: each takes a byte at least
abbrev pub placed : List ℕ → List Placed
placed code = placed_from (length code) code 0

abbrev pub broken_then : ℕ → (ℕ → Option ℕ) → Result Instr OpFault → Option ℕ
broken_then pc others (Err fault) = Some pc
broken_then pc others (Ok i) = others (pc + i.len)

-- the first place behind these at which no instruction stands, before the code's end
unfoldable pub broken_from : ℕ → List ℕ → ℕ → Option ℕ
broken_from zero code pc = None
broken_from (suc n) code pc = if nat_lt pc (length code) then broken_then pc (broken_from n code) (instr_at code pc) else None

abbrev pub broken : List ℕ → Option ℕ
broken code = broken_from (length code) code 0

abbrev pub placement_of : List ℕ → Placement
placement_of code = record { instructions = placed code; broken = broken code }

-- the code ends behind the instruction
abbrev pub is_last : List ℕ → Placed → Bool
is_last code p = not (nat_lt (p.pc + p.instr.len) (length code))

-- an instruction of the list begins at the place
abbrev pub is_place : List Placed → ℕ → Bool
is_place ps x = list_any (λ (p : Placed). x == p.pc) ps

abbrev pub is_place_at : List Placed → ℤ → Bool
is_place_at ps (pos x) = is_place ps x
is_place_at ps (negsuc x) = false

-- the marks are those of the places at which instructions begin
abbrev pub ArePlaces : List Placed → List Bool → Type 0
ArePlaces ps marks = (x : ℕ) → slice_index_or marks x false ≡ is_place ps x

-- the place is marked
abbrev pub is_marked_at : List Bool → ℤ → Bool
is_marked_at marks (pos x) = slice_index_or marks x false
is_marked_at marks (negsuc x) = false
