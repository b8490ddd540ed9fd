-- What instructions cost, by a table of the opcodes.
use Rattle.std.specs.Prelude.{◌≡◌, ℕ, ◌≤◌, List, length, slice_index}
use Rattle.op_table.specs.declared.instr.Instr.{Instr}

-- the cost of an opcode
abbrev pub cost_at : List ℕ → ℕ → ℕ
cost_at table op = slice_index table op

-- an instruction costs as much as its opcode, once; behind `wide`, as much as the opcode that `wide` stands before
abbrev pub cost_of : List ℕ → Instr → ℕ
cost_of table instr = cost_at table instr.op

-- a table of costs that are small enough to be summed
pub record IsTable (table : List ℕ) : Type 0 where
  pub whole : length table ≡ 202
  pub small : (op : ℕ) → op ≤ 201 → cost_at table op ≤ 1000000

-- a function answers the table: it can be called at each opcode, and gives nothing but the opcode's cost
abbrev pub Answers : (ℕ → Type 0) → (ℕ → ℕ → Type 0) → List ℕ → Type 0
Answers can_call gives table = (op : ℕ) → op ≤ 201 → can_call op × ((cost : ℕ) → gives op cost → cost ≡ cost_at table op)
