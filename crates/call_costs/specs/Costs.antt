-- What methods cost whose code doesn't jump, with the methods that they call.
use Rattle.std.specs.Prelude.{ℕ, zero, suc, ◌+◌, ◌<◌, nat_le, List, [], ◌∷◌, length, map, find, Contains, if◌then◌else◌}
use Rattle.std.specs.Option.{option_map_or}
use Rattle.op_table.specs.Actions.{action_of}
use Rattle.world.specs.declared.member.MemberId.{MemberId}
use Rattle.code_flow.specs.Plans.{Planned, Plan}
use Rattle.code_flow.specs.Judging.{is_end}
use Rattle.code_flow.specs.Listing.{is_method}

-- the greatest of some numbers, and 0 where there is none
unfoldable pub greatest : List ℕ → ℕ
greatest [] = 0
greatest (cost ∷ costs) = if nat_le cost (greatest costs) then greatest costs else cost

-- an instruction costs its weight, and the greatest cost of a method that it can call
abbrev pub cost_of_instruction : (ℕ → ℕ) → (MemberId → ℕ) → Planned → ℕ
cost_of_instruction weights cost i = weights i.instr.op + greatest (map cost i.targets)

-- instructions one behind another, up to the first that returns or throws
unfoldable pub cost_of_code : (ℕ → ℕ) → (MemberId → ℕ) → List Planned → ℕ
cost_of_code weights cost [] = 0
cost_of_code weights cost (i ∷ is) =
    cost_of_instruction weights cost i + (if is_end (action_of i.instr) then 0 else cost_of_code weights cost is)

abbrev pub instructions_of : List Plan → MemberId → List Planned
instructions_of program m = option_map_or (λ r. r.instructions) (find (λ r. is_method m r.method) program) []

-- the cost of a method, where calls are nested at most n deep
unfoldable pub cost_within : (ℕ → ℕ) → List Plan → ℕ → MemberId → ℕ
cost_within weights program zero m = 0
cost_within weights program (suc n) m = cost_of_code weights (cost_within weights program n) (instructions_of program m)

-- the cost of a method of a program: since no call leads back, they are nested at most as deep as it has methods
unfoldable pub cost_of : (ℕ → ℕ) → List Plan → MemberId → ℕ
cost_of weights program m = cost_within weights program (length program) m

-- ---- the costs of all methods

-- the greatest cost that is counted: 2^127 - 1
abbrev pub most_cost : ℕ
most_cost = 170141183460469231731687303715884105727

-- the cost of each method, in the order of the methods
abbrev pub costs_of : (ℕ → ℕ) → List Plan → List ℕ
costs_of weights program = map (λ r. cost_of weights program r.method) program

-- some method costs more than is counted
abbrev pub IsTooGreat : (ℕ → ℕ) → List Plan → Type 0
IsTooGreat weights program = (r : Plan) × Contains program r × (most_cost < cost_of weights program r.method)
