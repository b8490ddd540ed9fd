-- The answer on a world.
use Rattle.std.specs.Prelude.{ℕ, nat_lt, Bool, List, [], ◌∷◌, replicate, Result, Ok, Err, if◌then◌else◌}
use Rattle.std.specs.List.{list_any}
use Rattle.class_pool.specs.declared.target.Target.{Target}
use Rattle.cost_model.specs.Costs.{cost_at}
use Rattle.world.specs.declared.member.MemberId.{MemberId}
use Rattle.class_hierarchy.specs.World.{World, class_at}
use Rattle.world.specs.Selection.{method_of}
use Rattle.code_flow.specs.declared.fault.FlowFault.{FlowFault}
use Rattle.code_flow.specs.declared.fault.FlowFault.TheVariants as faults
use Rattle.code_flow.specs.Plans.{Plan}
use Rattle.code_flow.specs.Listing.{most_methods}
use Rattle.code_flow.specs.Flow.{flow_of}
use Rattle.call_costs.specs.Costs.{costs_of, most_cost}
use Rattle.analyser.specs.declared.status.LimitKind.TheVariants.{Methods, Coefficient}
use Rattle.analyser.specs.declared.status.Status.{Status}
use Rattle.analyser.specs.declared.status.Status.TheVariants as answers

-- each of the 202 opcodes costs 1
abbrev pub instruction_cost : ℕ → ℕ
instruction_cost op = cost_at (replicate 202 1) op

-- the name of a method of the world
abbrev pub target_of : World → MemberId → Target
target_of w m = record { class = (class_at w m.class).name; method = (method_of w m).name; desc = (method_of w m).desc }

-- some method costs more than a bound can tell
unfoldable pub is_too_great : List Plan → Bool
is_too_great program = list_any (λ cost. nat_lt most_cost cost) (costs_of instruction_cost program)

-- the first method is the one that is asked for
abbrev pub first_cost : List ℕ → Status
first_cost [] = answers.Memory  -- no program is empty
first_cost (cost ∷ costs) = answers.Bound cost

unfoldable pub bound_of : List Plan → Status
bound_of program = if is_too_great program then answers.Limit Coefficient most_cost else first_cost (costs_of instruction_cost program)

abbrev pub answer_by : World → Target → Result (List Plan) FlowFault → Status
answer_by w target (Ok program) = bound_of program
answer_by w target (Err faults.NoMethod) = answers.NoMethod target
answer_by w target (Err (faults.Unsupported m pc construct)) = answers.Unsupported (target_of w m) pc construct
answer_by w target (Err faults.TooManyMethods) = answers.Limit Methods most_methods
answer_by w target (Err faults.Memory) = answers.Memory

-- the answer on a world
unfoldable pub answer_on : Target → World → Status
answer_on target w = answer_by w target (flow_of w target)
