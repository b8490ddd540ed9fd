-- Costs of methods that are known by their numbers.
use Rattle.std.specs.Prelude.{◌≡◌, ℕ, ◌<◌, ◌≤◌, nat_le, List, Option, Some, None, unwrap_or, slice_get, Contains, AllPairs, if◌then◌else◌}
use Rattle.std.specs.Ordering.{nat_cmp, ordering_then}
use Rattle.std.specs.declared.cmp.Ordering.{Ordering}
use Rattle.std.specs.BTreeMap as tree
use Rattle.std.specs.BTreeMap.{BTreeMap}
use Rattle.world.specs.declared.member.MemberId.{MemberId}
use Rattle.code_flow.specs.Plans.{Plan}
use Rattle.code_flow.specs.Listing.{is_method}
use Rattle.call_costs.specs.Costs.{cost_of_code, cost_of, most_cost}

abbrev pub key_cmp : ℕ × ℕ → ℕ × ℕ → Ordering
key_cmp a b = ordering_then (nat_cmp a.0 b.0) (nat_cmp a.1 b.1)

abbrev pub value_in : BTreeMap (ℕ × ℕ) ℕ → ℕ × ℕ → Option ℕ
value_in known key = tree.get key_cmp known key

-- the cost that is known of a method, and 0 where none is
abbrev pub cost_in : BTreeMap (ℕ × ℕ) ℕ → MemberId → ℕ
cost_in known m = unwrap_or (value_in known (m.class, m.member)) 0

-- a cost, where it isn't too great
abbrev pub within : ℕ → Option ℕ
within cost = if nat_le cost most_cost then Some cost else None

-- no method is listed twice
abbrev pub IsEachOnce : List Plan → Type 0
IsEachOnce program = AllPairs (λ a b. ¬ (a.method ≡ b.method)) program

-- what a method costs by what was known before is known now
abbrev pub IsPriced : (ℕ → ℕ) → Plan → (MemberId → ℕ) → (MemberId → ℕ) → Type 0
IsPriced weights r before now =
    ((m : MemberId) → now m ≡ (if is_method r.method m then cost_of_code weights before r.instructions else before m))
    × (cost_of_code weights before r.instructions ≤ most_cost)

-- a method's cost is known, and not too great
abbrev pub HasCost : (ℕ → ℕ) → List Plan → (MemberId → ℕ) → MemberId → Type 0
HasCost weights program known m = (known m ≡ cost_of weights program m) × (cost_of weights program m ≤ most_cost)

-- those of the first i methods in an order
abbrev pub Knows : (ℕ → ℕ) → List Plan → List ℕ → ℕ → (MemberId → ℕ) → Type 0
Knows weights program order i known =
    (j k : ℕ) (r : Plan) → j < i → slice_get order j ≡ Some k → slice_get program k ≡ Some r → HasCost weights program known r.method

abbrev pub HasCosts : (ℕ → ℕ) → List Plan → (MemberId → ℕ) → Type 0
HasCosts weights program known = (r : Plan) → Contains program r → HasCost weights program known r.method
