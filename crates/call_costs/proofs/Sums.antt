-- Costs, instruction by instruction.
use Rattle.std.proofs.Common.{◌≡◌, ℕ, ◌+◌, ◌<◌, ◌≤◌, max, Bool, true, false, List, [], ◌∷◌, length, map, drop, get_or, Some, None, refl, sym, ◌∙◌, ap, subst, arith, nat_le}
use Rattle.std.specs.Prelude.{if◌then◌else◌}
use Rattle.std.proofs.lemmas.Bool.Decides.{nat_tests}
use Rattle.std.proofs.lemmas.List.{drop_all}
use Rattle.std.specs.Ordering.{nat_cmp, ord_max}
use Rattle.std.proofs.lemmas.Grind.{common_steps}
use Rattle.common_laws.proofs.Parts.{drop_next}
use Rattle.op_table.specs.Actions.{action_of}
use Rattle.world.specs.declared.member.MemberId.{MemberId}
use Rattle.code_flow.specs.Plans.{Planned}
use Rattle.code_flow.specs.Judging.{is_end}
use Rattle.call_costs.specs.Costs.{greatest, cost_of_instruction, cost_of_code, most_cost}
use Rattle.call_costs.specs.Knowing.{within}

-- ---- the greatest

greatest_is : (cost others : ℕ) (b : Bool) → nat_le cost others ≡ b → (if b then others else cost) ≡ max cost others
greatest_is cost others true e = let low : cost ≤ others = grind (arith, nat_tests) in omega (arith, low)
greatest_is cost others false e = let high : others < cost = grind (arith, nat_tests) in omega (arith, high)

greatest_cons : (cost : ℕ) (costs : List ℕ) → greatest (cost ∷ costs) ≡ max cost (greatest costs)
unfolding greatest
greatest_cons cost costs = greatest_is cost (greatest costs) (nat_le cost (greatest costs)) refl

greatest_nothing : greatest [] ≡ 0
unfolding greatest
greatest_nothing = refl

pub most_is : (a b : ℕ) → ord_max nat_cmp a b ≡ max a b
most_is a b = grind (arith, common_steps)

pub greatest_step : (f : MemberId → ℕ) (ms : List MemberId) (i : ℕ) (m d : MemberId) (best cost now total : ℕ) → i < length ms → m ≡ get_or ms i d → cost ≡ f m → now ≡ max best cost
    → max best (greatest (map f (drop i ms))) ≡ total → max now (greatest (map f (drop (i + 1) ms))) ≡ total
greatest_step f ms i m d best cost now total inside at is most before =
    let rest : ℕ = greatest (map f (drop (i + 1) ms)) in
    let split : greatest (map f (drop i ms)) ≡ max (f m) rest = ap (λ (xs : List MemberId). greatest (map f xs)) (drop_next ms i m d inside at) ∙ greatest_cons (f m) (map f (drop (i + 1) ms)) in
    omega (arith, is, most, before, split)

pub greatest_end : (f : MemberId → ℕ) (ms : List MemberId) (i best total : ℕ) → length ms ≤ i → max best (greatest (map f (drop i ms))) ≡ total → best ≡ total
greatest_end f ms i best total past before =
    let none : greatest (map f (drop i ms)) ≡ 0 = ap (λ (xs : List MemberId). greatest (map f xs)) (drop_all i ms past) ∙ greatest_nothing in
    omega (arith, before, none)

-- ---- what is within the greatest cost

within_if : (n c : ℕ) (b : Bool) → nat_le n most_cost ≡ b → Some c ≡ (if b then Some n else None) → (c ≡ n) × (n ≤ most_cost)
within_if n c true e is = let low : n ≤ most_cost = grind (arith, nat_tests) in (cc, low)
within_if n c false e is = absurd cc

pub within_some : (n c : ℕ) → Some c ≡ within n → (c ≡ n) × (n ≤ most_cost)
within_some n c is = within_if n c (nat_le n most_cost) refl is

past_if : (n : ℕ) (b : Bool) → nat_le n most_cost ≡ b → None ≡ (if b then Some n else None) → most_cost < n
past_if n true e is = absurd cc
past_if n false e is = grind (arith, nat_tests)

pub within_none : (n : ℕ) → None ≡ within n → most_cost < n
within_none n is = past_if n (nat_le n most_cost) refl is

pub is_within : (n : ℕ) → n ≤ most_cost → Some n ≡ within n
is_within n low = let test : nat_le n most_cost ≡ true = grind (arith, nat_tests) in rw test refl

pub is_past : (n : ℕ) → most_cost < n → None ≡ within n
is_past n high = let test : nat_le n most_cost ≡ false = grind (arith, nat_tests) in rw test refl

-- ---- the instructions of a method

rest_of : Bool → ℕ → ℕ
rest_of true rest = 0
rest_of false rest = rest

code_cons : (w : ℕ → ℕ) (f : MemberId → ℕ) (i : Planned) (is : List Planned) (b : Bool) → is_end (action_of i.instr) ≡ b
    → cost_of_code w f (i ∷ is) ≡ cost_of_instruction w f i + rest_of b (cost_of_code w f is)
unfolding cost_of_code rest_of
code_cons w f i is true e = rw e refl
code_cons w f i is false e = rw e refl

code_nothing : (w : ℕ → ℕ) (f : MemberId → ℕ) → cost_of_code w f [] ≡ 0
unfolding cost_of_code
code_nothing w f = refl

code_here : (w : ℕ → ℕ) (f : MemberId → ℕ) (is : List Planned) (k : ℕ) (i d : Planned) (b : Bool) → k < length is → i ≡ get_or is k d → is_end (action_of i.instr) ≡ b
    → cost_of_code w f (drop k is) ≡ cost_of_instruction w f i + rest_of b (cost_of_code w f (drop (k + 1) is))
code_here w f is k i d b inside at e = ap (cost_of_code w f) (drop_next is k i d inside at) ∙ code_cons w f i (drop (k + 1) is) b e

-- the cost so far, with what is left
abbrev pub IsSoFar : (ℕ → ℕ) → (MemberId → ℕ) → List Planned → ℕ → ℕ → Type 0
IsSoFar w f is k total = (total + cost_of_code w f (drop k is) ≡ cost_of_code w f is) × (total ≤ most_cost)

pub so_far_start : (w : ℕ → ℕ) (f : MemberId → ℕ) (is : List Planned) → IsSoFar w f is 0 0
so_far_start w f is = (omega arith, omega arith)

pub so_far_next : (w : ℕ → ℕ) (f : MemberId → ℕ) (is : List Planned) (k : ℕ) (i d : Planned) (total cost now : ℕ) → k < length is → i ≡ get_or is k d
    → Some cost ≡ within (cost_of_instruction w f i) → Some now ≡ within (total + cost) → false ≡ is_end (action_of i.instr) → IsSoFar w f is k total → IsSoFar w f is (k + 1) now
unfolding rest_of
so_far_next w f is k i d total cost now inside at one both on before =
    let a = within_some (cost_of_instruction w f i) cost one in
    let s = within_some (total + cost) now both in
    (omega (arith, a.0, s.0, before.0, code_here w f is k i d false inside at (sym on)), omega (arith, s.0, s.1))

pub so_far_end : (w : ℕ → ℕ) (f : MemberId → ℕ) (is : List Planned) (k : ℕ) (i d : Planned) (total cost now : ℕ) → k < length is → i ≡ get_or is k d
    → Some cost ≡ within (cost_of_instruction w f i) → Some now ≡ within (total + cost) → true ≡ is_end (action_of i.instr) → IsSoFar w f is k total → Some now ≡ within (cost_of_code w f is)
unfolding rest_of
so_far_end w f is k i d total cost now inside at one both on before =
    let a = within_some (cost_of_instruction w f i) cost one in
    let s = within_some (total + cost) now both in
    let all : now ≡ cost_of_code w f is = omega (arith, a.0, s.0, before.0, code_here w f is k i d true inside at (sym on)) in
    subst (λ (n : ℕ). Some now ≡ within n) all (is_within now (omega (arith, s.0, s.1)))

pub so_far_all : (w : ℕ → ℕ) (f : MemberId → ℕ) (is : List Planned) (k total : ℕ) → length is ≤ k → IsSoFar w f is k total → Some total ≡ within (cost_of_code w f is)
so_far_all w f is k total past before =
    let none : cost_of_code w f (drop k is) ≡ 0 = ap (cost_of_code w f) (drop_all k is past) ∙ code_nothing w f in
    let all : total ≡ cost_of_code w f is = omega (arith, none, before.0) in
    subst (λ (n : ℕ). Some total ≡ within n) all (is_within total before.1)

at_least : (w : ℕ → ℕ) (f : MemberId → ℕ) (is : List Planned) (k : ℕ) (i d : Planned) → k < length is → i ≡ get_or is k d → cost_of_instruction w f i ≤ cost_of_code w f (drop k is)
at_least w f is k i d inside at = let e = code_here w f is k i d (is_end (action_of i.instr)) inside at refl in omega (arith, e)

pub so_far_first : (w : ℕ → ℕ) (f : MemberId → ℕ) (is : List Planned) (k : ℕ) (i d : Planned) (total : ℕ) → k < length is → i ≡ get_or is k d
    → None ≡ within (cost_of_instruction w f i) → IsSoFar w f is k total → None ≡ within (cost_of_code w f is)
so_far_first w f is k i d total inside at none before =
    let high = within_none (cost_of_instruction w f i) none in
    is_past (cost_of_code w f is) (omega (arith, high, before.0, at_least w f is k i d inside at))

pub so_far_sum : (w : ℕ → ℕ) (f : MemberId → ℕ) (is : List Planned) (k : ℕ) (i d : Planned) (total cost : ℕ) → k < length is → i ≡ get_or is k d
    → Some cost ≡ within (cost_of_instruction w f i) → None ≡ within (total + cost) → IsSoFar w f is k total → None ≡ within (cost_of_code w f is)
so_far_sum w f is k i d total cost inside at one none before =
    let a = within_some (cost_of_instruction w f i) cost one in
    let high = within_none (total + cost) none in
    is_past (cost_of_code w f is) (omega (arith, a.0, high, before.0, at_least w f is k i d inside at))
