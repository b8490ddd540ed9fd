-- Costs, method by method, where each stands behind those that it calls.
use Rattle.std.proofs.Common.{◌≡◌, inl, inr, ℕ, ◌+◌, ◌<◌, ◌≤◌, Bool, true, false, List, [], length, get_or, map, Option, Some, Result, Ok, Err, IsErrAnd, IfErr, refl, sym, ◌∙◌, ap, subst, arith, Contains}
use Rattle.std.specs.Prelude.{if◌then◌else◌, slice_get}
use Rattle.std.specs.Option.{option_map_or}
use Rattle.std.proofs.lemmas.Bool.{cases_lt}
use Rattle.std.proofs.lemmas.Option.{get_or_from_slice_get, slice_get_within}
use Rattle.std.proofs.lemmas.List.Elements.{All-from_recursion}
use Rattle.code_flow.proofs.Members.{is_method_same, is_method_itself}
use Rattle.common_laws.proofs.Members.{contains_at, place_of, in_map, map_same}
use Rattle.world.specs.declared.member.MemberId.{MemberId}
use Rattle.code_flow.specs.Plans.{Plan}
use Rattle.code_flow.specs.Listing.{is_method}
use Rattle.code_flow.specs.Program.{Calls, IsCalleesFirst}
use Rattle.call_costs.specs.declared.fault.CostFault.{CostFault}
use Rattle.call_costs.specs.declared.fault.CostFault.TheVariants as fault
use Rattle.call_costs.specs.Costs.{cost_of_code, instructions_of, cost_of, most_cost, costs_of, IsTooGreat}
use Rattle.call_costs.specs.Knowing.{IsEachOnce, IsPriced, Knows, HasCosts}
use Rattle.call_costs.proofs.Stable.{found_method, listed_method, code_same, cost_step, order_deep}

-- ---- a method that is listed once

apart_at : (program : List Plan) (a b : ℕ) (r s : Plan) → IsEachOnce program → a < b → slice_get program a ≡ Some r → slice_get program b ≡ Some s → r.method ≡ s.method → ⊥
apart_at program a b r s once before at_a at_b same =
    let first : get_or program a r ≡ r = get_or_from_slice_get program a r r at_a in
    let second : get_or program b r ≡ s = get_or_from_slice_get program b s r at_b in
    once a b r before (slice_get_within program b s at_b) (ap (λ (x : Plan). x.method) first ∙ same ∙ sym (ap (λ (x : Plan). x.method) second))

same_place : (program : List Plan) (a b : ℕ) (r s : Plan) → a ≡ b → slice_get program a ≡ Some r → slice_get program b ≡ Some s → r ≡ s
same_place program a b r s e at_a at_b =
    let both : slice_get program b ≡ Some r = subst (λ (k : ℕ). slice_get program k ≡ Some r) e at_a in
    cc

same_reached : (program : List Plan) (a b : ℕ) (r s : Plan) → IsEachOnce program → slice_get program a ≡ Some r → slice_get program b ≡ Some s → r.method ≡ s.method → r ≡ s
same_reached program a b r s once at_a at_b same =
    elim (cases_lt a b) [
      | inl below ↦ absurd (apart_at program a b r s once below at_a at_b same)
      | inr above ↦ elim (cases_lt b a) [
        | inl below ↦ absurd (apart_at program b a s r once below at_b at_a (sym same))
        | inr also ↦ same_place program a b r s (omega (arith, above, also)) at_a at_b
      ]
    ]

own_instructions : (program : List Plan) (k : ℕ) (r : Plan) → IsEachOnce program → slice_get program k ≡ Some r → instructions_of program r.method ≡ r.instructions
own_instructions program k r once at =
    let there : Contains (map (λ (x : Plan). x.method) program) r.method = in_map (λ (x : Plan). x.method) program r (contains_at program k r at) in
    let first = listed_method r.method program there in
    let is = found_method r.method program first.0 first.1 in
    let same : r ≡ first.0 = same_reached program k is.0.0 r first.0 once at (place_of program first.0 is.0) is.1 in
    ap (λ (o : Option Plan). option_map_or (λ (x : Plan). x.instructions) o []) first.1 ∙ ap (λ (x : Plan). x.instructions) (sym same)

-- ---- one more method

-- what a method's code costs by what is known is what the method costs
priced_cost : (weights : ℕ → ℕ) (program : List Plan) (order : List ℕ) (i k : ℕ) (r : Plan) (known : MemberId → ℕ) → IsEachOnce program → IsCalleesFirst program order
    → slice_get order i ≡ Some k → slice_get program k ≡ Some r → Knows weights program order i known
    → cost_of weights program r.method ≡ cost_of_code weights known r.instructions
priced_cost weights program order i k r known once is at stands knows =
    let m : MemberId = r.method in
    let inside : i < length program = omega (arith, slice_get_within order i k at, is.count) in
    let deep = order_deep program order (length program) i k r is at stands inside in
    let instructions = own_instructions program k r once stands in
    let there : Contains program r = contains_at program k r stands in
    cost_step weights program m deep
    ∙ ap (cost_of_code weights (cost_of weights program)) instructions
    ∙ code_same weights (cost_of weights program) known r.instructions (λ p t placed calls.
    let call : Calls program m t = record { caller = r; listed = there; is_caller = refl; instruction = p; stands = placed; calls = calls } in
    let callee = is.first i k r t at stands call in
    let c : Plan = callee.2 in
    let same : c.method ≡ t = callee.6 in
    subst (λ (x : MemberId). cost_of weights program x ≡ known x) same (sym (knows callee.0 callee.1 c callee.3 callee.4 callee.5).0))

not_other : (m : MemberId) → is_method m m ≡ false → ⊥
not_other m e = let same : is_method m m ≡ true = is_method_itself m in absurd cc

knows_if : (weights : ℕ → ℕ) (program : List Plan) (order : List ℕ) (i k j l : ℕ) (r s : Plan) (before : MemberId → ℕ) (b : Bool)
    → is_method r.method s.method ≡ b → slice_get order i ≡ Some k → slice_get program k ≡ Some r → Knows weights program order i before
    → cost_of weights program r.method ≡ cost_of_code weights before r.instructions → cost_of_code weights before r.instructions ≤ most_cost
    → j < i + 1 → slice_get order j ≡ Some l → slice_get program l ≡ Some s
    → ((if b then cost_of_code weights before r.instructions else before s.method) ≡ cost_of weights program s.method) × (cost_of weights program s.method ≤ most_cost)
knows_if weights program order i k j l r s before true is at stands knows cost low below at_j stands_l =
    let same : r.method ≡ s.method = is_method_same r.method s.method is in
    let costs : cost_of weights program s.method ≡ cost_of_code weights before r.instructions = ap (cost_of weights program) (sym same) ∙ cost in
    (sym costs, omega (arith, costs, low))
knows_if weights program order i k j l r s before false is at stands knows cost low below at_j stands_l =
    elim (cases_lt j i) [
      | inl earlier ↦ knows j l s earlier at_j stands_l
      | inr last ↦
          let e : i ≡ j = omega (arith, last, below) in
          let both : slice_get order j ≡ Some k = subst (λ (n : ℕ). slice_get order n ≡ Some k) e at in
          let place : k ≡ l = cc in
          let one : r ≡ s = same_place program k l r s place stands stands_l in
          let itself : is_method r.method r.method ≡ false = subst (λ (x : Plan). is_method r.method x.method ≡ false) (sym one) is in
          absurd (not_other r.method itself)
    ]

pub knows_next : (weights : ℕ → ℕ) (program : List Plan) (order : List ℕ) (i k : ℕ) (r : Plan) (before now : MemberId → ℕ) → IsEachOnce program → IsCalleesFirst program order
    → slice_get order i ≡ Some k → slice_get program k ≡ Some r → IsPriced weights r before now → Knows weights program order i before → Knows weights program order (i + 1) now
knows_next weights program order i k r before now once is at stands priced knows = λ j l s below at_j stands_l.
    let cost = priced_cost weights program order i k r before once is at stands knows in
    let known = knows_if weights program order i k j l r s before (is_method r.method s.method) refl at stands knows cost priced.1 below at_j stands_l in
    (priced.0 s.method ∙ known.0, known.1)

pub knows_nothing : (weights : ℕ → ℕ) (program : List Plan) (order : List ℕ) (known : MemberId → ℕ) → Knows weights program order 0 known
knows_nothing weights program order known = λ j l s below at stands. absurd (omega (arith, below))

pub knows_all : (weights : ℕ → ℕ) (program : List Plan) (order : List ℕ) (i : ℕ) (known : MemberId → ℕ) → IsCalleesFirst program order → length order ≤ i → Knows weights program order i known
    → HasCosts weights program known
knows_all weights program order i known is past knows = λ r there.
    let place = is.all there.0 there.1 in
    knows place.0 there.0 r (omega (arith, place.1, past)) (place_of order there.0 place) (place_of program r there)

pub too_great : (weights : ℕ → ℕ) (program : List Plan) (order : List ℕ) (i k : ℕ) (r : Plan) (before : MemberId → ℕ) → IsEachOnce program → IsCalleesFirst program order
    → slice_get order i ≡ Some k → slice_get program k ≡ Some r → most_cost < cost_of_code weights before r.instructions → Knows weights program order i before → IsTooGreat weights program
too_great weights program order i k r before once is at stands high knows =
    let cost = priced_cost weights program order i k r before once is at stands knows in
    (r, contains_at program k r stands, omega (arith, high, cost))

-- ---- places in the order

pub order_inside : (program : List Plan) (order : List ℕ) (i d : ℕ) → IsCalleesFirst program order → i < length order → get_or order i d < length program
order_inside program order i d is inside = All-from_recursion (λ (k : ℕ). k < length program) order is.inside i d inside

-- ---- the list

pub listed_costs : (weights : ℕ → ℕ) (program : List Plan) (known : MemberId → ℕ) → HasCosts weights program known → map (λ (r : Plan). known r.method) program ≡ costs_of weights program
listed_costs weights program known has = map_same (λ (r : Plan). known r.method) (λ (r : Plan). cost_of weights program r.method) program (λ r there. (has r there).0)

pub none_too_great : (weights : ℕ → ℕ) (program : List Plan) (known : MemberId → ℕ) → HasCosts weights program known → ¬ IsTooGreat weights program
none_too_great weights program known has = λ great. let low = (has great.0 great.1).1 in absurd (omega (arith, low, great.2))

-- ---- an error that is handed on

pub handed_on : {T : Type 0} (P : Type 0) (r : Result T CostFault) (e : CostFault) → IsErrAnd r (λ x. x ≡ e) → (e ≡ fault.TooGreat → P) → IfErr r (λ x. x ≡ fault.TooGreat → P)
handed_on P (Ok t) e is behind = tt
handed_on P (Err x) e is behind = λ same. behind (sym is ∙ same)
