-- Instructions with the methods beside them.
use Rattle.std.proofs.Common.{Option, ◌≡◌, ℕ, zero, suc, ◌<◌, ◌≤◌, List, [], ◌∷◌, length, get_or, arith, refl, sym, ap, ◌∙◌, subst}
use Rattle.std.specs.Prelude.{map, Some, option_map, slice_get}
use Rattle.std.proofs.lemmas.List.{get_or_default, length-map}
use Rattle.std.proofs.lemmas.Option.{slice_get-map, slice_get_read}
use Rattle.world.specs.declared.member.MemberId.{MemberId}
use Rattle.code_blocks.specs.declared.instruction.Instruction.{Instruction}
use Rattle.code_flow.specs.declared.program.Reached.{Reached}
use Rattle.code_flow.specs.Plans.{Planned, Plan, planned_with, beside, plan_of, plans_of}

pub beside_length : (is : List Instruction) (ts : List (List MemberId)) → length (beside is ts) ≡ length is
unfolding beside
beside_length [] ts = refl
beside_length (i ∷ is) [] = ap (λ n. suc n) (beside_length is [])
beside_length (i ∷ is) (t ∷ ts) = ap (λ n. suc n) (beside_length is ts)

get_beside : (is : List Instruction) (ts : List (List MemberId)) (k : ℕ) (i : Instruction) (p : Planned) → k < length is → get_or (beside is ts) k p ≡ planned_with (get_or is k i) (get_or ts k [])
unfolding beside
get_beside [] ts k i p lt = absurd (omega (arith, lt))
get_beside (x ∷ is) [] zero i p lt = refl
get_beside (x ∷ is) [] (suc k) i p lt = get_beside is [] k i p (omega (arith, lt))
get_beside (x ∷ is) (t ∷ ts) zero i p lt = refl
get_beside (x ∷ is) (t ∷ ts) (suc k) i p lt = get_beside is ts k i p (omega (arith, lt))

-- the k-th of them
pub beside_at : (is : List Instruction) (ts : List (List MemberId)) (k : ℕ) (i : Instruction) (u t : List MemberId) → k < length is → k < length ts → i ≡ get_or is k i → u ≡ get_or ts k u → t ≡ u
    → planned_with i t ≡ get_or (beside is ts) k (planned_with i t)
beside_at is ts k i u t lt short at_i at_u same =
    let at_t : t ≡ get_or ts k [] = same ∙ at_u ∙ get_or_default ts k u [] short in
    ap (λ (x : Instruction). planned_with x t) at_i ∙ ap (λ (l : List MemberId). planned_with (get_or is k i) l) at_t ∙ sym (get_beside is ts k i (planned_with i t) lt)

pub beside_within : (is : List Instruction) (ts : List (List MemberId)) (k : ℕ) → k < length is → k < length (beside is ts)
beside_within is ts k lt = subst (λ n. k < n) (sym (beside_length is ts)) lt

pub beside_past : (is : List Instruction) (ts : List (List MemberId)) (k : ℕ) → length is ≤ k → length (beside is ts) ≤ k
beside_past is ts k le = subst (λ n. n ≤ k) (sym (beside_length is ts)) le

-- ---- methods

pub plans_inside : (methods : List Reached) (k : ℕ) → k < length (plans_of methods) → k < length methods
plans_inside methods k lt = omega (arith, lt, length-map methods plan_of)

pub plan_at : (methods : List Reached) (k : ℕ) (r : Reached) → k < length (plans_of methods) → r ≡ get_or methods k r → slice_get (plans_of methods) k ≡ Some (plan_of r)
plan_at methods k r lt is =
    slice_get-map plan_of methods k
    ∙ ap (λ (o : Option Reached). option_map plan_of o) (slice_get_read methods (length methods) k r refl (plans_inside methods k lt) is)

pub each_cost : (cost : MemberId → ℕ) (methods : List Reached) → map (λ (r : Reached). cost r.method) methods ≡ map (λ (p : Plan). cost p.method) (plans_of methods)
each_cost cost [] = refl
each_cost cost (r ∷ rs) = ap (λ (l : List ℕ). cost r.method ∷ l) (each_cost cost rs)
