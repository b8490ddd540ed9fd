-- A method's cost doesn't depend on how deep calls may be nested, once that is enough.
use Rattle.std.proofs.Common.{◌≡◌, ◌⊎◌, inl, inr, ℕ, zero, suc, ◌+◌, ◌<◌, ◌≤◌, Bool, true, false, cond, List, [], ◌∷◌, length, map, find, Option, Some, None, refl, sym, ◌∙◌, ap, subst, arith, Contains}
use Rattle.std.specs.Prelude.{if◌then◌else◌, slice_get, AllPairs}
use Rattle.std.specs.Option.{option_map_or}
use Rattle.std.proofs.lemmas.List.{length-map}
use Rattle.std.proofs.lemmas.List.Kept.{AllPairs-cons}
use Rattle.std.proofs.lemmas.List.Elements.{Contains-get_or}
use Rattle.code_flow.proofs.Members.{is_method_same, is_method_itself}
use Rattle.common_laws.proofs.Repeats.{no_longer}
use Rattle.common_laws.proofs.Members.{contains_head, contains_tail, contains_cases, contains_none, map_same}
use Rattle.op_table.specs.Actions.{action_of}
use Rattle.world.specs.declared.member.MemberId.{MemberId}
use Rattle.class_hierarchy.specs.World.{World}
use Rattle.code_flow.specs.Plans.{Planned, Plan}
use Rattle.code_flow.specs.Judging.{is_end}
use Rattle.code_flow.specs.Listing.{is_method}
use Rattle.code_flow.specs.Program.{Calls, CallsLead, once, through, IsProgram, IsCalleesFirst}
use Rattle.call_costs.specs.Costs.{greatest, cost_of_code, instructions_of, cost_within, cost_of}

-- ---- a method of the program

abbrev pub the_method : MemberId → List Plan → Option Plan
the_method m program = find (λ (r : Plan). is_method m r.method) program

find_if : (m : MemberId) (b : Bool) (r : Plan) (others : List Plan) (x : Plan) → is_method m r.method ≡ b → cond b (Some r) (the_method m others) ≡ Some x
    → (the_method m others ≡ Some x → Contains others x × (m ≡ x.method)) → Contains (r ∷ others) x × (m ≡ x.method)
find_if m true r others x is e later =
    let same : r ≡ x = cc in
    (subst (λ (y : Plan). Contains (r ∷ others) y) same (contains_head r others), is_method_same m r.method is ∙ ap (λ (y : Plan). y.method) same)
find_if m false r others x is e later = let behind = later e in (contains_tail r others x behind.0, behind.1)

pub found_method : (m : MemberId) (program : List Plan) (x : Plan) → the_method m program ≡ Some x → Contains program x × (m ≡ x.method)
found_method m [] x e = absurd cc
found_method m (r ∷ others) x e = find_if m (is_method m r.method) r others x refl e (found_method m others x)

find_listed : (m : MemberId) (b : Bool) (r : Plan) (o : Option Plan) → (b ≡ false → (x : Plan) × (o ≡ Some x)) → (x : Plan) × (cond b (Some r) o ≡ Some x)
find_listed m true r o later = (r, refl)
find_listed m false r o later = later refl

pub listed_method : (m : MemberId) (program : List Plan) → Contains (map (λ (r : Plan). r.method) program) m → (x : Plan) × (the_method m program ≡ Some x)
listed_method m [] h = absurd (contains_none m h)
listed_method m (r ∷ others) h =
    find_listed m (is_method m r.method) r (the_method m others)
    (λ not. elim (contains_cases r.method (map (λ (x : Plan). x.method) others) m h) [
      | inl same ↦
          let is : is_method m r.method ≡ true = subst (λ (n : MemberId). is_method m n ≡ true) (sym same) (is_method_itself m) in
          absurd (cc)
      | inr later ↦ listed_method m others later
    ])

-- a method that an instruction of another one can call
calls_in : (program : List Plan) (m t : MemberId) (o : Option Plan) (i : Planned) → the_method m program ≡ o
    → Contains (option_map_or (λ (r : Plan). r.instructions) o []) i → Contains i.targets t → Calls program m t
calls_in program m t None i e stands calls = absurd (contains_none i stands)
calls_in program m t (Some r) i e stands calls =
    let is = found_method m program r e in
    record { caller = r; listed = is.0; is_caller = sym is.1; instruction = i; stands = stands; calls = calls }

pub calls_of : (program : List Plan) (m t : MemberId) (i : Planned) → Contains (instructions_of program m) i → Contains i.targets t → Calls program m t
calls_of program m t i stands calls = calls_in program m t (the_method m program) i refl stands calls

-- ---- code of equal cost

pub code_same : (weights : ℕ → ℕ) (f g : MemberId → ℕ) (is : List Planned) → ((i : Planned) (t : MemberId) → Contains is i → Contains i.targets t → f t ≡ g t)
    → cost_of_code weights f is ≡ cost_of_code weights g is
unfolding cost_of_code
code_same weights f g [] same = refl
code_same weights f g (i ∷ is) same =
    let targets : map f i.targets ≡ map g i.targets = map_same f g i.targets (λ t h. same i t (contains_head i is) h) in
    let later : cost_of_code weights f is ≡ cost_of_code weights g is = code_same weights f g is (λ j t h. same j t (contains_tail i is j h)) in
    ap (λ (costs : List ℕ). weights i.instr.op + greatest costs + (if is_end (action_of i.instr) then 0 else cost_of_code weights f is)) targets
    ∙ ap (λ (rest : ℕ). weights i.instr.op + greatest (map g i.targets) + (if is_end (action_of i.instr) then 0 else rest)) later

-- ---- how deep calls are nested

-- calls from the method on are nested less than n deep
abbrev pub IsDeep : List Plan → ℕ → MemberId → Type 0
IsDeep program zero m = ⊥
IsDeep program (suc n) m = (t : MemberId) → Calls program m t → IsDeep program n t

pub stable : (weights : ℕ → ℕ) (program : List Plan) (n k j : ℕ) (m : MemberId) → IsDeep program n m → n ≤ k → n ≤ j
    → cost_within weights program k m ≡ cost_within weights program j m
unfolding cost_within
stable weights program zero k j m deep one other = absurd deep
stable weights program (suc n) zero j m deep one other = absurd (omega arith)
stable weights program (suc n) (suc k) zero m deep one other = absurd (omega arith)
stable weights program (suc n) (suc k) (suc j) m deep one other =
    code_same weights (cost_within weights program k) (cost_within weights program j) (instructions_of program m)
    (λ i t stands calls. stable weights program n k j t (deep t (calls_of program m t i stands calls)) (omega arith) (omega arith))

step_in : (weights : ℕ → ℕ) (program : List Plan) (n : ℕ) (m : MemberId) → IsDeep program n m
    → cost_within weights program n m ≡ cost_of_code weights (cost_within weights program n) (instructions_of program m)
unfolding cost_within
step_in weights program zero m deep = absurd deep
step_in weights program (suc n) m deep =
    code_same weights (cost_within weights program n) (cost_within weights program (suc n)) (instructions_of program m)
    (λ i t stands calls. stable weights program n n (suc n) t (deep t (calls_of program m t i stands calls)) (omega arith) (omega arith))

-- a method costs what its code costs, with the costs of the methods that it calls
pub cost_step : (weights : ℕ → ℕ) (program : List Plan) (m : MemberId) → IsDeep program (length program) m
    → cost_of weights program m ≡ cost_of_code weights (cost_of weights program) (instructions_of program m)
unfolding cost_of
cost_step weights program m deep = step_in weights program (length program) m deep

-- ---- where no call leads back

leads_on : (program : List Plan) (m t u : MemberId) → CallsLead program m t → Calls program t u → CallsLead program m u
leads_on program m t u (once calls) more = through calls (once more)
leads_on program m t u (through {t = v} calls leads) more = through calls (leads_on program v t u leads more)

-- the methods on the way to one, itself with them
record IsWay (program : List Plan) (m : MemberId) (way : List MemberId) : Type 0 where
  each_once : AllPairs (λ (a b : MemberId). ¬ (a ≡ b)) way
  listed : (x : MemberId) → Contains way x → Contains (map (λ (r : Plan). r.method) program) x
  leads : (x : MemberId) → Contains way x → (x ≡ m) ⊎ CallsLead program x m

way_more : (w : World) (first : MemberId) (program : List Plan) (m t : MemberId) (way : List MemberId) → IsProgram w first program → Calls program m t → IsWay program m way → IsWay program t (t ∷ way)
way_more w first program m t way is calls before = record {
  each_once = AllPairs-cons (λ (a b : MemberId). ¬ (a ≡ b)) t way
      (λ k d lt again. elim (before.leads t (subst (λ (x : MemberId). Contains way x) (sym again) (Contains-get_or way k d lt))) [
        | inl same ↦ is.no_return m (once (subst (λ (x : MemberId). Calls program m x) same calls))
        | inr leads ↦ is.no_return m (through calls leads)
      ])
      before.each_once;
  listed = λ x h. elim (contains_cases t way x h) [
    | inl same ↦ subst (λ (y : MemberId). Contains (map (λ (r : Plan). r.method) program) y) same (is.closed m t calls)
    | inr later ↦ before.listed x later
  ];
  leads = λ x h. elim (contains_cases t way x h) [
    | inl same ↦ inl (sym same)
    | inr later ↦ elim (before.leads x later) [
      | inl same ↦ inr (once (subst (λ (y : MemberId). Calls program y t) (sym same) calls))
      | inr leads ↦ inr (leads_on program x m t leads calls)
    ]
  ];
}

deep_on : (w : World) (first : MemberId) (program : List Plan) (n : ℕ) (m : MemberId) (way : List MemberId) → IsProgram w first program → IsWay program m way
    → length program < n + length way → IsDeep program n m
deep_on w first program zero m way is before enough =
    let short = no_longer way (map (λ (r : Plan). r.method) program) before.each_once before.listed in
    absurd (omega (arith, short, enough, length-map program (λ (r : Plan). r.method)))
deep_on w first program (suc n) m way is before enough = λ t calls.
    deep_on w first program n t (t ∷ way) is (way_more w first program m t way is calls before) (omega (arith, enough))

way_first : (program : List Plan) (m : MemberId) → Contains (map (λ (r : Plan). r.method) program) m → IsWay program m (m ∷ [])
way_first program m listed = record {
  each_once = λ i j d lt within. absurd (omega (arith, lt, within));
  listed = λ x h. elim (contains_cases m [] x h) [
    | inl same ↦ subst (λ (y : MemberId). Contains (map (λ (r : Plan). r.method) program) y) same listed
    | inr later ↦ absurd (contains_none x later)
  ];
  leads = λ x h. elim (contains_cases m [] x h) [ inl same ↦ inl (sym same) | inr later ↦ absurd (contains_none x later) ];
}

-- in a program calls are nested less deep than it has methods
pub program_deep : (w : World) (first : MemberId) (program : List Plan) (m : MemberId) → IsProgram w first program
    → Contains (map (λ (r : Plan). r.method) program) m → IsDeep program (length program) m
program_deep w first program m is listed = deep_on w first program (length program) m (m ∷ []) is (way_first program m listed) (omega arith)

-- ---- where there is an order with callees first

pub order_deep : (program : List Plan) (order : List ℕ) (n i k : ℕ) (r : Plan) → IsCalleesFirst program order → slice_get order i ≡ Some k → slice_get program k ≡ Some r → i < n
    → IsDeep program n r.method
order_deep program order zero i k r is at stands below = absurd (omega arith)
order_deep program order (suc n) i k r is at stands below = λ t calls.
    let callee = is.first i k r t at stands calls in
    let c : Plan = callee.2 in
    subst (λ (x : MemberId). IsDeep program n x) callee.6
    (order_deep program order n callee.0 callee.1 c is callee.4 callee.5 (omega (arith, callee.3, below)))
