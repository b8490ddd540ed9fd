-- The laws of nested runs, at the counters.
use Rattle.std.proofs.Common.{◌≡◌, ℕ, zero, suc, ◌+◌, ◌-◌, ◌*◌, ◌^◌, ◌<◌, ◌≤◌, Bool, true, false, List, [], ◌∷◌, length, get_or, drop, drop-cons, add-one, refl, ap, ◌∙◌, sym, subst, arith}
use Rattle.std.proofs.Math.Nat.{pow-succ'}
use Rattle.std.proofs.Math.Pow.{pow_mono}
use Rattle.std.proofs.lemmas.Nat.{pow_pos}
use Rattle.nested_runs.specs.declared.counting.Action.{Action}
use Rattle.nested_runs.specs.declared.counting.Action.TheVariants.{Count, Call, Return}
use Rattle.nested_runs.specs.Nest.{Done, base, stays}
use Rattle.nested_runs.specs.Spending.{IsClosed, IsClosedWhere}
use Rattle.nested_runs.specs.Keeping.{Keeps, KeepsFact, KeepsOrder}
use Rattle.nested_runs.specs.Counting.{counting, CountsDown, counts_down, CallsOne, calls_one, ReturnsRest, returns_rest, TakesOver, takes_over, State, first_state, MayMake, IsPossible, after, Runs, bound, NestedIf, IsNested}
use Rattle.nested_runs.specs.Laws.{FellSince}
use Rattle.nested_runs.proofs.Nests.{nest_moves, nest_starts, nest_returns, nest_done}
use Rattle.nested_runs.proofs.Spent.{nest_is_spent, done_passes}

-- ---- each step of the code keeps the nest

step_down : (n : ℕ) → 0 < n → CountsDown n 1 (n - 1)
step_down zero above = absurd (omega arith)
step_down (suc n) above = let e : suc n - 1 ≡ n = omega arith in rw e counts_down

call_down : (n : ℕ) → 0 < n → CallsOne n 2 (n - 1)
call_down zero above = absurd (omega arith)
call_down (suc n) above = let e : suc n - 1 ≡ n = omega arith in rw e calls_one

nested_if_after :
    (action : Action) (first n : ℕ) (waiting : List ℕ) (spent : ℕ) (ended : Bool)
    → ended ≡ false → MayMake action n → NestedIf ended n waiting spent first
    → IsNested first (after action (record { running = n; waiting = waiting; spent = spent; ended = ended }))
nested_if_after action first n waiting spent true running may nested = absurd (cc)
nested_if_after Count first n waiting spent false running may nested = nest_moves nested (step_down n may)
nested_if_after Call first n waiting spent false running may nested = nest_starts nested (call_down n may)
nested_if_after Return first n [] spent false running may nested = nest_done nested returns_rest
nested_if_after Return first n (w ∷ waiting) spent false running may nested = nest_returns nested returns_rest takes_over

-- a step from a state that has its nest leads to a state that has its nest
pub nested_after : (action : Action) (first : ℕ) (s : State) → IsPossible action s → IsNested first s → IsNested first (after action s)
nested_after action first s possible nested = nested_if_after action first s.running s.waiting s.spent s.ended possible.0 possible.1 nested

pub nested_first : (n : ℕ) → IsNested n (first_state n)
nested_first n = base stays

nested_on : (first : ℕ) (actions : List Action) (s t : State) → IsNested first s → Runs actions s t → IsNested first t
nested_on first [] s t nested runs = subst (λ u. IsNested first u) (sym runs) nested
nested_on first (action ∷ actions) s t nested runs = nested_on first actions (after action s) t (nested_after action first s runs.0 nested) runs.1

pub runs_nested : (n : ℕ) (actions : List Action) (s : State) → Runs actions (first_state n) s → IsNested n s
runs_nested n actions s runs = nested_on n actions (first_state n) s (nested_first n) runs

-- ---- what is nested is spent

count_is : {a k b : ℕ} → CountsDown a k b → (a ≡ suc b) × (k ≡ 1)
count_is counts_down = (refl, refl)

call_is : {w k b : ℕ} → CallsOne w k b → (w ≡ suc b) × (k ≡ 2)
call_is calls_one = (refl, refl)

return_is : {d k e : ℕ} → ReturnsRest d k e → (e ≡ d) × (k ≡ 1)
return_is returns_rest = (refl, refl)

resume_is : {w e r : ℕ} → TakesOver w e r → r ≡ e
resume_is takes_over = refl

-- a call is passed at what the counter fell by pays for, and 1; what is spent is within the bound
pub counting_closed : IsClosed counting (λ a c e. c + 3 * e ≤ bound a) (λ a c. c ≤ bound a)
counting_closed = record {
  spends_nothing = λ a. omega arith;
  spends_move = λ mv spent. let m = count_is mv in omega arith;
  spends_start = λ st spent. let s = call_is st in omega arith;
  spends_call = λ st passed re spent. let s = call_is st in let r = resume_is re in omega arith;
  passes_move = λ mv passed. let m = count_is mv in omega arith;
  passes_call = λ st passed re behind. let s = call_is st in let r = resume_is re in omega arith;
  passes_end = λ en. let e = return_is en in omega arith;
}

pub calls_pay : (n e c : ℕ) → Done counting n c e → c + 3 * e ≤ bound n
calls_pay n e c d = done_passes counting_closed d

bounded_if : (first n : ℕ) (waiting : List ℕ) (spent : ℕ) (ended : Bool) → NestedIf ended n waiting spent first → spent ≤ bound first
bounded_if first n waiting spent false nested = nest_is_spent counting_closed nested
bounded_if first n waiting spent true nested = let paid = calls_pay first n spent nested in omega arith

-- a state that has its nest is within the bound
pub nested_bounded : (first : ℕ) (s : State) → IsNested first s → s.spent ≤ bound first
nested_bounded first s nested = bounded_if first s.running s.waiting s.spent s.ended nested

-- ---- what each step keeps

-- no step raises the counter
pub counting_falls : KeepsOrder counting (λ start now. now ≤ start) (λ start e. e ≤ start)
counting_falls = record {
  reflexive = λ a. omega arith;
  transitive = λ p q. omega arith;
  transitive_over = λ p q. omega arith;
  over_move = λ mv. let m = count_is mv in omega arith;
  over_call = λ st over re. let s = call_is st in let r = resume_is re in omega arith;
  at_end = λ en. let e = return_is en in omega arith;
}

pub counting_fell : (n : ℕ) → Keeps counting (λ start now. FellSince n start now) (λ start e. e ≤ start)
counting_fell n = record {
  at_start = λ since st. let s = call_is st in record { fell = omega arith; within = omega arith };
  over_move = λ since mv. let m = count_is mv in record { fell = omega arith; within = since.within };
  over_call = λ since st over re. let s = call_is st in let r = resume_is re in record { fell = omega arith; within = since.within };
  at_end = λ since en. let e = return_is en in omega arith;
}

pub counting_stays_below : (n : ℕ) → KeepsFact counting (λ a. a ≤ n) (λ e. e ≤ n)
counting_stays_below n = record {
  at_start = λ below st. let s = call_is st in omega arith;
  over_move = λ below mv. let m = count_is mv in omega arith;
  over_call = λ below st over re. let r = resume_is re in omega arith;
  at_end = λ below en. let e = return_is en in omega arith;
}

-- ---- a plan, where each call leaves at most what it started with

power_of_suc : {a b : ℕ} → a ≡ suc b → 2 ^ a ≡ 2 * 2 ^ b
power_of_suc {b = b} e = ap (λ n. 2 ^ n) e ∙ pow-succ' 2 b

pub plan_closed : IsClosedWhere counting (λ start now. now ≤ start) (λ start e. e ≤ start) (λ a c e. c + 2 ≤ 3 * 2 ^ a) (λ a c. c + 2 ≤ 3 * 2 ^ a)
plan_closed = record {
  spends_nothing = λ {s} {a} since. let some = pow_pos a in omega arith;
  spends_move = λ {s} {a} {b} since mv now spent. let m = count_is mv in let twice = power_of_suc m.0 in let some = pow_pos b in omega arith;
  spends_start = λ {s} {w} {b} since st begun spent. let m = call_is st in let twice = power_of_suc m.0 in let some = pow_pos b in omega arith;
  spends_call = λ since st begun passed over re now spent.
      let m = call_is st in let twice = power_of_suc m.0 in let r = resume_is re in let less = pow_mono over in
      let same = ap (λ n. 2 ^ n) r in omega arith;
  passes_move = λ {s} {a} {b} since mv now passed over. let m = count_is mv in let twice = power_of_suc m.0 in let some = pow_pos b in omega arith;
  passes_call = λ since st begun passed over re now behind past.
      let m = call_is st in let twice = power_of_suc m.0 in let r = resume_is re in let less = pow_mono over in
      let same = ap (λ n. 2 ^ n) r in omega arith;
  passes_end = λ {s} {d} since en over. let m = return_is en in let some = pow_pos d in omega arith;
}

-- ---- a run, action by action

-- what is left of a run begins with the action that comes now
runs_split : (actions : List Action) (i : ℕ) (d : Action) (s t : State) → i < length actions → Runs (drop i actions) s t → Runs (get_or actions i d ∷ drop (suc i) actions) s t
runs_split actions i d s t within runs = subst (λ left. Runs left s t) (drop-cons actions i d within) runs

runs_join : (actions : List Action) (i : ℕ) (d : Action) (s t : State) → i < length actions → Runs (get_or actions i d ∷ drop (suc i) actions) s t → Runs (drop i actions) s t
runs_join actions i d s t within runs = subst (λ left. Runs left s t) (sym (drop-cons actions i d within)) runs

-- behind a step it goes on from the state after it
pub runs_past : (actions : List Action) (i : ℕ) (d : Action) (s t : State) → i < length actions → Runs (drop i actions) s t → Runs (drop (i + 1) actions) (after (get_or actions i d) s) t
runs_past actions i d s t within runs = rw add-one (runs_split actions i d s t within runs).1

pub runs_before : (actions : List Action) (i : ℕ) (d : Action) (s t : State) → i < length actions → IsPossible (get_or actions i d) s → Runs (drop (i + 1) actions) (after (get_or actions i d) s) t → Runs (drop i actions) s t
runs_before actions i d s t within possible runs = runs_join actions i d s t within (possible, rw add-one at runs)
