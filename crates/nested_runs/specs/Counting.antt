-- A small machine of activations: counters that count down, call one another and return what is left.
use Rattle.std.specs.Prelude.{◌≡◌, ℕ, suc, ◌+◌, ◌-◌, ◌*◌, ◌<◌, Bool, true, false, List, [], ◌∷◌, refl}
use Rattle.std.specs.Coded.{Coded, code_by, coded×, coded_ℕ, coded_bool, coded_list}
use Rattle.nested_runs.specs.declared.counting.Action.{Action}
use Rattle.nested_runs.specs.declared.counting.Action.TheVariants.{Count, Call, Return}
use Rattle.nested_runs.specs.Nest.{Machine, Done, Nest}

-- ---- the machine

-- a counter counts down by one at a cost of 1
pub data CountsDown : ℕ → ℕ → ℕ → Type 0 where
  counts_down : {n : ℕ} → CountsDown (suc n) 1 n

-- it calls another one, which starts with one less, at a cost of 2
pub data CallsOne : ℕ → ℕ → ℕ → Type 0 where
  calls_one : {n : ℕ} → CallsOne (suc n) 2 n

-- it returns what it has left, at a cost of 1
pub data ReturnsRest : ℕ → ℕ → ℕ → Type 0 where
  returns_rest : {n : ℕ} → ReturnsRest n 1 n

-- and the caller goes on with that
pub data TakesOver : ℕ → ℕ → ℕ → Type 0 where
  takes_over : {w n : ℕ} → TakesOver w n n

abbrev pub counting : Machine ℕ ℕ
counting = record {
  moves = λ a k b. CountsDown a k b;
  starts = λ w k b. CallsOne w k b;
  ends = λ d k e. ReturnsRest d k e;
  resumes = λ w e r. TakesOver w e r;
}

-- ---- its states and runs

-- the running counter, those that wait with the last caller first, what was spent, and whether the first
-- counter has returned
pub record State : Type 0 where
  pub running : ℕ
  pub waiting : List ℕ
  pub spent : ℕ
  pub ended : Bool

abbrev pub coded_state : Coded State
coded_state =
    code_by (ℕ × (List ℕ × (ℕ × Bool))) (coded× coded_ℕ (coded× (coded_list coded_ℕ) (coded× coded_ℕ coded_bool)))
    (λ s. (s.running, (s.waiting, (s.spent, s.ended))))
    (λ p. record { running = p.0; waiting = p.1.0; spent = p.1.1.0; ended = p.1.1.1 })
    (λ _. refl)

-- one counter, and nothing spent
abbrev pub first_state : ℕ → State
first_state n = record { running = n; waiting = []; spent = 0; ended = false }

-- a machine that has not ended counts and calls while its counter is above 0, and returns at any time
abbrev pub MayMake : Action → ℕ → Type 0
MayMake Count n = 0 < n
MayMake Call n = 0 < n
MayMake Return n = Unit {0}

abbrev pub IsPossible : Action → State → Type 0
IsPossible action s = (s.ended ≡ false) × MayMake action s.running

-- the last caller goes on, or the run has ended
abbrev pub returned : ℕ → List ℕ → ℕ → State
returned n [] spent = record { running = n; waiting = []; spent = spent; ended = true }
returned n (w ∷ waiting) spent = record { running = n; waiting = waiting; spent = spent; ended = false }

-- the state after a step
abbrev pub after : Action → State → State
after Count s = record { running = s.running - 1; waiting = s.waiting; spent = s.spent + 1; ended = s.ended }
after Call s = record { running = s.running - 1; waiting = s.running ∷ s.waiting; spent = s.spent + 2; ended = s.ended }
after Return s = returned s.running s.waiting (s.spent + 1)

-- each action is possible, one after another, and leads to this state
abbrev pub Runs : List Action → State → State → Type 0
Runs [] s t = t ≡ s
Runs (action ∷ actions) s t = IsPossible action s × Runs actions (after action s) t

-- ---- what the theorems say of them

-- what the first counter pays for at most: 1 for each time that it, or one that it called, counts down, or
-- 3 for a call and its return; and 1 for its own return
abbrev pub bound : ℕ → ℕ
bound n = 3 * n + 1

abbrev pub NestedIf : Bool → ℕ → List ℕ → ℕ → ℕ → Type 0
NestedIf false n waiting spent first = Nest counting first (n ∷ waiting) spent
NestedIf true n waiting spent first = Done counting first spent n

-- the state has the nest that began with the first counter, or its end, and the cost of it
abbrev pub IsNested : ℕ → State → Type 0
IsNested first s = NestedIf s.ended s.running s.waiting s.spent first
