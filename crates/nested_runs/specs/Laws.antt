-- What the laws of nested runs say of the counters.
use Rattle.std.specs.Prelude.{ℕ, ◌+◌, ◌*◌, ◌^◌, ◌≤◌, ◌↔◌, List, [], ◌∷◌}
use Rattle.std.specs.List.{AllByRecursion}
use Rattle.nested_runs.specs.declared.counting.Action.{Action}
use Rattle.nested_runs.specs.Nest.{Machine, Done, Nest}
use Rattle.nested_runs.specs.Stacks.{Steps}
use Rattle.nested_runs.specs.Keeping.{EachSince, guarded}
use Rattle.nested_runs.specs.Refining.{Seen}
use Rattle.nested_runs.specs.Counting.{counting, State, first_state, Runs, IsNested, bound}
use Rattle.nested_runs.specs.Looped.{Layer, Frame, looped, SeesTurn}

-- each run has a nest, of which the first activation is the first counter
abbrev pub RunsAreNested : Type 0
RunsAreNested = (n : ℕ) (actions : List Action) (s : State) → Runs actions (first_state n) s → IsNested n s

-- a nest is what some steps from one counter lead to, and any such steps lead to a nest
abbrev pub NestsAreSteps : Type 0
NestsAreSteps = (n : ℕ) (stack : List ℕ) (c : ℕ) → Nest counting n stack c ↔ Steps counting (n ∷ []) c stack

-- each run costs at most the bound of the first counter
abbrev pub RunsAreBounded : Type 0
RunsAreBounded = (n : ℕ) (actions : List Action) (s : State) → Runs actions (first_state n) s → s.spent ≤ bound n

-- a call that is done has paid for what it used up alone
abbrev pub CallsPayForWhatTheyUse : Type 0
CallsPayForWhatTheyUse = (n e c : ℕ) → Done counting n c e → c + 3 * e ≤ bound n

-- A plan that knows of a call only that it leaves at most what it started with: a counter has left to
-- spend what two of one less have, and 2.
abbrev pub NestsKeepThePlan : Type 0
NestsKeepThePlan = (n : ℕ) (stack : List ℕ) (c : ℕ) → Nest counting n stack c → c + 2 ≤ 3 * 2 ^ n

-- a counter is at most what it started with, and that is at most what the first one started with
pub record FellSince (first start now : ℕ) : Type 0 where
  pub fell : now ≤ start
  pub within : start ≤ first

abbrev pub CountersFall : Type 0
CountersFall = (n : ℕ) (stack : List ℕ) (c : ℕ) → Nest counting n stack c → EachSince counting n (λ start now. FellSince n start now) stack

-- no counter is ever above the first one
abbrev pub CountersStayBelow : Type 0
CountersStayBelow = (n : ℕ) (stack : List ℕ) (c : ℕ) → Nest counting n stack c → AllByRecursion (λ a. a ≤ n) stack

-- a call leaves at most what it started with
abbrev pub CallsLeaveLess : Type 0
CallsLeaveLess = (n e c : ℕ) → Done counting n c e → e ≤ n

-- the counters whose steps are known to leave less
abbrev pub falling : Machine ℕ ℕ
falling = guarded counting (λ start now. now ≤ start) (λ start e. e ≤ start)

abbrev pub SameNestsGuarded : Type 0
SameNestsGuarded = (n : ℕ) (stack : List ℕ) (c : ℕ) → Nest counting n stack c ↔ Nest falling n stack c

abbrev pub SameCallsGuarded : Type 0
SameCallsGuarded = (n e c : ℕ) → Done counting n c e ↔ Done falling n c e

-- each nest of counters is a nest of frames and turns, at the same cost
abbrev pub NestsAreLooped : Type 0
NestsAreLooped =
    (n : ℕ) (stack : List ℕ) (c : ℕ) → Nest counting n stack c
    → (layers : List Layer) × (Seen (λ a xs. SeesTurn a xs) stack layers × Nest looped (Frame n) layers c)
