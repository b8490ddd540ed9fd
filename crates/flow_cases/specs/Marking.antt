-- which slots edges mark: the problem whose facts are lists, of a length of its own at each point
use Rattle.std.specs.Prelude.{◌≡◌, ℕ, ◌<◌, ◌==◌, Bool, ◌&&◌, Option, None, List, [], length, map, slice_get, option_map, unwrap_or}
use Rattle.std.specs.Option.{ForSome}
use Rattle.std.specs.List.{list_any, range_with_len}
use Rattle.flow_cases.specs.declared.edge.Edge.{Edge}
use Rattle.flow_cases.specs.declared.edge.Way.{Way}
use Rattle.fix_engine.specs.Problem.{Problem}
use Rattle.flow_cases.specs.Slots.{is_marked}

-- an edge between so many points
abbrev pub IsEdge : ℕ → Edge → Type 0
IsEdge points edge = (edge.source < points) × (ForSome edge.also (λ q. q < points)) × (edge.goal < points)

-- whether a way marks this slot
abbrev pub marks_slot : List Bool → Option (List Bool) → ℕ → Way → Bool
marks_slot a b slot way = way.to == slot && (is_marked way.from a && is_marked way.with (unwrap_or b []))

-- of so many slots those that ways mark
abbrev pub marked_by : ℕ → List Way → List Bool → Option (List Bool) → List Bool
marked_by width ways a b = map (λ slot. list_any (λ way. marks_slot a b slot way) ways) (range_with_len 0 width)

abbrev pub source_of : List Edge → ℕ → ℕ
source_of edges e = unwrap_or (option_map (λ (edge : Edge). edge.source) (slice_get edges e)) 0

abbrev pub also_of : List Edge → ℕ → Option ℕ
also_of edges e = unwrap_or (option_map (λ (edge : Edge). edge.also) (slice_get edges e)) None

abbrev pub goal_of : List Edge → ℕ → ℕ
goal_of edges e = unwrap_or (option_map (λ (edge : Edge). edge.goal) (slice_get edges e)) 0

abbrev pub ways_of : List Edge → ℕ → List Way
ways_of edges e = unwrap_or (option_map (λ (edge : Edge). edge.ways.items) (slice_get edges e)) []

-- what begins at a point
abbrev pub start_of : List (List Bool) → ℕ → List Bool
start_of starts k = unwrap_or (slice_get starts k) []

-- Each point's facts are as long as its start.
abbrev pub marking : List (List Bool) → List Edge → Problem (List Bool)
marking starts edges =
    record {
      points = length starts;
      edges = length edges;
      height = 65;
      source = source_of edges;
      also = also_of edges;
      goal = goal_of edges;
      IsFact = λ k a. length a ≡ length (start_of starts k);
      start = start_of starts;
      transfer = λ e a b. marked_by (length (start_of starts (goal_of edges e))) (ways_of edges e) a b;
    }
