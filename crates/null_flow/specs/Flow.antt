-- What is known of null as a data flow problem: its points are places of the code of several methods, each with how many
-- slots frames have there. The first point is the start of the method that is asked for.
use Rattle.std.specs.Prelude.{ℕ, ◌+◌, ◌<◌, ◌==◌, Bool, true, List, [], ◌∷◌, length, slice_get, slice_index_or, unwrap_or, None, if◌then◌else◌, max}
use Rattle.fix_engine.specs.Problem.{Problem}
use Rattle.null_flow.specs.declared.edge.NullEdge.{NullEdge}
use Rattle.null_flow.specs.declared.edge.Way.TheVariants.{Caught}
use Rattle.null_flow.specs.declared.fact.NullFact.{NullFact}
use Rattle.null_flow.specs.declared.fact.NullFact.TheVariants as facts
use Rattle.null_flow.specs.Facts.{IsFactOf}
use Rattle.null_flow.specs.Effects.{fitted, fact_along}

abbrev pub nowhere : NullEdge
nowhere = record { from = 0; to = 0; locals = 0; pops = 0; way = Caught }

abbrev pub edge_at : List NullEdge → ℕ → NullEdge
edge_at edges e = unwrap_or (slice_get edges e) nowhere

-- how many slots frames have at the point
abbrev pub size_at : List ℕ → ℕ → ℕ
size_at sizes k = slice_index_or sizes k 0

-- at any point at most
abbrev pub largest : List ℕ → ℕ
largest [] = 0
largest (size ∷ sizes) = max size (largest sizes)

-- it lies between two of so many points
abbrev pub IsBetween : ℕ → NullEdge → Type 0
IsBetween points edge = (edge.from < points) × (edge.to < points)

-- where the method that is asked for starts: its receiver, where it has one, is no null
abbrev pub start_slots : Bool → List Bool
start_slots receiver = if receiver then true ∷ [] else []

abbrev pub start_at : Bool → List ℕ → ℕ → NullFact
start_at receiver sizes k = if k == 0 then facts.Known (fitted (size_at sizes k) (start_slots receiver)) else facts.Unreached

abbrev pub null_problem : Bool → List ℕ → List NullEdge → Problem NullFact
null_problem receiver sizes edges = record {
  points = length sizes;
  edges = length edges;
  height = largest sizes + 2;
  source = λ e. (edge_at edges e).from;
  also = λ e. None;
  goal = λ e. (edge_at edges e).to;
  IsFact = λ k fact. IsFactOf (size_at sizes k) fact;
  start = start_at receiver sizes;
  transfer = λ e fact also. fact_along (edge_at edges e) (size_at sizes (edge_at edges e).to) fact;
}
