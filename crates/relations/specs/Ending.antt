-- How the ways through a node's rules end.
use Rattle.std.specs.Prelude.{ℕ, ◌-◌, ◌<◌, List, Option, slice_get, option_and_then, IsSome}
use Rattle.relations.specs.declared.ending.PathEnd.{PathEnd}

-- for each node, the ends of its paths, in the order of its rules and of each rule's paths
abbrev pub PathEnds : Type 0
PathEnds = List (List PathEnd)

-- the end of a path of a node; paths count from 1
abbrev pub path_at : PathEnds → ℕ → ℕ → Option PathEnd
path_at ends node path = option_and_then (λ (paths : List PathEnd). slice_get paths (path - 1)) (slice_get ends node)

-- the node has a path of this number
abbrev pub IsPath : PathEnds → ℕ → ℕ → Type 0
IsPath ends node path = (0 < path) × IsSome (path_at ends node path)
