-- The ways of a relation's nodes, and how they end.
use Rattle.std.specs.Prelude.{ℕ, zero, suc, List, [], ◌∷◌}
use Rattle.relations.specs.declared.node.Node.{Node}
use Rattle.relations.specs.declared.ending.PathEnd.{PathEnd}
use Rattle.relations.specs.Relation.{Relation, ways_of}
use Rattle.relations.specs.Ending.{PathEnds}
use Rattle.relation_runs.specs.Passing.{Ways}
use Rattle.relation_runs.specs.Leading.{WayEnds}

-- none where there is no such node
abbrev pub ways_in : Relation → Ways
ways_in [] n = []
ways_in (node ∷ nodes) zero = ways_of node.rules
ways_in (node ∷ nodes) (suc n) = ways_in nodes n

abbrev pub ends_in : PathEnds → WayEnds
ends_in [] n = []
ends_in (paths ∷ ends) zero = paths
ends_in (paths ∷ ends) (suc n) = ends_in ends n
