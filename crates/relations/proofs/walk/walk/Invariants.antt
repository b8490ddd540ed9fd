use Rattle.std.proofs.Common.{◌≡◌, ◌+◌, ◌≤◌, ℕ, []}
use Rattle.rule_terms.specs.Terms.{term_of}
use Rattle.relations.specs.Relation.{sizes_of}
use Rattle.relations.specs.Scope.{term_limit}
use Rattle.relations.specs.inside.Walk.{marks_walk, marks_size, made_of, term_walk, size_of}
use Rattle.relations.proofs.walk.walk.Given as goal

abbrev pub invariant-loop-below : goal.invariant-loop-below
invariant-loop-below l = record {
  same : marks_walk (sizes_of l.nodes) l.sizes l.marks (term_walk (sizes_of l.nodes) l.sizes (made_of l.marks) l.along l.before (term_of l.below)) ≡ term_walk (sizes_of l.nodes) l.sizes [] 0 l.count (term_of l.rule);
  room : l.before + l.along ≤ term_limit;
}

abbrev pub decreases-loop-below : goal.decreases-loop-below
decreases-loop-below l = marks_size l.marks + size_of (term_of l.below)
