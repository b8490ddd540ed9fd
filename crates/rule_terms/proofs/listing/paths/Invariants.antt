use Rattle.std.proofs.Common.{◌≡◌, ◌++◌, length}
use Rattle.rule_terms.specs.Terms.{term_of}
use Rattle.rule_terms.specs.Paths.{paths_of}
use Rattle.rule_terms.proofs.listing.paths.Given as goal

abbrev pub invariant-loop-way : goal.invariant-loop-way
invariant-loop-way l = l.listed.items ++ l.ways ≡ paths_of (term_of l.rule)

abbrev pub decreases-loop-way : goal.decreases-loop-way
decreases-loop-way l = length l.ways
