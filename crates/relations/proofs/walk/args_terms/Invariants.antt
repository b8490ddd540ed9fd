use Rattle.std.proofs.Common.{◌≡◌, ◌≤◌, ◌+◌, ◌*◌, ◌^◌, drop}
use Rattle.relations.specs.Scope.{args_terms_of}
use Rattle.relations.proofs.walk.args_terms.Given as goal

abbrev pub invariant-loop-lin : goal.invariant-loop-lin
invariant-loop-lin l = record {
  is : l.total + args_terms_of (drop l.lin-index l.args) ≡ args_terms_of l.args;
  small : l.total ≤ l.lin-index * 2 ^ 32;
}
