use Rattle.std.proofs.Common.{◌≡◌, drop}
use Rattle.std.specs.List.{list_all}
use Rattle.lin_rows.specs.Linear.{Linear}
use Rattle.relations.specs.Scope.{lin_bound}
use Rattle.relations.specs.inside.Walk.{made_of}
use Rattle.relations.proofs.walk.all_known.Given as goal

abbrev pub invariant-loop-lin : goal.invariant-loop-lin
invariant-loop-lin l =
    list_all (λ (m : Linear). lin_bound l.sizes (made_of l.marks) m) l.lins ≡ list_all (λ (m : Linear). lin_bound l.sizes (made_of l.marks) m) (drop l.lin-index l.lins)
