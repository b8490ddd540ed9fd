use Rattle.std.proofs.Common.{◌≡◌, take}
use Rattle.node_certificates.proofs.steps.copied_lins.Given as goal

abbrev pub invariant-loop-lin : goal.invariant-loop-lin
invariant-loop-lin l = l.made ≡ take l.lin-index l.lins
