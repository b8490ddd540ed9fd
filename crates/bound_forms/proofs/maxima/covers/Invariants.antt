use Rattle.std.proofs.Common.{◌≡◌, ◌≤◌, length, drop}
use Rattle.bound_forms.specs.Maxima.{covers}
use Rattle.bound_forms.specs.Coded.{coded_form}
use Rattle.bound_forms.proofs.maxima.covers.Given as goal

abbrev pub invariant-loop-m : goal.invariant-loop-m
invariant-loop-m l = (l.j ≤ length l.q) × (covers (coded_form (drop l.j l.q)) (coded_form (drop l.m-index l.p)) ≡ covers (coded_form l.q) (coded_form l.p))
