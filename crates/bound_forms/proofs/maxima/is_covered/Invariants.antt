use Rattle.std.proofs.Common.{◌≡◌, drop}
use Rattle.std.specs.List.{list_any}
use Rattle.bound_forms.specs.Maxima.{covers}
use Rattle.bound_forms.specs.Coded.{coded_form}
use Rattle.bound_forms.specs.Answered.{coded_forms}
use Rattle.bound_forms.proofs.maxima.is_covered.Given as goal

abbrev pub invariant-loop-q : goal.invariant-loop-q
invariant-loop-q l = list_any (λ q. covers q (coded_form l.p)) (coded_forms (drop l.q-index l.before)) ≡ list_any (λ q. covers q (coded_form l.p)) (coded_forms l.before)
