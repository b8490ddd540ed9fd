use Rattle.std.proofs.Common.{◌≡◌, drop}
use Rattle.std.specs.Prelude.{◌&&◌, not}
use Rattle.std.specs.List.{list_any}
use Rattle.bound_forms.specs.Maxima.{covers}
use Rattle.bound_forms.specs.Coded.{coded_form}
use Rattle.bound_forms.specs.Answered.{coded_forms}
use Rattle.bound_forms.proofs.maxima.is_exceeded.Given as goal

abbrev pub invariant-loop-q : goal.invariant-loop-q
invariant-loop-q l =
    list_any (λ q. covers q (coded_form l.p) && not (covers (coded_form l.p) q)) (coded_forms (drop l.q-index l.behind)) ≡ list_any (λ q. covers q (coded_form l.p) && not (covers (coded_form l.p) q)) (coded_forms l.behind)
